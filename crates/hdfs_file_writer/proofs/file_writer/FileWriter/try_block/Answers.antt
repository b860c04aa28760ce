-- The goals of FileWriter::try_block.
use Rattle.std.proofs.Common.{◌∙◌, arith, [], List, ℕ, refl, sym, subst, true}
use Rattle.std.proofs.lemmas.Result.{err_from_is_err_and}
use Rattle.hdfs_cluster.specs.Requests.{IsAdded, IsFirstSetup}
use Rattle.hdfs_cluster.specs.Sound.{IsSound}
use Rattle.hdfs_namenode.specs.Clients.{name_of, proxy_of}
use Rattle.hdfs_namenode.specs.Views.{see, view_of}
use Rattle.hdfs_namenode.proofs.Seeing.{view_same}
use Rattle.hdfs_namenode.proofs.Services.{same_client_trans, service_same}
use Rattle.hdfs_file_writer.specs.declared.file_writer.FileWriter.{FileWriter}
use Rattle.hdfs_file_writer.specs.declared.tails.Tail.TheVariants.{Reopened}
use Rattle.hdfs_file_writer.specs.Tries.{EndsTries, LeavesCandidate, NotSetUp}
use Rattle.hdfs_file_writer.proofs.Joining.{wrote_trans, fails_after}
use Rattle.hdfs_file_writer.proofs.Seeing.{not_set_up_seen, shows_seen, wrote_seen}
use Rattle.hdfs_file_writer.proofs.Tried.{added_starves, later_unset, tries_end, tries_on}
use Rattle.hdfs_file_writer.proofs.file_writer.FileWriter.try_block.Goals as goal

pub new-requires : goal.new-requires
new-requires g c = record { some = (c.in_ok-located.ensures.adds (view_of (proxy_of c.args.namenode.now)) (refl, refl)).block.some }

pub open_block-requires-clause-located : goal.open_block-requires-clause-located
open_block-requires-clause-located g c =
    let adds = c.in_ok-located.ensures.adds (view_of (proxy_of c.args.namenode.now)) (refl, refl) in
    record {
      answered =
          subst (λ (client : List ℕ). IsAdded g.C.Cluster.may_answer client c.args.self.now.path c.args.self.now.file_id c.in_ok-located.located)
          (sym c.next_block.ensures.client.name) c.in_ok-located.ensures.answered;
      block = adds.block;
      room = omega (arith, adds.empty, c.requires.begins.sizes.limited.block);
    }

pub open_block-requires-clause-allowed : goal.open_block-requires-clause-allowed
open_block-requires-clause-allowed g c = λ setup first.
    c.requires.adds.allowed.opens c.in_ok-located.located true c.in_ok-located.ensures.answered setup
    (subst (λ (client : List ℕ). IsFirstSetup true c.in_ok-located.located client setup) c.next_block.ensures.client.name first)

pub give_up-requires-clause-service : goal.give_up-requires-clause-service
give_up-requires-clause-service g c =
    let s = g.C.Cluster.shown c.args.cluster.now in
    let m = g.C.Cluster.shown c.next_block.new.cluster in
    let t = g.C.Cluster.shown c.open_block.new.cluster in
    let adds = c.in_ok-located.ensures.adds (view_of (proxy_of c.args.namenode.now)) (refl, refl) in
    let later =
    later_unset (name_of c.next_block.new.namenode) true c.in_ok-located.located m t c.in-Err.fault c.in-Err.ensures.err.1 in
    service_same (proxy_of c.args.namenode.now) (proxy_of c.next_block.new.namenode) s t c.next_block.ensures.client.service
    (later.namenodes ∙ adds.wrote.own.later.namenodes) c.requires.adds.service

pub returns-in-Ok-clause-begun : goal.returns-in-Ok-clause-begun
returns-in-Ok-clause-begun g c = λ begun view has.
    let s = see view (g.C.Cluster.shown c.args.cluster.now) in
    let m = see view (g.C.Cluster.shown c.next_block.new.cluster) in
    let t = see view (g.C.Cluster.shown c.open_block.new.cluster) in
    let w = c.args.self.now in
    wrote_trans s m t w (record w { tail = Reopened c.in_ok-located.located }) c.open_block.new.self [] [] (c.in_ok-located.ensures.adds view has).wrote
    (wrote_seen view refl c.in-Ok.ensures.wrote)

pub returns-in_err-located-clause-err : goal.returns-in_err-located-clause-err
returns-in_err-located-clause-err g c =
    let p = err_from_is_err_and c.from_residual.result c.from_residual.ensures.1 in
    rw (p.1, p.2) (λ view has start tried.
    let w = c.args.self.now in
    fails_after start (see view (g.C.Cluster.shown c.args.cluster.now)) (see view (g.C.Cluster.shown c.next_block.new.cluster)) w w []
    c.in_err-located.field-0.0 tried.wrote (c.in_err-located.ensures.err view has))

pub returns-in_err-candidate-clause-err : goal.returns-in_err-candidate-clause-err
returns-in_err-candidate-clause-err g c =
    let p = err_from_is_err_and c.from_residual-in_err-candidate.result c.from_residual-in_err-candidate.ensures.1 in
    rw (p.1, p.2) (λ view has start tried.
    added_starves (see view (g.C.Cluster.shown c.args.cluster.now)) (see view (g.C.Cluster.shown c.next_block.new.cluster)) c.args.self.now
    c.requires.begins.between (name_of c.args.namenode.now) c.as_slice.result.now c.in_ok-located.located (c.in_ok-located.ensures.adds view has)
    c.args.tries.now start tried)

pub returns-in_ok-give_up-in-Err-clause-again : goal.returns-in_ok-give_up-in-Err-clause-again
returns-in_ok-give_up-in-Err-clause-again g c = λ view has again.
    let a = g.C.Cluster.shown c.args.cluster.now in
    let m = g.C.Cluster.shown c.next_block.new.cluster in
    let b = g.C.Cluster.shown c.open_block.new.cluster in
    let d = g.C.Cluster.shown c.give_up.new.cluster in
    let w = c.args.self.now in
    let client = name_of c.args.namenode.now in
    let tries = c.args.tries.now in
    let located = c.in_ok-located.located in
    let fault = c.in-Err.fault in
    let name = c.next_block.ensures.client.name in
    let same = c.in-Err.ensures.err.0 in
    let adds = c.in_ok-located.ensures.adds view has in
    let later = later_unset (name_of c.next_block.new.namenode) true located m b fault c.in-Err.ensures.err.1 in
    let has' = view_same view (proxy_of c.args.namenode.now) (proxy_of c.next_block.new.namenode) a b c.next_block.ensures.client.service
    (later.namenodes ∙ adds.wrote.own.later.namenodes) has in
    let left =
    subst (λ (x : FileWriter). LeavesCandidate client x tries c.in_ok-candidate.candidate fault (see view b) c.give_up.new.tries (see view d)) same
    (subst (λ (who : List ℕ). LeavesCandidate who c.open_block.new.self tries c.in_ok-candidate.candidate fault (see view b) c.give_up.new.tries (see view d))
    name (c.in_ok-give_up-in-Err.ensures.left view has')) in
    tries_on (see view a) (see view m) (see view b) (see view d) (shows_seen view IsSound a (g.met.C.Cluster.sound c.args.cluster.now))
    (shows_seen view IsSound b (g.met.C.Cluster.sound c.open_block.new.cluster)) w c.requires.begins.between client c.as_slice.result.now located adds
    fault (not_set_up_seen view (subst (λ (who : List ℕ). NotSetUp who true located m fault b) name c.in-Err.ensures.err.1)) tries
    c.in_ok-candidate.candidate c.in_ok-candidate.ensures.kept g.C.Cluster.may_answer c.open_block.new.self c.give_up.new.tries same c.requires.first
    c.in_ok-located.ensures.answered left

pub returns-in_err-give_up-in-Err-clause-err : goal.returns-in_err-give_up-in-Err-clause-err
returns-in_err-give_up-in-Err-clause-err g c =
    let p = err_from_is_err_and c.from_residual-in_err-give_up-in-Err.result c.from_residual-in_err-give_up-in-Err.ensures.1 in
    rw (p.1, p.2) (λ view has start tried.
    let a = g.C.Cluster.shown c.args.cluster.now in
    let m = g.C.Cluster.shown c.next_block.new.cluster in
    let b = g.C.Cluster.shown c.open_block.new.cluster in
    let d = g.C.Cluster.shown c.give_up.new.cluster in
    let w = c.args.self.now in
    let client = name_of c.args.namenode.now in
    let tries = c.args.tries.now in
    let located = c.in_ok-located.located in
    let fault = c.in-Err.fault in
    let name = c.next_block.ensures.client.name in
    let same = c.in-Err.ensures.err.0 in
    let adds = c.in_ok-located.ensures.adds view has in
    let later = later_unset (name_of c.next_block.new.namenode) true located m b fault c.in-Err.ensures.err.1 in
    let has' = view_same view (proxy_of c.args.namenode.now) (proxy_of c.next_block.new.namenode) a b c.next_block.ensures.client.service
    (later.namenodes ∙ adds.wrote.own.later.namenodes) has in
    let ends =
    subst (λ (x : FileWriter). EndsTries client x tries c.in_ok-candidate.candidate fault (see view b) c.in_err-give_up-in-Err.field-0.0 (see view d)) same
    (subst (λ (who : List ℕ). EndsTries who c.open_block.new.self tries c.in_ok-candidate.candidate fault (see view b) c.in_err-give_up-in-Err.field-0.0 (see view d))
    name (c.in_err-give_up-in-Err.ensures.err view has')) in
    tries_end (see view a) (see view m) (see view b) (see view d) (shows_seen view IsSound a (g.met.C.Cluster.sound c.args.cluster.now))
    (shows_seen view IsSound b (g.met.C.Cluster.sound c.open_block.new.cluster)) w c.requires.begins.between client c.as_slice.result.now located adds
    fault (not_set_up_seen view (subst (λ (who : List ℕ). NotSetUp who true located m fault b) name c.in-Err.ensures.err.1)) tries
    c.in_ok-candidate.candidate c.in_ok-candidate.ensures.kept c.in_err-give_up-in-Err.field-0.0 ends start tried)

pub returns-in_ok-give_up-in-Err-clause-keeps : goal.returns-in_ok-give_up-in-Err-clause-keeps
returns-in_ok-give_up-in-Err-clause-keeps g c = (
  c.open_block.ensures.keeps,
  same_client_trans c.args.namenode.now c.next_block.new.namenode c.give_up.new.namenode c.next_block.ensures.client c.give_up.ensures.client,
)

pub returns-in_err-give_up-in-Err-clause-keeps : goal.returns-in_err-give_up-in-Err-clause-keeps
returns-in_err-give_up-in-Err-clause-keeps g c = (
  c.open_block.ensures.keeps,
  same_client_trans c.args.namenode.now c.next_block.new.namenode c.give_up.new.namenode c.next_block.ensures.client c.give_up.ensures.client,
)
