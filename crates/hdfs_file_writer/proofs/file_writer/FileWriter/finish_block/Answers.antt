-- The goals of FileWriter::finish_block.
use Rattle.std.proofs.Common.{◌≡◌, ◌∙◌, Some, refl, sym, ap}
use Rattle.std.proofs.lemmas.Result.{err_from_is_err_and}
use Rattle.hdfs_cluster.specs.declared.messages.Block.{Block}
use Rattle.hdfs_cluster.specs.Sound.{IsSound}
use Rattle.hdfs_namenode.specs.Clients.{name_of, proxy_of}
use Rattle.hdfs_namenode.specs.Views.{see, view_of}
use Rattle.hdfs_file_writer.specs.Tails.{going_of, reopened_of}
use Rattle.hdfs_file_writer.specs.declared.tails.Tail.TheVariants.{Going}
use Rattle.hdfs_file_writer.proofs.Allowed.{answered_closed, answered_going, answered_idle, answered_left, answered_reopened, may_go_on}
use Rattle.hdfs_file_writer.proofs.Blocks.{settled_full, ended_full}
use Rattle.hdfs_file_writer.proofs.Seeing.{block_seen, shows_seen}
use Rattle.hdfs_file_writer.proofs.Standing.{ended_wrote, gave_up_fails, settled_wrote}
use Rattle.hdfs_file_writer.proofs.file_writer.FileWriter.finish_block.Goals as goal

pub returns-in-Some-clause-wrote : goal.returns-in-Some-clause-wrote
returns-in-Some-clause-wrote g c = λ view has.
    let w = c.args.self.now in
    settled_wrote (see view (g.C.Cluster.shown c.args.cluster.now)) w (record w { tail = c.set.new.self }) c.in-Some.located
    (record { path = refl; file_id = refl; sizes = refl }) c.in-Some.ensures.some.0 c.set.ensures

pub returns-in-Some-clause-between : goal.returns-in-Some-clause-between
returns-in-Some-clause-between g c =
    let w = c.args.self.now in (
      record { none = ap going_of c.set.ensures; done = ap reopened_of c.set.ensures },
      settled_full w.sizes.block_size w (record w { tail = c.set.new.self }) c.in-Some.located c.in-Some.ensures.some.0 c.set.ensures,
    )

pub returns-in-Some-clause-answered : goal.returns-in-Some-clause-answered
returns-in-Some-clause-answered g c =
    let w = c.args.self.now in
    let located = c.in-Some.located in
    answered_idle w (record w { tail = c.set.new.self }) (Some located.b) (record { path = refl; file_id = refl; sizes = refl }) c.set.ensures
    c.requires.may.answered (λ fine. answered_left located (answered_reopened w c.in-Some.ensures.some.0 c.requires.may.answered))

pub close-requires : goal.close-requires
close-requires g c =
    let w = c.args.self.now in
    let block = c.in-Some-take_going.block in
    let going : w.tail ≡ Going block = sym (c.take_reopened.ensures.none c.in-None.is).0 ∙ c.in-Some-take_going.ensures.some.0 in
    let stands = c.requires.may.stands.going block going in
    record {
      service = c.requires.may.service;
      allowed =
          may_go_on g.C.Cluster.may_answer (name_of c.args.namenode.now) (name_of c.args.namenode.now) block w w refl
          (record { path = refl; file_id = refl; sizes = refl }) stands (answered_going w going c.requires.may.answered) c.requires.may.allowed;
      stands = stands.stands;
    }

pub returns-in_err-done-in-Some-take_going-clause-err : goal.returns-in_err-done-in-Some-take_going-clause-err
returns-in_err-done-in-Some-take_going-clause-err g c =
    let p = err_from_is_err_and c.from_residual.result c.from_residual.ensures.1 in
    rw (p.1, p.2) (λ view has.
    let s = g.C.Cluster.shown c.args.cluster.now in
    let t = g.C.Cluster.shown c.close.new.cluster in
    let w = c.args.self.now in
    let block = c.in-Some-take_going.block in
    let going : w.tail ≡ Going block = sym (c.take_reopened.ensures.none c.in-None.is).0 ∙ c.in-Some-take_going.ensures.some.0 in
    gave_up_fails (see view s) (see view t) (shows_seen view IsSound s (g.met.C.Cluster.sound c.args.cluster.now))
    (shows_seen view IsSound t (g.met.C.Cluster.sound c.close.new.cluster)) w block going (c.requires.may.stands.is_open c.requires.fine block going)
    (block_seen view s (c.requires.may.stands.going block going)) c.in_err-done-in-Some-take_going.field-0.0
    (c.in_err-done-in-Some-take_going.ensures.err view has))

pub returns-in_ok-done-in-Some-take_going-clause-between : goal.returns-in_ok-done-in-Some-take_going-clause-between
returns-in_ok-done-in-Some-take_going-clause-between g c =
    let w = c.args.self.now in
    let block = c.in-Some-take_going.block in
    let done = c.in_ok-done-in-Some-take_going.done in
    let set = c.set-in-Some-take_going.ensures in (
      record { none = ap going_of set; done = ap reopened_of set },
      ended_full w.sizes.block_size w (record w { tail = c.set-in-Some-take_going.new.self }) block done (sym (c.take_reopened.ensures.none c.in-None.is).0 ∙ c.in-Some-take_going.ensures.some.0) set
          (ap (λ (b : Block). b.num_bytes) (c.in_ok-done-in-Some-take_going.ensures.closed (view_of (proxy_of c.args.namenode.now)) (refl, refl)).1),
    )

pub returns-in_ok-done-in-Some-take_going-clause-wrote : goal.returns-in_ok-done-in-Some-take_going-clause-wrote
returns-in_ok-done-in-Some-take_going-clause-wrote g c = λ view has.
    let s = g.C.Cluster.shown c.args.cluster.now in
    let t = g.C.Cluster.shown c.close.new.cluster in
    let w = c.args.self.now in
    ended_wrote (see view s) (see view t) (shows_seen view IsSound s (g.met.C.Cluster.sound c.args.cluster.now))
    (shows_seen view IsSound t (g.met.C.Cluster.sound c.close.new.cluster)) w c.in-Some-take_going.block
    (sym (c.take_reopened.ensures.none c.in-None.is).0 ∙ c.in-Some-take_going.ensures.some.0)
    (record w { tail = c.set-in-Some-take_going.new.self }) (record { path = refl; file_id = refl; sizes = refl }) c.in_ok-done-in-Some-take_going.done c.set-in-Some-take_going.ensures
    (c.in_ok-done-in-Some-take_going.ensures.closed view has)

pub returns-in_ok-done-in-Some-take_going-clause-answered : goal.returns-in_ok-done-in-Some-take_going-clause-answered
returns-in_ok-done-in-Some-take_going-clause-answered g c =
    let w = c.args.self.now in
    let block = c.in-Some-take_going.block in
    let done = c.in_ok-done-in-Some-take_going.done in
    let going : w.tail ≡ Going block = sym (c.take_reopened.ensures.none c.in-None.is).0 ∙ c.in-Some-take_going.ensures.some.0 in
    answered_idle w (record w { tail = c.set-in-Some-take_going.new.self }) (Some done) (record { path = refl; file_id = refl; sizes = refl }) c.set-in-Some-take_going.ensures
    c.requires.may.answered
    (λ fine. answered_closed block done (c.requires.may.stands.is_open c.requires.fine block going) (answered_going w going c.requires.may.answered)
    c.in_ok-done-in-Some-take_going.ensures.answered)
