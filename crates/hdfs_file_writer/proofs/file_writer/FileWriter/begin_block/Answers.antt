-- The goals of FileWriter::begin_block.
use Rattle.std.proofs.Common.{◌∙◌, arith, [], List, ℕ, refl, sym, subst}
use Rattle.std.proofs.lemmas.Result.{err_from_is_err_and}
use Rattle.hdfs_cluster.specs.Requests.{AreFirst}
use Rattle.hdfs_namenode.specs.Clients.{name_of, proxy_of}
use Rattle.hdfs_namenode.specs.Views.{see, view_of}
use Rattle.hdfs_namenode.proofs.Seeing.{view_same}
use Rattle.hdfs_namenode.proofs.Services.{same_client_refl, same_client_trans}
use Rattle.hdfs_file_writer.specs.declared.file_writer.FileWriter.{FileWriter}
use Rattle.hdfs_file_writer.specs.Tries.{HasTried}
use Rattle.hdfs_file_writer.specs.Writers.{FailsOtherwise, IsAnswered}
use Rattle.hdfs_file_writer.proofs.Tried.{none_first, none_tried}
use Rattle.hdfs_file_writer.proofs.Seeing.{adds_behind, keeps_behind, wrote_behind}
use Rattle.hdfs_file_writer.proofs.file_writer.FileWriter.begin_block.Goals as goal

pub tries-init : goal.tries-init
tries-init g c = record {
  same = refl;
  client = same_client_refl c.args.namenode.now;
  first = none_first g.C.Cluster.may_answer (name_of c.args.namenode.now) c.args.self.now.path c.args.self.now.file_id c.new-tries.result.excluded
      c.new-tries.ensures.0;
  tried = λ view has. none_tried (see view (g.C.Cluster.shown c.args.cluster.now)) c.args.self.now c.new-tries.result c.new-tries.ensures.1;
}

pub try_block-requires-clause-adds : goal.try_block-requires-clause-adds
try_block-requires-clause-adds g c =
    let before = c.tries.invariant in
    adds_behind g.C.Cluster.shown c.args.cluster.now c.tries.cluster before.client before.same (λ view has. (before.tried view has).wrote) g.C.Cluster.allows
    g.C.Cluster.may_answer c.requires.adds.service c.requires.adds.allowed
    (subst (IsAnswered g.C.Cluster.may_answer (name_of c.args.namenode.now)) (sym before.same) c.requires.adds.answered) (λ full. full) c.requires.adds.full

pub returns-then-branch-clause-wrote : goal.returns-then-branch-clause-wrote
returns-then-branch-clause-wrote g c =
    let before = c.tries.invariant in
    wrote_behind g.C.Cluster.shown c.args.cluster.now c.tries.cluster before.client before.same (λ view has. (before.tried view has).wrote) c.try_block.new.cluster []
    c.try_block.new.self (c.in_ok-try_block.ensures.begun c.if-branch.true)

pub returns-then-branch-clause-keeps : goal.returns-then-branch-clause-keeps
returns-then-branch-clause-keeps g c =
    let before = c.tries.invariant in
    keeps_behind g.C.Cluster.shown c.args.cluster.now c.tries.cluster before.client before.same (λ view has. (before.tried view has).wrote) c.try_block.new.self
    c.try_block.new.namenode c.try_block.ensures.keeps

pub returns-in_err-try_block-clause-err : goal.returns-in_err-try_block-clause-err
returns-in_err-try_block-clause-err g c =
    let p = err_from_is_err_and c.from_residual.result c.from_residual.ensures.1 in
    rw (p.1, p.2) (λ view has.
    let s = g.C.Cluster.shown c.args.cluster.now in
    let now = g.C.Cluster.shown c.tries.cluster in
    let t = see view (g.C.Cluster.shown c.try_block.new.cluster) in
    let before = c.tries.invariant in
    let tried = before.tried view has in
    let has' = view_same view (proxy_of c.args.namenode.now) (proxy_of c.tries.namenode) s now before.client.service
    tried.wrote.own.later.namenodes has in
    subst (λ (x : FileWriter). FailsOtherwise (see view s) x c.in_err-try_block.field-0.0 t) before.same (c.in_err-try_block.ensures.err view has' (see view s) tried))

pub tries-preserved : goal.tries-preserved
tries-preserved g c =
    let before = c.tries.invariant in
    let s = g.C.Cluster.shown c.args.cluster.now in
    let now = g.C.Cluster.shown c.tries.cluster in
    let new = g.C.Cluster.shown c.try_block.new.cluster in
    let again = c.in_ok-try_block.ensures.again (view_of (proxy_of c.tries.namenode)) (refl, refl) c.if-branch.false in
    record {
      same = again.same ∙ before.same;
      client = same_client_trans c.args.namenode.now c.tries.namenode c.try_block.new.namenode before.client c.try_block.ensures.keeps.1;
      first =
          subst (λ (x : FileWriter). AreFirst g.C.Cluster.may_answer (name_of c.try_block.new.namenode) x.path x.file_id c.try_block.new.tries.excluded)
          (sym again.same)
          (subst (λ (name : List ℕ). AreFirst g.C.Cluster.may_answer name c.tries.self.path c.tries.self.file_id c.try_block.new.tries.excluded)
          (sym c.try_block.ensures.keeps.1.name) again.first);
      tried = λ view has.
          (let tried = before.tried view has in
          let has' = view_same view (proxy_of c.args.namenode.now) (proxy_of c.tries.namenode) s now before.client.service
          tried.wrote.own.later.namenodes has in
          subst (λ (x : FileWriter). HasTried (see view s) x c.try_block.new.tries (see view new)) (sym again.same)
          ((c.in_ok-try_block.ensures.again view has' c.if-branch.false).tried (see view s) tried));
    }

pub tries-smaller : goal.tries-smaller
tries-smaller g c =
    let again = c.in_ok-try_block.ensures.again (view_of (proxy_of c.tries.namenode)) (refl, refl) c.if-branch.false in
    omega (arith, again.fewer)

pub returns-in_err-try_block-clause-keeps : goal.returns-in_err-try_block-clause-keeps
returns-in_err-try_block-clause-keeps g c =
    let before = c.tries.invariant in
    keeps_behind g.C.Cluster.shown c.args.cluster.now c.tries.cluster before.client before.same (λ view has. (before.tried view has).wrote) c.try_block.new.self
    c.try_block.new.namenode c.try_block.ensures.keeps
