-- The goals of FileWriter::end.
use Rattle.std.proofs.Common.{[], ap, refl, subst}
use Rattle.std.proofs.lemmas.Result.{IfErr-weaker, err_from_is_err_and, on_ok_weaker}
use Rattle.hdfs_cluster.specs.Shown.{SameNodes, Shown}
use Rattle.hdfs_namenode.specs.Views.{see}
use Rattle.hdfs_file_writer.proofs.Joining.{closed_after, fails_to_close, fails_to_close_after}
use Rattle.hdfs_file_writer.proofs.Standing.{idle_none}
use Rattle.hdfs_file_writer.proofs.Seeing.{seen_behind, service_behind}
use Rattle.hdfs_file_writer.proofs.file_writer.FileWriter.end.Goals as goal

pub returns-clause-idle : goal.returns-clause-idle
returns-clause-idle g c = λ idle.
    let none = idle_none (g.C.Cluster.shown c.args.cluster.now) c.args.self.now c.requires.stands c.if-self.false idle in
    subst (λ (s : Shown). SameNodes s (g.C.Cluster.shown c.complete.new.cluster)) (ap g.C.Cluster.shown (c.finish_block.ensures.idle none)) c.complete.ensures.nodes

pub returns-clause-closed : goal.returns-clause-closed
returns-clause-closed g c =
    on_ok_weaker c.complete.result
    (seen_behind g.C.Cluster.shown c.args.cluster.now c.finish_block.new.cluster c.finish_block.ensures.keeps.2 refl c.in_ok-finish_block.ensures.wrote
    c.complete.new.cluster (λ a b d. closed_after a b d c.args.self.now c.finish_block.new.self))
    c.complete.ensures.closed

pub returns-clause-err : goal.returns-clause-err
returns-clause-err g c =
    IfErr-weaker c.complete.result _ _
    (λ error told view has fine. seen_behind g.C.Cluster.shown c.args.cluster.now c.finish_block.new.cluster c.finish_block.ensures.keeps.2 refl c.in_ok-finish_block.ensures.wrote
    c.complete.new.cluster (λ a b d. fails_to_close_after a b d c.args.self.now c.finish_block.new.self [] error) told view has)
    c.complete.ensures.err

pub returns-in_err-finish_block-clause-err : goal.returns-in_err-finish_block-clause-err
returns-in_err-finish_block-clause-err g c =
    let p = err_from_is_err_and c.from_residual.result c.from_residual.ensures.1 in
    rw (p.1, p.2) (λ view has fine.
    fails_to_close (see view (g.C.Cluster.shown c.args.cluster.now)) (see view (g.C.Cluster.shown c.finish_block.new.cluster)) c.args.self.now
    c.in_err-finish_block.field-0.0 (c.in_err-finish_block.ensures.err view has))

pub complete-requires-clause-service : goal.complete-requires-clause-service
complete-requires-clause-service g c =
    service_behind g.C.Cluster.shown c.args.cluster.now c.finish_block.new.cluster c.finish_block.ensures.keeps.2 refl c.in_ok-finish_block.ensures.wrote
    c.requires.service
