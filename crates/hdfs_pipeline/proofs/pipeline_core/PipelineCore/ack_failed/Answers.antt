use Rattle.std.proofs.Common.{refl}
use Rattle.hdfs_pipeline.specs.declared.event.Event.TheVariants.{AckFailed}
use Rattle.hdfs_pipeline.proofs.Rows.{going_from, fails_to_ack, stays_ended}
use Rattle.hdfs_pipeline.proofs.pipeline_core.PipelineCore.ack_failed.Goals as goal

pub returns-then-not-has_ended : goal.returns-then-not-has_ended
returns-then-not-has_ended c =
    let core = c.if-not-has_ended.ensures in
    rw c.fail_first.ensures (fails_to_ack c.args.self.now core.core.forgets (going_from c.args.self.now.end core.ended.1))

pub returns-else-not-has_ended : goal.returns-else-not-has_ended
returns-else-not-has_ended c =
    let core = c.if-not-has_ended.ensures in
    stays_ended c.args.self.now core.core.forgets AckFailed (core.ended.0 refl) refl
