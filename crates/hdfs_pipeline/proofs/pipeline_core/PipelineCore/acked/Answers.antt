use Rattle.std.proofs.Common.{refl}
use Rattle.hdfs_pipeline.specs.declared.event.Event.TheVariants.{Acked}
use Rattle.hdfs_pipeline.proofs.Rows.{stays_ended}
use Rattle.hdfs_pipeline.proofs.Running.{follows}
use Rattle.hdfs_pipeline.proofs.pipeline_core.PipelineCore.acked.Goals as goal
use Rattle.hdfs_pipeline.proofs.pipeline_core.PipelineCore.acked.Goals.{then-not-has_ended, else-not-has_ended}

pub returns-clause-follows : goal.returns-clause-follows
returns-clause-follows c =
    elim c.if-not-has_ended.branch [
      | then-not-has_ended w ↦ rw w.self-is (follows c.args.self.now _ (Acked c.args.ack.now) w.enter.ensures)
      | else-not-has_ended w ↦ rw w.self-is (stays_ended c.args.self.now c.has_ended.ensures.core.forgets (Acked c.args.ack.now) (w.if-not-has_ended.ensures.ended.0 refl) refl)
    ]
