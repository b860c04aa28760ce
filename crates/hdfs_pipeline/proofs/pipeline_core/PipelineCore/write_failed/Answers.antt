use Rattle.std.proofs.Common.{refl, arith}
use Rattle.std.proofs.lemmas.Bool.Decides.{nat_tests}
use Rattle.hdfs_pipeline.specs.declared.event.Event.TheVariants.{WriteFailed}
use Rattle.hdfs_pipeline.specs.Inside.{shown}
use Rattle.hdfs_pipeline.proofs.Rows.{going_from, fails_to_write, fails_at_nothing, stays_ended}
use Rattle.hdfs_pipeline.proofs.pipeline_core.PipelineCore.write_failed.Goals as goal
use Rattle.hdfs_pipeline.proofs.pipeline_core.PipelineCore.write_failed.Goals.{else-not-has_ended-via-then-not-has_ended+else-self, else-not-has_ended-via-else-not-has_ended}

pub returns-then-self : goal.returns-then-self
returns-then-self c =
    let core = c.if-not-has_ended.ensures in
    rw c.fail_first.ensures (fails_to_write c.args.self.now core.core.forgets (going_from c.args.self.now.end core.ended.1) (rw (← c.self.view_is) (grind (arith, nat_tests))))

pub returns-else-not-has_ended : goal.returns-else-not-has_ended
returns-else-not-has_ended c =
    elim c.else-not-has_ended.branch [
      | else-not-has_ended-via-then-not-has_ended+else-self w ↦ rw (← c.self.view_is) (fails_at_nothing (shown c.self.inside) refl (grind (arith, nat_tests)))
      | else-not-has_ended-via-else-not-has_ended w ↦ stays_ended c.args.self.now c.has_ended.ensures.core.forgets WriteFailed (w.if-not-has_ended.ensures.ended.0 refl) refl
    ]
