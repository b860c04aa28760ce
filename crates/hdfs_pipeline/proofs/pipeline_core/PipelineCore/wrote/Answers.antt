use Rattle.std.proofs.Common.{refl}
use Rattle.hdfs_pipeline.specs.declared.event.Event.TheVariants.{Wrote}
use Rattle.hdfs_pipeline.specs.Inside.{shown}
use Rattle.hdfs_pipeline.proofs.Rows.{going_from, writes, stays_ended}
use Rattle.hdfs_pipeline.proofs.pipeline_core.PipelineCore.wrote.Goals as goal

pub returns-then-not-has_ended : goal.returns-then-not-has_ended
returns-then-not-has_ended c =
    let going = rw (← c.self.view_is) at (going_from c.args.self.now.end c.if-not-has_ended.ensures.ended.1) in
    rw (← c.self.view_is) (writes (shown c.self.inside) refl going c.self.invariant.sent c.self.invariant.one)

pub returns-else-not-has_ended : goal.returns-else-not-has_ended
returns-else-not-has_ended c =
    let ended = rw (← c.self.view_is) at (c.if-not-has_ended.ensures.ended.0 refl) in
    rw (← c.self.view_is) (stays_ended (shown c.self.inside) refl Wrote ended refl)
