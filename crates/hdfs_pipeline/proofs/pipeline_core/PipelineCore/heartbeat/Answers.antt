use Rattle.std.proofs.Common.{refl}
use Rattle.hdfs_pipeline.specs.Inside.{shown}
use Rattle.hdfs_pipeline.proofs.Rows.{beats, beats_nothing}
use Rattle.hdfs_pipeline.proofs.pipeline_core.PipelineCore.heartbeat.Goals as goal

pub returns-then-can-clause-follows : goal.returns-then-can-clause-follows
returns-then-can-clause-follows c =
    let can = rw (← c.self.view_is) at (c.if-can.ensures.0 refl) in
    rw (← c.self.view_is) (beats (shown c.self.inside) refl can)

pub returns-else-can-clause-follows : goal.returns-else-can-clause-follows
returns-else-can-clause-follows c =
    let never = rw (← c.self.view_is) at c.if-can.ensures.1 in
    rw (← c.self.view_is) (beats_nothing (shown c.self.inside) refl (λ can. absurd (cc (never can))))
