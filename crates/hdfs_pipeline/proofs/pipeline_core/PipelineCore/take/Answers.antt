use Rattle.std.proofs.Common.{refl}
use Rattle.hdfs_pipeline.specs.Inside.{shown}
use Rattle.hdfs_pipeline.proofs.Rows.{takes, takes_nothing}
use Rattle.hdfs_pipeline.proofs.pipeline_core.PipelineCore.take.Goals as goal

pub returns-then-can-clause-follows : goal.returns-then-can-clause-follows
returns-then-can-clause-follows c =
    let can = rw (← c.self.view_is) at (c.if-can.ensures.0 refl) in
    rw (← c.self.view_is) (takes (shown c.self.inside) refl can)

pub returns-else-can-clause-follows : goal.returns-else-can-clause-follows
returns-else-can-clause-follows c =
    let never = rw (← c.self.view_is) at c.if-can.ensures.1 in
    rw (← c.self.view_is) (takes_nothing (shown c.self.inside) refl c.self.invariant.sent (λ can. absurd (cc (never can))))
