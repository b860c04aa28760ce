use Rattle.hdfs_pipeline.proofs.Inwards.{is_core}
use Rattle.hdfs_pipeline.proofs.pipeline_core.PipelineCore.hand.Goals as goal

pub returns-then-self-clause-core : goal.returns-then-self-clause-core
returns-then-self-clause-core c = rw (← c.self.view_is) (is_core c.self.inside c.self.invariant)

pub returns-else-self-clause-core : goal.returns-else-self-clause-core
returns-else-self-clause-core c = rw (← c.self.view_is) (is_core c.self.inside c.self.invariant)
