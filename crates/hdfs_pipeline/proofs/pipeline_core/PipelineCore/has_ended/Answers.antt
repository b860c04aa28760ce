use Rattle.hdfs_pipeline.proofs.Inwards.{is_core}
use Rattle.hdfs_pipeline.proofs.pipeline_core.PipelineCore.has_ended.Goals as goal

pub returns-clause-core : goal.returns-clause-core
returns-clause-core c = rw (← c.self.view_is) (is_core c.self.inside c.self.invariant)
