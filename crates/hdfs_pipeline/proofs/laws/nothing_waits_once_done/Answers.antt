use Rattle.hdfs_pipeline.proofs.Finishing.{none_waits}
use Rattle.hdfs_pipeline.proofs.laws.nothing_waits_once_done.Goals as goal

pub returns : goal.returns
returns c = none_waits
