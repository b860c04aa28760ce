use Rattle.hdfs_pipeline.proofs.Entering.{none_lost}
use Rattle.hdfs_pipeline.proofs.laws.no_packet_is_lost.Goals as goal

pub returns : goal.returns
returns c = none_lost
