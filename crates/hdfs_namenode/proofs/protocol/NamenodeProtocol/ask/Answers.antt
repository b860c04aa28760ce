-- What an ask has come to.
use Rattle.hdfs_namenode.proofs.Comings.{came}
use Rattle.hdfs_namenode.proofs.protocol.NamenodeProtocol.ask.Goals as goal

pub returns-clause-came : goal.returns-clause-came
returns-clause-came g c = came g.met.C.Cluster.serves_rows g.met.C.Cluster.active_below c.requires.service c.call-answer.ensures.asked
