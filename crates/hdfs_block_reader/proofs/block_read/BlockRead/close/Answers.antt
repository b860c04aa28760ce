use Rattle.hdfs_block_reader.proofs.Joining.{reads_from-Goes}
use Rattle.hdfs_block_reader.proofs.block_read.BlockRead.close.Goals as goal

pub returns-clause-reads : goal.returns-clause-reads
returns-clause-reads g c =
    reads_from-Goes (g.C.Cluster.shown c.args.cluster.now) (g.C.Cluster.shown c.stop.new.cluster) c.args.self.now c.stop.new.self c.stop.ensures.goes
