use Rattle.std.proofs.Common.{◌≡◌}
use Rattle.hdfs_block_reader.specs.Going.{Goes, tries_left}
use Rattle.hdfs_block_reader.specs.Reader.{KeepsConnections}
use Rattle.hdfs_block_reader.proofs.block_read.BlockRead.piece.Given as goal

abbrev pub invariant-locations : goal.invariant-locations
invariant-locations g l = record {
  goes : Goes (g.C.Cluster.shown l.fn.cluster) (g.C.Cluster.shown l.cluster) l.fn.self l.self;
  failed : l.self.failed ≡ l.fn.self.failed;
  wanted : l.self.wanted ≡ l.fn.self.wanted;
  cached : KeepsConnections l.fn.self l.self l.fn.cache l.cache;
}

abbrev pub decreases-locations : goal.decreases-locations
decreases-locations g l = tries_left l.self
