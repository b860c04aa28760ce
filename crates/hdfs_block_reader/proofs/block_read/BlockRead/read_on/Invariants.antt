use Rattle.std.proofs.Common.{◌≡◌, Some}
use Rattle.hdfs_block_reader.specs.Going.{Goes, gap, tries_left}
use Rattle.hdfs_block_reader.proofs.block_read.BlockRead.read_on.Given as goal

abbrev pub invariant-packets : goal.invariant-packets
invariant-packets g l = record {
  goes : Goes (g.C.Cluster.shown l.fn.cluster) (g.C.Cluster.shown l.cluster) l.fn.self l.self;
  link : l.self.link ≡ Some l.link;
  wanted : l.self.wanted ≡ l.fn.self.wanted;
  failed : l.self.failed ≡ l.fn.self.failed;
  tries : tries_left l.self ≡ tries_left l.fn.self;
}

abbrev pub decreases-packets : goal.decreases-packets
decreases-packets g l = gap l.self
