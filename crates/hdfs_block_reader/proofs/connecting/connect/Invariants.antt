-- Behind each kept connection that broke no read is open, and those to other addresses are kept.
use Rattle.std.proofs.Common.{◌≡◌, ◌≢◌, ℕ, List, None}
use Rattle.hdfs_connections.specs.Connections.{kept_at}
use Rattle.hdfs_cluster.specs.declared.asks.LinkFault.TheVariants as faults
use Rattle.hdfs_cluster.specs.Shown.{NotOpened}
use Rattle.hdfs_block_reader.proofs.connecting.connect.Given as goal

abbrev pub invariant-kept : goal.invariant-kept
invariant-kept g l = record {
  behind : NotOpened (g.C.Cluster.shown l.fn.cluster) None l.ask faults.NoMemory (g.C.Cluster.shown l.cluster);
  others : (other : List ℕ) → other ≢ l.address → kept_at l.cache other ≡ kept_at l.fn.cache other;
}
