use Rattle.std.proofs.Common.{◌≡◌, ℕ, ◌<◌, true, List, is_some}
use Rattle.hdfs_mem_faults.specs.Series.{uuid_of}
use Rattle.hdfs_mem_datanodes.specs.Nodes.{node_at, Joins}
use Rattle.hdfs_mem_datanodes.proofs.datanodes.Datanodes.grow.Given as goal

abbrev pub invariant-loop-number : goal.invariant-loop-number
invariant-loop-number l = record {
  joins : (d : List ℕ) → Joins (node_at l.fn.self d) (node_at l.self d);
  numbered : (k : ℕ) → k < l.number → is_some (node_at l.self (uuid_of k)) ≡ true;
  count : l.self.count ≡ l.fn.self.count;
}
