use Rattle.std.proofs.Common.{◌≡◌, ◌≢◌, ℕ, ◌<◌, true, List, is_some}
use Rattle.hdfs_mem_faults.specs.Series.{uuid_of}
use Rattle.hdfs_mem_faults.specs.NodePlans.{AddsOnly, node_at}
use Rattle.hdfs_mem_faults.proofs.nodes.Nodes.add.Given as goal

abbrev pub invariant-loop-number : goal.invariant-loop-number
invariant-loop-number l = record {
  there : (k : ℕ) → k < l.number → is_some (node_at l.self (uuid_of k)) ≡ true;
  others : (d : List ℕ) → ((k : ℕ) → k < l.number → d ≢ uuid_of k) → node_at l.self d ≡ node_at l.fn.self d;
  rest : (d : List ℕ) → AddsOnly (node_at l.fn.self d) (node_at l.self d);
}
