use Rattle.std.proofs.Common.{◌≡◌, ◌≢◌, ℕ, List, All}
use Rattle.hdfs_mem_datanodes.specs.Nodes.{held_in, undisturbed_in, SameNodes}
use Rattle.hdfs_mem_datanodes.specs.Uuids.{lowest}
use Rattle.hdfs_mem_datanodes.proofs.datanodes.Datanodes.hold.Given as goal

abbrev pub invariant-loop-number : goal.invariant-loop-number
invariant-loop-number l = record {
  held : All (λ node. held_in l.self node l.block ≡ l.bytes) (lowest l.number);
  others : (d : List ℕ) (other : ℕ) → other ≢ l.block → held_in l.self d other ≡ held_in l.fn.self d other;
  links : (d : List ℕ) (other link : ℕ) → undisturbed_in l.self d other link ≡ undisturbed_in l.fn.self d other link;
  rest : SameNodes l.fn.self l.self;
}
