use Rattle.std.proofs.Common.{◌≡◌, ℕ, true, false, List, take}
use Rattle.hdfs_mem_datanodes.specs.Nodes.{held_in, replica_at, is_named, is_on, SameNodes}
use Rattle.hdfs_mem_datanodes.specs.Replicas.{IsGiven, MayBeGiven, SameReplica}
use Rattle.hdfs_mem_datanodes.proofs.datanodes.Datanodes.give.Given as goal

abbrev pub invariant-loop-node : goal.invariant-loop-node
invariant-loop-node l = record {
  given : (d : List ℕ) → is_named (take l.node-index l.targets) d ≡ true → IsGiven (held_in l.fn.self l.source l.block) (replica_at l.self d l.block);
  some : (d : List ℕ) → MayBeGiven (held_in l.fn.self l.source l.block) (replica_at l.fn.self d l.block) (replica_at l.self d l.block);
  others : (d : List ℕ) (b : ℕ) → is_on (take l.node-index l.targets) l.block d b ≡ false → SameReplica (replica_at l.fn.self d b) (replica_at l.self d b);
  rest : SameNodes l.fn.self l.self;
}
