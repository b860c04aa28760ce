use Rattle.std.proofs.Common.{◌≡◌, ℕ, true, List, map, take}
use Rattle.hdfs_mem_datanodes.specs.Nodes.{held_in, undisturbed_in, is_named, SameNodes}
use Rattle.hdfs_mem_datanodes.proofs.datanodes.Datanodes.enter_all.Given as goal

abbrev pub invariant-loop-node : goal.invariant-loop-node
invariant-loop-node l = record {
  base : l.base.items ≡ map (λ node. held_in l.fn.self node.id.datanode_uuid l.block) (take l.node-index l.locs);
  entered : (d : List ℕ) → is_named (take l.node-index l.locs) d ≡ true → undisturbed_in l.self d l.block l.link ≡ true;
  others : (d : List ℕ) (b other : ℕ) → (l.link ≡ other → ⊥) → undisturbed_in l.self d b other ≡ undisturbed_in l.fn.self d b other;
  bytes : (d : List ℕ) (b : ℕ) → held_in l.self d b ≡ held_in l.fn.self d b;
  rest : SameNodes l.fn.self l.self;
}
