use Rattle.std.proofs.Common.{◌≡◌, ℕ, ◌&&◌, eqb, cond, List, take}
use Rattle.hdfs_mem_datanodes.specs.Nodes.{held_in, whole_in, undisturbed_in, is_on, SameNodes}
use Rattle.hdfs_mem_datanodes.proofs.datanodes.Datanodes.take_all.Given as goal

abbrev pub invariant-loop-node : goal.invariant-loop-node
invariant-loop-node l = record {
  bytes : (d : List ℕ) (b : ℕ) → held_in l.self d b ≡ cond (is_on (take l.node-index l.locs) l.block d b) (whole_in l.fn.self d b) (held_in l.fn.self d b);
  whole : (d : List ℕ) (b : ℕ) → whole_in l.self d b ≡ whole_in l.fn.self d b;
  links : (d : List ℕ) (b other : ℕ) → undisturbed_in l.self d b other
      ≡ cond (is_on (take l.node-index l.locs) l.block d b) (undisturbed_in l.fn.self d b other && eqb l.link other) (undisturbed_in l.fn.self d b other);
  rest : SameNodes l.fn.self l.self;
}
