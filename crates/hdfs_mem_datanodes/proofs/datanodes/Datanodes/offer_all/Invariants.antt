use Rattle.std.proofs.Common.{◌≡◌, ℕ, true, List, take}
use Rattle.hdfs_cluster.specs.Sending.{put}
use Rattle.hdfs_mem_datanodes.specs.Nodes.{held_in, whole_in, is_named, SameHeld, SameNodes}
use Rattle.hdfs_mem_datanodes.proofs.datanodes.Datanodes.offer_all.Given as goal

abbrev pub invariant-loop-node : goal.invariant-loop-node
invariant-loop-node l = record {
  offered : (d : List ℕ) → is_named (take l.node-index l.locs) d ≡ true → whole_in l.self d l.block ≡ put (held_in l.fn.self d l.block) l.at l.bytes;
  same : SameHeld l.fn.self l.self;
  rest : SameNodes l.fn.self l.self;
}
