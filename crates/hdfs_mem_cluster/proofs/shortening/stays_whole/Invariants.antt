use Rattle.std.proofs.Common.{◌≡◌, false, take}
use Rattle.hdfs_mem_datanodes.specs.Nodes.{held_in, SameHeld, SameNodes}
use Rattle.hdfs_mem_cluster.specs.Shortening.{leaves_whole}
use Rattle.hdfs_mem_cluster.proofs.shortening.stays_whole.Given as goal

abbrev pub invariant-loop-node : goal.invariant-loop-node
invariant-loop-node l = record {
  none : leaves_whole (held_in l.fn.nodes) l.id l.cut l.len l.entry.length (take l.node-index l.node-items) ≡ false;
  same : SameHeld l.fn.nodes l.nodes;
  rest : SameNodes l.fn.nodes l.nodes;
}
