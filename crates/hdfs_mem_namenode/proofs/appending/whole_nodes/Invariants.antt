use Rattle.std.proofs.Common.{◌≡◌, filter, take}
use Rattle.hdfs_mem_namenode.specs.Adding.{holds_whole}
use Rattle.hdfs_mem_datanodes.specs.Nodes.{held_in, SameHeld, SameNodes}
use Rattle.hdfs_mem_namenode.proofs.appending.whole_nodes.Given as goal

abbrev pub invariant-loop-uuid : goal.invariant-loop-uuid
invariant-loop-uuid l = record {
  whole : l.whole ≡ filter (holds_whole (held_in l.fn.nodes) l.id l.entry.length) (take l.uuid-index l.uuid-items);
  same : SameHeld l.fn.nodes l.nodes;
  rest : SameNodes l.fn.nodes l.nodes;
}
