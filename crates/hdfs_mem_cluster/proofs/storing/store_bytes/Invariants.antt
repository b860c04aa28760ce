use Rattle.std.proofs.Common.{◌≡◌, ℕ, min, List, length}
use Rattle.std.specs.BTreeMap.{get_by_text}
use Rattle.hdfs_mem_namenode.specs.Adding.{AreNew, KeepsBlocks}
use Rattle.hdfs_mem_namenode.specs.Memory.{table_of}
use Rattle.hdfs_mem_datanodes.specs.Nodes.{held_in, undisturbed_in, SameNodes}
use Rattle.hdfs_mem_datanodes.specs.Uuids.{lowest}
use Rattle.hdfs_mem_cluster.proofs.Cutting.{AreListed, CutsOn}
use Rattle.hdfs_mem_cluster.proofs.storing.store_bytes.Given as goal

abbrev pub invariant-loop-alloc : goal.invariant-loop-alloc
invariant-loop-alloc l = record {
  cut : CutsOn (table_of l.space.table.entries) (held_in l.nodes) (lowest (min l.attributes.replication l.fn.nodes.count)) l.attributes.block_size l.ids l.left l.fn.bytes;
  kept : KeepsBlocks (table_of l.fn.space.table.entries) (table_of l.space.table.entries) (held_in l.fn.nodes) (held_in l.nodes);
  new : AreNew (get_by_text l.fn.space.names) l.ids;
  listed : AreListed (table_of l.space.table.entries) l.ids;
  names : (l.space.names ≡ l.fn.space.names) × (l.space.grown ≡ l.fn.space.grown);
  rest : SameNodes l.fn.nodes l.nodes;
  links : (d : List ℕ) (block link : ℕ) → undisturbed_in l.nodes d block link ≡ undisturbed_in l.fn.nodes d block link;
}

abbrev pub decreases-loop-alloc : goal.decreases-loop-alloc
decreases-loop-alloc l = length l.left
