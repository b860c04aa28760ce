use Rattle.std.proofs.Common.{◌≡◌, ℕ, ◌+◌, ◌<◌, ◌^◌, Some, take, drop}
use Rattle.hdfs_mem_namenode.specs.Memory.{table_of}
use Rattle.hdfs_cluster.specs.Listing.{total}
use Rattle.hdfs_cluster.specs.Namenode.{LocatesBlocks}
use Rattle.hdfs_mem_namenode.proofs.namenode.locate.Given as goal

abbrev pub invariant-loop-id : goal.invariant-loop-id
invariant-loop-id l = record {
  so_far : LocatesBlocks (table_of l.table.entries) 0 l.at (take l.id-index l.id-items) l.blocks.items;
  rest : (rest : ℕ) × (total (table_of l.table.entries) (drop l.id-index l.id-items) ≡ Some rest) × (l.at + rest < 2 ^ 63);
}
