use Rattle.std.proofs.Common.{◌-◌, ◌≤◌, length}
use Rattle.std.specs.String.{string_bytes}
use Rattle.hdfs_mem_namenode.specs.Memory.{table_of}
use Rattle.hdfs_mem_namenode.proofs.Ranging.{ListedAlong}
use Rattle.hdfs_mem_namenode.proofs.namespace.Namespace.page.Given as goal

abbrev pub invariant-loop-alloc : goal.invariant-loop-alloc
invariant-loop-alloc l = record {
  along : ListedAlong l.self.names (table_of l.self.table.entries) (string_bytes l.front) l.from l.listing.items l.rest;
  few : length l.listing.items ≤ 1000;
}

abbrev pub decreases-loop-alloc : goal.decreases-loop-alloc
decreases-loop-alloc l = 1000 - length l.listing.items
