use Rattle.std.proofs.Common.{◌≡◌, ℕ, take}
use Rattle.hdfs_cluster.specs.Effects.{table_without}
use Rattle.hdfs_mem_namenode.specs.Memory.{table_of}
use Rattle.hdfs_mem_namenode.proofs.creating.unlist_all.Given as goal

abbrev pub invariant-loop-id : goal.invariant-loop-id
invariant-loop-id l = (q : ℕ) → table_of l.table.entries q ≡ table_without (table_of l.fn.table.entries) (take l.id-index l.ids) q
