use Rattle.std.proofs.Common.{◌≡◌, ℕ, cond, None, take}
use Rattle.std.specs.BTreeMap.{get_by_text}
use Rattle.hdfs_mem_namenode.specs.Changing.{frees}
use Rattle.hdfs_mem_namenode.specs.Memory.{table_of}
use Rattle.hdfs_mem_namenode.proofs.deleting.unlist_files.Given as goal

abbrev pub invariant-loop-key : goal.invariant-loop-key
invariant-loop-key l = (id : ℕ) → table_of l.table.entries id ≡ cond (frees (get_by_text l.names) (take l.key-index l.keys) id) None (table_of l.fn.table.entries id)
