use Rattle.std.specs.BTreeMap.{get_by_text}
use Rattle.std.specs.String.{string_bytes}
use Rattle.hdfs_mem_namenode.specs.Listing.{count_from}
use Rattle.hdfs_mem_namenode.specs.Memory.{table_of}
use Rattle.hdfs_mem_namenode.proofs.Gathering.{Counted}
use Rattle.hdfs_mem_namenode.proofs.namespace.Namespace.count_on.Given as goal

abbrev pub invariant-loop-path : goal.invariant-loop-path
invariant-loop-path l = Counted (get_by_text l.self.names) (table_of l.self.table.entries) l.front (string_bytes l.start) l.fn.first l.counted

abbrev pub decreases-loop-path : goal.decreases-loop-path
decreases-loop-path l = count_from l.self.names.entries (string_bytes l.start)
