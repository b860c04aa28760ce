use Rattle.std.specs.BTreeMap.{get_by_text}
use Rattle.std.specs.String.{string_bytes}
use Rattle.hdfs_mem_namenode.specs.Listing.{count_from}
use Rattle.hdfs_mem_namenode.proofs.Below.{Collects}
use Rattle.hdfs_mem_namenode.proofs.deleting.keys_below.Given as goal

abbrev pub invariant-loop-path : goal.invariant-loop-path
invariant-loop-path l = Collects (get_by_text l.names) l.front (string_bytes l.start) l.keys.items

abbrev pub decreases-loop-path : goal.decreases-loop-path
decreases-loop-path l = count_from l.names.entries (string_bytes l.start)
