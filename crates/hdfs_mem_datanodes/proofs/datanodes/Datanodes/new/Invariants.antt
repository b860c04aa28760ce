use Rattle.std.proofs.Common.{◌≡◌, ℕ, ◌<◌, true, List, is_some}
use Rattle.std.specs.BTreeMap.{get_by_text}
use Rattle.hdfs_mem_faults.specs.Series.{uuid_of}
use Rattle.hdfs_mem_datanodes.specs.Uuids.{first_node}
use Rattle.hdfs_mem_datanodes.proofs.Nodes.{IsNew}
use Rattle.hdfs_mem_datanodes.proofs.datanodes.Datanodes.new.Given as goal

abbrev pub invariant-loop-number : goal.invariant-loop-number
invariant-loop-number l = record {
  are_new : (d : List ℕ) → IsNew (get_by_text l.by_uuid d);
  numbered : (k : ℕ) → k < l.number → is_some (get_by_text l.by_uuid (uuid_of k)) ≡ true;
  first : 0 < l.number → is_some (get_by_text l.by_uuid first_node) ≡ true;
}
