use Rattle.std.proofs.Common.{◌≡◌, vec_len, vec_capacity, take}
use Rattle.hdfs_mem_faults.specs.Plans.{fails_at, SameLinks, SamePlans}
use Rattle.hdfs_cluster.specs.Sending.{uuids}
use Rattle.hdfs_mem_cluster.specs.Telling.{GoesOn, TellsAll}
use Rattle.hdfs_mem_cluster.proofs.write_link.tell_all.Given as goal

abbrev pub invariant-loop-node : goal.invariant-loop-node
invariant-loop-node l = record {
  tells : TellsAll (fails_at l.fn.faults) l.fn.faults (uuids (take l.node-index l.locs)) l.statuses.items l.faults;
  goes_on : GoesOn l.fn.faults l.faults;
  plans : SamePlans l.fn.faults l.faults;
  links : SameLinks l.fn.faults l.faults;
  len : vec_len l.statuses ≡ l.node-index;
  room : vec_capacity l.statuses ≡ vec_capacity l.fn.statuses;
}
