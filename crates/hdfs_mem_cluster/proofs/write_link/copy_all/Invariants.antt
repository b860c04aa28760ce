use Rattle.std.proofs.Common.{◌≡◌, vec_len, vec_capacity, take}
use Rattle.hdfs_mem_cluster.proofs.write_link.copy_all.Given as goal

abbrev pub invariant-loop-status : goal.invariant-loop-status
invariant-loop-status l = record {
  items : l.kept.items ≡ take l.status-index l.statuses;
  len : vec_len l.kept ≡ l.status-index;
  room : vec_capacity l.kept ≡ vec_capacity l.fn.kept;
}
