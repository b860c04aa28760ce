use Rattle.std.proofs.Common.{◌≡◌, ℕ, ◌<◌, length, get_or}
use Rattle.hdfs_mem_cluster.specs.MemShown.{namenode_faults}
use Rattle.hdfs_mem_cluster.proofs.counts.all_calls.Given as goal

abbrev pub invariant-loop-number : goal.invariant-loop-number
invariant-loop-number l = record {
  len : length l.all ≡ l.number;
  each : (k : ℕ) → k < l.number → get_or l.all k 0 ≡ namenode_faults l.config.settings l.calls l.faults k;
}
