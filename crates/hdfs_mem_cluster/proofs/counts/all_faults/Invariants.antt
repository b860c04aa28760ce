use Rattle.std.proofs.Common.{◌≡◌, ℕ, ◌<◌, length, get_or}
use Rattle.hdfs_mem_faults.specs.Plans.{node_faults_of}
use Rattle.hdfs_mem_faults.specs.Series.{uuid_of}
use Rattle.hdfs_mem_cluster.proofs.counts.all_faults.Given as goal

abbrev pub invariant-loop-number : goal.invariant-loop-number
invariant-loop-number l = record {
  len : length l.all ≡ l.number;
  each : (k : ℕ) → k < l.number → get_or l.all k 0 ≡ node_faults_of l.faults (uuid_of k);
}
