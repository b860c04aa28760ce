use Rattle.std.proofs.Common.{◌≡◌, ◌+◌, ◌-◌, ◌≤◌, ◌++◌, length, drop, vec_len, vec_capacity}
use Rattle.hdfs_pipeline.specs.Places.{failed_from}
use Rattle.hdfs_pipeline.proofs.pipeline_core.put_failed.Given as goal

-- the places so far, and behind them those of the statuses that are left
abbrev pub invariant-loop-place : goal.invariant-loop-place
invariant-loop-place l = record {
  places : l.failed.items ++ failed_from l.place (drop l.place l.statuses) ≡ l.fn.failed.items ++ failed_from 0 l.statuses;
  same : vec_capacity l.failed ≡ vec_capacity l.fn.failed;
  room : vec_len l.failed + (length l.statuses - l.place) ≤ vec_capacity l.failed;
}
