-- What each of the two threads has done, once it went through.
use Rattle.std.specs.Prelude.{◌≡◌, ℕ, ◌<◌, ◌≤◌, List, length, take}
use Rattle.hdfs_wire.specs.Outgoing.{Outgoing}
use Rattle.hdfs_pipeline.specs.declared.event.Event.{Event}
use Rattle.hdfs_threads.specs.Counts.{wrote_in, write_failed_in, acked_in, ack_failed_in}
use Rattle.hdfs_threads.specs.Links.{OutShown, InShown, Took, GaveSo}

-- The first so many packets were sent, and counted. One send at most failed, and it had a cause.
pub record SentAll (packets : List Outgoing) (before : OutShown) (sent wrote failed : ℕ) (after : OutShown) : Type 0 where
  pub took : Took before (take sent packets) after
  pub counted : sent ≡ wrote
  pub within : sent ≤ length packets
  pub one : failed ≤ 1
  pub cause : 0 < failed → before.failures < after.failures

-- What was given is counted, a failure had a cause, and it was found over.
pub record AskedAll (before : InShown) (acked failed over : ℕ) (after : InShown) : Type 0 where
  pub gave : GaveSo before acked failed after
  pub cause : 0 < failed → before.failures < after.failures
  pub found : 0 < over

-- a history has so many events of each kind that is counted
pub record Tallies (history : List Event) (wrote write_failed acked ack_failed : ℕ) : Type 0 where
  pub wrote_is : wrote ≡ wrote_in history
  pub write_failed_is : write_failed ≡ write_failed_in history
  pub acked_is : acked ≡ acked_in history
  pub ack_failed_is : ack_failed ≡ ack_failed_in history

-- a ledger of one part has the name of a type
abbrev pub Names : ℕ → ℕ → ℕ → Type 0
Names blank name parts = (blank ≡ name) × (parts ≡ 1)
