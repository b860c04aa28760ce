-- What two threads over one pipeline keep under their lock, and what a hold of it does.
use Rattle.std.specs.Prelude.{◌≡◌, ℕ, ◌≤◌, ◌<◌, List, [], ◌∷◌, ◌++◌, length, take, None, false}
use Rattle.hdfs_wire.specs.Outgoing.{Outgoing}
use Rattle.hdfs_pipeline.specs.Pipelines.{Pipeline, run_of, has_room}
use Rattle.hdfs_pipeline.specs.Cores.{Stands, CanTake}
use Rattle.hdfs_pipeline.specs.declared.event.Event.{Event}
use Rattle.hdfs_pipeline.specs.declared.event.Event.TheVariants.{Push, Take}
use Rattle.hdfs_threads.specs.declared.pair.SenderTurn.{SenderTurn}
use Rattle.hdfs_threads.specs.declared.pair.SenderTurn.TheVariants as turns
use Rattle.hdfs_threads.specs.Counts.{wrote_in, write_failed_in, acked_in, ack_failed_in}

-- there is an end, or each packet was pushed and is acknowledged
abbrev pub IsOver : List Outgoing → Pipeline → ℕ → Type 0
IsOver packets core pushed = core.end ≡ None → (pushed ≡ length packets) × (core.pushed ≡ [])

-- A core with the history that it stands for. The packets that were pushed are the first so many of all packets, and
-- each book has the count of its events. Where a thread has found that it is over, it is.
pub record Keeps (window nodes : ℕ) (packets : List Outgoing) (core : Pipeline) (history : List Event) (pushed wrote write_failed acked ack_failed over : ℕ) : Type 0 where
  pub window_is : core.window ≡ window
  pub nodes_is : core.nodes ≡ nodes
  pub stands : Stands core history
  pub within : pushed ≤ length packets
  pub pushes : (run_of window nodes history).pushed ≡ take pushed packets
  pub wrote_is : wrote ≡ wrote_in history
  pub write_failed_is : write_failed ≡ write_failed_in history
  pub acked_is : acked ≡ acked_in history
  pub ack_failed_is : ack_failed ≡ ack_failed_in history
  pub over_is : 0 < over → IsOver packets core pushed

-- a history with an event more
abbrev pub OneMore : List Event → Event → List Event → Type 0
OneMore before event after = after ≡ before ++ event ∷ []

-- a hold of the sender took a packet, or pushed one, or did nothing
abbrev pub SenderHeld : SenderTurn → List Event → List Event → Type 0
SenderHeld turns.Send before after = OneMore before Take after
SenderHeld turns.Pushed before after = (packet : Outgoing) × OneMore before (Push packet) after
SenderHeld turns.Wait before after = after ≡ before
SenderHeld turns.Stop before after = after ≡ before

-- the sender has nothing to do: no packet can be taken, and none can be pushed
pub record SenderWaits (core : Pipeline) (pushed count : ℕ) : Type 0 where
  pub going : core.end ≡ None
  pub idle : CanTake core → ⊥
  pub full : pushed < count → has_room core ≡ false

-- the other thread has nothing to do: no packet that was sent waits, and something is left
pub record AskerWaits (core : Pipeline) (pushed count : ℕ) : Type 0 where
  pub going : core.end ≡ None
  pub none : 0 < core.sent → ⊥
  pub left : pushed ≡ count → core.pushed ≡ [] → ⊥
