-- What a core shows: a pipeline that has forgotten its acknowledged packets.
use Rattle.std.specs.Prelude.{◌≡◌, ℕ, ◌+◌, ◌-◌, ◌<◌, ◌≤◌, ◌^◌, List, [], ◌∷◌, ◌++◌, length, drop, Some, None}
use Rattle.hdfs_pipeline.specs.declared.event.Event.{Event}
use Rattle.hdfs_pipeline.specs.declared.pipeline_core.PacketCounts.{PacketCounts}
use Rattle.hdfs_pipeline.specs.Places.{ArePlaces}
use Rattle.hdfs_pipeline.specs.Pipelines.{Failed, Pipeline, after, run_of}

-- a pipeline without its acknowledged packets
abbrev pub forgotten : Pipeline → Pipeline
forgotten p = record p { pushed = drop p.acked p.pushed; acked = 0; sent = p.sent - p.acked; taken = p.taken - p.acked }

-- what an event makes of a core
abbrev pub next_of : Pipeline → Event → Pipeline
next_of core event = forgotten (after core event)

-- A core stands for these events: it is what they make of an empty pipeline, without the acknowledged packets.
abbrev pub Stands : Pipeline → List Event → Type 0
Stands core events = core ≡ forgotten (run_of core.window core.nodes events)

-- An event came: the core is what it makes of the old one, and stands for one event more than that.
pub record Follows (old : Pipeline) (event : Event) (new : Pipeline) : Type 0 where
  pub next : new ≡ next_of old event
  pub stands : (events : List Event) → Stands old events → Stands new (events ++ event ∷ [])

-- how many packets of a core aren't acknowledged, were sent and were taken, and how many heartbeats are open
abbrev pub counts_of : Pipeline → PacketCounts
counts_of core = record { waiting = length core.pushed; sent = core.sent; taken = core.taken; heartbeats = core.heartbeats }

-- a packet can be taken: there is no end, the hand is empty, and a packet wasn't taken yet
pub record CanTake (core : Pipeline) : Type 0 where
  pub going : core.end ≡ None
  pub empty : core.sent ≡ core.taken
  pub left : core.taken < length core.pushed

-- a heartbeat can be opened: there is no end, and fewer than 2^32 - 1 are open
pub record CanOpenHeartbeat (core : Pipeline) : Type 0 where
  pub going : core.end ≡ None
  pub few : core.heartbeats < 2 ^ 32 - 1

-- what every core keeps
pub record IsCore (core : Pipeline) : Type 0 where
  pub window : (1 ≤ core.window) × (core.window ≤ 1000)
  pub nodes : (1 ≤ core.nodes) × (core.nodes ≤ 256)
  pub forgets : core.acked ≡ 0
  pub few : length core.pushed ≤ core.window
  pub sent : core.sent ≤ core.taken
  pub one : core.taken ≤ core.sent + 1
  pub within : core.taken ≤ length core.pushed
  pub heartbeats : core.heartbeats < 2 ^ 32
  pub failed : (places : List ℕ) → core.end ≡ Some (Failed places) → ArePlaces core.nodes places
