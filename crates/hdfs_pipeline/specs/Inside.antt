-- The fields of a core. No public clause cites this module.
use Rattle.std.specs.Prelude.{◌≡◌, ℕ, ◌+◌, ◌^◌, ◌≤◌, ◌<◌, List, [], length, Option, Some, None, vec_capacity}
use Rattle.std.specs.VecDeque.{deque_capacity}
use Rattle.hdfs_pipeline.specs.Pipelines.{Pipeline, End, Done, Failed, Bad}
use Rattle.hdfs_pipeline.specs.Places.{ArePlaces}
use Rattle.hdfs_pipeline.specs.declared.pipeline_core.PipelineCore.TheInside.{Inside}
use Rattle.hdfs_pipeline.specs.declared.pipeline_core.Closed.{Closed}
use Rattle.hdfs_pipeline.specs.declared.pipeline_core.Closed.TheVariants as closes

-- the end of a core that was closed so, where these places have failed
abbrev pub end_with : List ℕ → Option Closed → Option End
end_with failed None = None
end_with failed (Some closes.Done) = Some Done
end_with failed (Some closes.Failed) = Some (Failed failed)
end_with failed (Some (closes.Bad seqno)) = Some (Bad seqno)

-- what a core shows
abbrev pub shown : Inside → Pipeline
shown a = record { window = a.window; nodes = a.nodes; pushed = a.packets.items; acked = 0; sent = a.sent; taken = a.taken; heartbeats = a.heartbeats; end = end_with a.failed.items a.closed }

-- what the fields keep
pub record IsKept (a : Inside) : Type 0 where
  pub window : (1 ≤ a.window) × (a.window ≤ 1000)
  pub nodes : (1 ≤ a.nodes) × (a.nodes ≤ 256)
  pub sent : a.sent ≤ a.taken
  pub one : a.taken ≤ a.sent + 1
  pub within : a.taken ≤ length a.packets.items
  pub few : length a.packets.items ≤ a.window
  pub room : a.window ≤ deque_capacity a.packets
  pub places : a.nodes ≤ vec_capacity a.failed
  pub heartbeats : a.heartbeats < 2 ^ 32
  pub none_failed : a.closed ≡ None → a.failed.items ≡ []
  pub some_failed : a.closed ≡ Some closes.Failed → ArePlaces a.nodes a.failed.items
