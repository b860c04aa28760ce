-- The packets that came into a pipeline.
use Rattle.std.specs.Prelude.{◌≡◌, ℕ, true, List, [], ◌∷◌, ◌++◌, if◌then◌else◌}
use Rattle.hdfs_wire.specs.Outgoing.{Outgoing}
use Rattle.hdfs_pipeline.specs.declared.event.Event.{Event}
use Rattle.hdfs_pipeline.specs.declared.event.Event.TheVariants.{Push}
use Rattle.hdfs_pipeline.specs.Pipelines.{Pipeline, after, empty_pipeline, has_room}

-- the packet that comes in with an event: that of a push that finds room
abbrev pub entering : Pipeline → Event → List Outgoing
entering p (Push packet) = if has_room p then packet ∷ [] else []
entering p _ = []

-- the packets that come in with events, in order
abbrev pub entering_with : Pipeline → List Event → List Outgoing
entering_with p [] = []
entering_with p (event ∷ events) = entering p event ++ entering_with (after p event) events

-- the packets that came into a pipeline with these events
abbrev pub entered : ℕ → ℕ → List Event → List Outgoing
entered window nodes events = entering_with (empty_pipeline window nodes) events

-- a packet that is the last of its block has none behind it
abbrev pub IsLastBehind : List Outgoing → Type 0
IsLastBehind packets = (front rest : List Outgoing) (packet : Outgoing) → packets ≡ front ++ packet ∷ rest → packet.header.last_packet_in_block ≡ true → rest ≡ []
