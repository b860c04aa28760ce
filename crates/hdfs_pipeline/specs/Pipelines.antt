-- A write pipeline as the list of its events.
use Rattle.std.specs.Prelude.{ℕ, ℤ, negsuc, ◌+◌, ◌-◌, ◌^◌, nat_lt, Bool, true, false, not, ◌&&◌, ◌||◌, ◌==◌, List, [], ◌∷◌, ◌++◌, length, take, drop, slice_get, Option, Some, None, is_none, if◌then◌else◌}
use Rattle.std.specs.Ordering.{int_eq}
use Rattle.hdfs_wire.specs.declared.ack.Ack.{Ack}
use Rattle.hdfs_wire.specs.Outgoing.{Outgoing}
use Rattle.hdfs_pipeline.specs.Places.{are_fine, failed_from}
use Rattle.hdfs_pipeline.specs.declared.event.Event.{Event}
use Rattle.hdfs_pipeline.specs.declared.event.Event.TheVariants.{Push, Take, Wrote, WriteFailed, Acked, AckFailed, Heartbeat}

-- How a pipeline ends: its last packet is acknowledged; the nodes at these places have failed; or an acknowledgement with
-- this seqno is none that was due.
pub data End : Type 0 where
  Done : End
  Failed : List ℕ → End
  Bad : ℤ → End

-- A pipeline of so many nodes: the most packets that may wait for their acknowledgement; the packets that were pushed, and
-- how many of them are acknowledged, were sent, and were taken to be sent, in order; the open heartbeats; and the end,
-- where there is one.
pub record Pipeline : Type 0 where
  pub window : ℕ
  pub nodes : ℕ
  pub pushed : List Outgoing
  pub acked : ℕ
  pub sent : ℕ
  pub taken : ℕ
  pub heartbeats : ℕ
  pub end : Option End

-- nothing has happened
abbrev pub empty_pipeline : ℕ → ℕ → Pipeline
empty_pipeline window nodes = record { window = window; nodes = nodes; pushed = []; acked = 0; sent = 0; taken = 0; heartbeats = 0; end = None }

-- fewer packets than the window wait for their acknowledgement
abbrev pub has_room : Pipeline → Bool
has_room p = nat_lt (length p.pushed - p.acked) p.window

-- a packet is in the hand: it was taken, and wasn't sent
abbrev pub has_hand : Pipeline → Bool
has_hand p = nat_lt p.sent p.taken

-- a packet wasn't taken yet
abbrev pub has_untaken : Pipeline → Bool
has_untaken p = nat_lt p.taken (length p.pushed)

-- a packet has this seqno
abbrev pub has_seqno : ℤ → Option Outgoing → Bool
has_seqno seqno None = false
has_seqno seqno (Some packet) = int_eq packet.header.seqno seqno

-- a packet is the last of its block
abbrev pub is_last : Option Outgoing → Bool
is_last None = false
is_last (Some packet) = packet.header.last_packet_in_block

-- a seqno is that of heartbeats, -1, and one is open
abbrev pub closes_heartbeat : Pipeline → ℤ → Bool
closes_heartbeat p seqno = int_eq seqno (negsuc 0) && nat_lt 0 p.heartbeats

-- the oldest packet that isn't acknowledged was sent and has this seqno
abbrev pub is_due : Pipeline → ℤ → Bool
is_due p seqno = nat_lt p.acked p.sent && has_seqno seqno (slice_get p.pushed p.acked)

-- the pipeline with an end
abbrev pub ended : Pipeline → End → Pipeline
ended p end = record p { end = Some end }

-- the oldest packet is acknowledged; if it is the last of the block, that is the end
abbrev pub acknowledged : Pipeline → Pipeline
acknowledged p = record p { acked = p.acked + 1; end = if is_last (slice_get p.pushed p.acked) then Some Done else None }

-- What an acknowledgement does. The first row that holds counts.
abbrev pub ack_row : Pipeline → Ack → Pipeline
ack_row p ack =
    if not (length ack.replies == p.nodes) then ended p (Bad ack.seqno)
    else if not (are_fine ack.replies) then ended p (Failed (failed_from 0 ack.replies))
    else if closes_heartbeat p ack.seqno then record p { heartbeats = p.heartbeats - 1 }
    else if is_due p ack.seqno then acknowledged p
    else ended p (Bad ack.seqno)

-- What an event does while there is no end, a row for each. Where its condition fails it does nothing.
abbrev pub row : Pipeline → Event → Pipeline
row p (Push packet) = if has_room p then record p { pushed = p.pushed ++ packet ∷ [] } else p
row p Take = if has_untaken p && not (has_hand p) then record p { taken = p.taken + 1 } else p
row p Wrote = if has_hand p then record p { sent = p.sent + 1 } else p
row p WriteFailed = if has_hand p then ended p (Failed (0 ∷ [])) else p
row p (Acked ack) = ack_row p ack
row p AckFailed = ended p (Failed (0 ∷ []))
row p Heartbeat = if nat_lt p.heartbeats (2 ^ 32 - 1) then record p { heartbeats = p.heartbeats + 1 } else p

-- an event is a push
abbrev pub is_push : Event → Bool
is_push (Push packet) = true
is_push _ = false

-- What an event does. After an end a push still has its row, so that no packet is lost, and nothing else happens.
abbrev pub after : Pipeline → Event → Pipeline
after p event = if is_none p.end || is_push event then row p event else p

-- what events do, one after another
abbrev pub run_from : Pipeline → List Event → Pipeline
run_from p [] = p
run_from p (event ∷ events) = run_from (after p event) events

-- a pipeline with this window and so many nodes, after these events
abbrev pub run_of : ℕ → ℕ → List Event → Pipeline
run_of window nodes events = run_from (empty_pipeline window nodes) events

-- the packets that are acknowledged
abbrev pub acked_of : Pipeline → List Outgoing
acked_of p = take p.acked p.pushed

-- the packets that aren't
abbrev pub pending_of : Pipeline → List Outgoing
pending_of p = drop p.acked p.pushed

-- the packet in the hand
abbrev pub hand_of : Pipeline → Option Outgoing
hand_of p = if has_hand p then slice_get p.pushed p.sent else None
