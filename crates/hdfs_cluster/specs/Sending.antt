-- Write links: what the picture shows of them, and what packets make of the bytes that a datanode holds.
use Rattle.std.specs.Prelude.{◌≡◌, ◌⊎◌, ℕ, ℤ, pos, negsuc, ◌+◌, ◌≤◌, ◌<◌, Bool, false, ◌||◌, List, [], ◌∷◌, ◌++◌, length, map, take, drop, slice_index_or}
use Rattle.std.specs.List.{list_any}
use Rattle.std.specs.Str.{bytes_eq}
use Rattle.hdfs_wire.specs.declared.ack.Ack.{Ack}
use Rattle.hdfs_wire.specs.Outgoing.{Outgoing}
use Rattle.hdfs_cluster.specs.declared.messages.DatanodeInfo.{DatanodeInfo}

-- the datanodes of a pipeline or of a located block, by their uuids
abbrev pub uuids : List DatanodeInfo → List (List ℕ)
uuids locs = map (λ node. node.id.datanode_uuid) locs

-- what came back on a write link: an acknowledgement, or nothing any more, since the connection broke
pub data Response : Type 0 where
  Came : Ack → Response
  Broke : Response

-- What the picture shows of an open write link. Its datanodes are numbered from 0, the nearest first.
pub record WritePlace : Type 0 where
  pub block : ℕ
  -- the datanodes by their uuids
  pub nodes : List (List ℕ)
  -- what each of them held of the block when the link was opened
  pub base : ℕ → List ℕ
  -- the packets that were sent
  pub sent : List Outgoing
  -- what came back
  pub responses : List Response
  -- how many of the sent packets are acknowledged, whatever the statuses
  pub acknowledged : ℕ
  -- how many of the sent packets each datanode has received
  pub received : ℕ → ℕ
  -- whether another link has touched the block at a datanode since the opening
  pub disturbed : ℕ → Bool

-- the datanode with this number
abbrev pub node_at : WritePlace → ℕ → List ℕ
node_at write i = slice_index_or write.nodes i []

-- bytes with others over them from an offset on
abbrev pub put : List ℕ → ℕ → List ℕ → List ℕ
put bytes at more = take at bytes ++ more ++ drop (at + length more) bytes

-- an offset as a number; none that is sent is negative
abbrev pub offset_of : ℤ → ℕ
offset_of (pos n) = n
offset_of (negsuc n) = 0

-- bytes with a packet's payload at its offset
abbrev pub put_packet : List ℕ → Outgoing → List ℕ
put_packet bytes packet = put bytes (offset_of packet.header.offset_in_block) packet.payload

-- the same of packets, one after another
abbrev pub put_packets : List ℕ → List Outgoing → List ℕ
put_packets bytes [] = bytes
put_packets bytes (packet ∷ packets) = put_packets (put_packet bytes packet) packets

-- a datanode holds what it held at the opening, with the packets over it that it has received
abbrev pub HoldsAt : (List ℕ → ℕ → List ℕ) → WritePlace → ℕ → Type 0
HoldsAt held write i = held (node_at write i) write.block ≡ put_packets (write.base i) (take (write.received i) write.sent)

-- The same link further on: no datanode lost a packet, and no other link touched the block.
pub record MovesOn (old new : WritePlace) : Type 0 where
  pub block : new.block ≡ old.block
  pub nodes : new.nodes ≡ old.nodes
  pub base : (i : ℕ) → i < length old.nodes → new.base i ≡ old.base i
  pub received : (i : ℕ) → i < length old.nodes → (old.received i ≤ new.received i) × (new.received i ≤ length new.sent)
  pub disturbed : (i : ℕ) → i < length old.nodes → new.disturbed i ≡ old.disturbed i

-- where no other link touched the block, each datanode goes on holding what it is shown to
abbrev pub StaysHeld : (List ℕ → ℕ → List ℕ) → WritePlace → (List ℕ → ℕ → List ℕ) → WritePlace → Type 0
StaysHeld held old held' new = (i : ℕ) → i < length old.nodes → old.disturbed i ≡ false → HoldsAt held old i → HoldsAt held' new i

-- A link whose block another link has touched at the datanodes of both. All else of it stays.
pub record IsDisturbed (by old new : WritePlace) : Type 0 where
  pub shared : old.block ≡ by.block
  pub block : new.block ≡ old.block
  pub nodes : new.nodes ≡ old.nodes
  pub base : (i : ℕ) → i < length old.nodes → new.base i ≡ old.base i
  pub sent : new.sent ≡ old.sent
  pub responses : new.responses ≡ old.responses
  pub acknowledged : new.acknowledged ≡ old.acknowledged
  pub received : (i : ℕ) → i < length old.nodes → new.received i ≡ old.received i
  pub disturbed : (i : ℕ) → i < length old.nodes → new.disturbed i ≡ (old.disturbed i || list_any (bytes_eq (node_at old i)) by.nodes)

-- the seqno of a packet
abbrev pub seqno_of : Outgoing → ℤ
seqno_of packet = packet.header.seqno

-- where a packet ends in its block
abbrev pub end_of : Outgoing → ℕ
end_of packet = offset_of packet.header.offset_in_block + length packet.payload

-- the oldest packet that isn't acknowledged was sent, and has this seqno
abbrev pub IsDue : WritePlace → ℤ → Type 0
IsDue write seqno = (front : List Outgoing) × (packet : Outgoing) × (rest : List Outgoing)
    × (write.sent ≡ front ++ packet ∷ rest) × (length front ≡ write.acknowledged) × (seqno_of packet ≡ seqno)

-- What a response says: an acknowledgement of the oldest packet acknowledges it, and each datanode whose status is 0 has it.
abbrev pub Acknowledges : WritePlace → Response → WritePlace → Type 0
Acknowledges old Broke new = new.acknowledged ≡ old.acknowledged
Acknowledges old (Came ack) new =
    (IsDue old ack.seqno × (new.acknowledged ≡ old.acknowledged + 1)
    × ((i : ℕ) → i < length old.nodes → i < length ack.replies → slice_index_or ack.replies i 1 ≡ 0 → old.acknowledged < new.received i))
    ⊎ ((IsDue old ack.seqno → ⊥) × (new.acknowledged ≡ old.acknowledged))
