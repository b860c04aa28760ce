-- What the calls on write links do to what a cluster shows.
use Rattle.std.specs.Prelude.{◌≡◌, ◌≢◌, ◌⊎◌, ℕ, ℤ, pos, ◌<◌, ◌≤◌, List, [], ◌∷◌, ◌++◌, length, slice_index_or, Option, Some, None}
use Rattle.hdfs_wire.specs.declared.ack.Ack.{Ack}
use Rattle.hdfs_wire.specs.Outgoing.{Outgoing}
use Rattle.hdfs_cluster.specs.declared.asks.LinkFault.{LinkFault}
use Rattle.hdfs_cluster.specs.declared.asks.LinkFault.TheVariants as faults
use Rattle.hdfs_cluster.specs.declared.messages.DatanodeInfo.{DatanodeInfo}
use Rattle.hdfs_cluster.specs.declared.messages.Setup.{Setup}
use Rattle.hdfs_cluster.specs.declared.messages.Stage.{Stage}
use Rattle.hdfs_cluster.specs.declared.messages.Stage.TheVariants as stages
use Rattle.hdfs_cluster.specs.declared.picture.OpenWrite.{OpenWrite}
use Rattle.hdfs_cluster.specs.Counts.{FaultCounts, Rose}
use Rattle.hdfs_cluster.specs.Picture.{Picture, SamePicture, Told}
use Rattle.hdfs_cluster.specs.Sending.{Came, Broke, WritePlace, uuids, end_of, seqno_of}
use Rattle.hdfs_cluster.specs.Shown.{Shown, Later, SameReadPlaces}
use Rattle.hdfs_cluster.specs.Writing.{WritesAt, Starts, Sends, IsBehind, MayBeBehind, Responds, Releases}

-- the datanodes of an open link, by their uuids
abbrev pub nodes_of : OpenWrite → List (List ℕ)
nodes_of write = uuids write.setup.locs

-- what every call on a write link keeps: what was asked of namenodes, and the read links with their places
pub record OnlyWrites (old new : Shown) : Type 0 where
  pub later : Later old new
  pub last : new.last ≡ old.last
  pub calls : (i : ℕ) → new.counts.calls i ≡ old.counts.calls i
  pub reads : (other : ℕ) → new.reads other ≡ old.reads other
  pub places : Told (SameReadPlaces old) old.picture new.picture

-- a call that names one write link, and changes nothing else, or nothing at all
pub record WritesLink (link : ℕ) (old new : Shown) : Type 0 where
  pub only : OnlyWrites old new
  pub others : (other : ℕ) → other ≢ link → new.writes other ≡ old.writes other
  pub picture : Told (λ p q. SamePicture p q ⊎ WritesAt link p q) old.picture new.picture

-- a set-up names from 1 to 256 datanodes, and as many storages
pub record IsSetup (setup : Setup) : Type 0 where
  pub some : 0 < length setup.locs
  pub few : length setup.locs ≤ 256
  pub types : length setup.storage_types ≡ length setup.locs
  pub ids : length setup.storage_ids ≡ length setup.locs

-- a pipeline was set up
pub record WriteOpened (old : Shown) (setup : Setup) (link : ℕ) (new : Shown) : Type 0 where
  pub only : OnlyWrites old new
  pub fresh : old.writes link ≡ None
  pub others : (other : ℕ) → other ≢ link → new.writes other ≡ old.writes other
  pub opened : new.writes link ≡ Some (record { setup = setup; end = None; waiting = [] })
  pub starts : Told (Starts link setup) old.picture new.picture

-- what has failed where a pipeline is set up: the first datanode of a new one, and the links of one that is gone on with
abbrev pub SetupFailedAt : Stage → List DatanodeInfo → FaultCounts → FaultCounts → Type 0
SetupFailedAt stages.Create [] old new = Rose old.links new.links
SetupFailedAt stages.Create (first ∷ rest) old new = Rose (old.nodes first.id.datanode_uuid) (new.nodes first.id.datanode_uuid)
SetupFailedAt stages.Append nodes old new = Rose old.links new.links
SetupFailedAt stages.Recovery nodes old new = Rose old.links new.links

-- the same of a set-up
abbrev pub SetupFailed : Setup → FaultCounts → FaultCounts → Type 0
SetupFailed setup old new = SetupFailedAt setup.stage setup.locs old new

-- No pipeline was set up. Beside want of memory this comes only where what has to do with its stage has failed.
pub record WriteNotOpened (old : Shown) (setup : Setup) (fault : LinkFault) (new : Shown) : Type 0 where
  pub only : OnlyWrites old new
  pub writes : (other : ℕ) → new.writes other ≡ old.writes other
  pub picture : Told SamePicture old.picture new.picture
  pub cause : fault ≢ faults.NoMemory → SetupFailed setup old.counts new.counts

-- a packet begins where the last one ended, or the first anywhere from 0 on
abbrev pub BeginsAt : Option ℕ → ℤ → Type 0
BeginsAt None offset = (at : ℕ) × (offset ≡ pos at)
BeginsAt (Some end) offset = offset ≡ pos end

-- the link is open, and the packet follows on the last one
abbrev pub FollowsOn : Shown → ℕ → Outgoing → Type 0
FollowsOn shown link packet = (write : OpenWrite) × (shown.writes link ≡ Some write) × BeginsAt write.end packet.header.offset_in_block

-- the link is open, and a packet waits for its acknowledgement
abbrev pub IsAwaited : Shown → ℕ → Type 0
IsAwaited shown link = (write : OpenWrite) × (shown.writes link ≡ Some write) × (0 < length write.waiting)

-- a packet was sent
pub record Sent (old : Shown) (link : ℕ) (packet : Outgoing) (new : Shown) : Type 0 where
  pub writes : WritesLink link old new
  pub now : (write : OpenWrite) → old.writes link ≡ Some write
      → new.writes link ≡ Some (record { setup = write.setup; end = Some (end_of packet); waiting = write.waiting ++ seqno_of packet ∷ [] })
  pub sent : Told (Sends link (IsBehind packet)) old.picture new.picture

-- the first datanode of a link has failed
abbrev pub FirstFailed : Shown → ℕ → Shown → Type 0
FirstFailed old link new = (write : OpenWrite) → old.writes link ≡ Some write
    → Rose (old.counts.nodes (slice_index_or (nodes_of write) 0 [])) (new.counts.nodes (slice_index_or (nodes_of write) 0 []))

-- the link is open, and was set up so
abbrev pub IsStillOpen : Shown → ℕ → Shown → Type 0
IsStillOpen old link new =
    (write : OpenWrite) → old.writes link ≡ Some write → (write' : OpenWrite) × (new.writes link ≡ Some write')
    × (write'.setup ≡ write.setup)

-- No packet was sent, or the connection broke, and some of the datanodes may have it. Where the last packet ended and which
-- ones wait is free then. A connection breaks only where the count of the first datanode rose.
pub record NotSent (old : Shown) (link : ℕ) (packet : Outgoing) (fault : LinkFault) (new : Shown) : Type 0 where
  pub writes : WritesLink link old new
  pub still_open : IsStillOpen old link new
  pub sent : fault ≡ faults.Broken → Told (Sends link (MayBeBehind packet)) old.picture new.picture
  pub memory : fault ≡ faults.NoMemory → Told (λ p q. SamePicture p q ⊎ Sends link (MayBeBehind packet) p q) old.picture new.picture
  pub not_refused : fault ≢ faults.Refused
  pub cause : fault ≡ faults.Broken → FirstFailed old link new

-- the seqnos that still wait behind an acknowledgement: it takes the first off, if it is its own
abbrev pub Waits : ℤ → List ℤ → List ℤ → Type 0
Waits seqno [] waiting' = waiting' ≡ []
Waits seqno (due ∷ rest) waiting' = ((seqno ≡ due) × (waiting' ≡ rest)) ⊎ ((seqno ≢ due) × (waiting' ≡ due ∷ rest))

-- an acknowledgement is that of the packet that is due, and has a status for each datanode
abbrev pub IsWellFormed : OpenWrite → Ack → Type 0
IsWellFormed write ack = (rest : List ℤ) × (write.waiting ≡ ack.seqno ∷ rest) × (length ack.replies ≡ length write.setup.locs)

-- An acknowledgement came. One that isn't well formed comes only where the count of the links rose, and a status other than
-- 0 only where the count of its datanode rose.
pub record Acknowledged (old : Shown) (link : ℕ) (ack : Ack) (new : Shown) : Type 0 where
  pub writes : WritesLink link old new
  pub now : (write : OpenWrite) → old.writes link ≡ Some write → (write' : OpenWrite) × (new.writes link ≡ Some write')
      × (write'.setup ≡ write.setup) × (write'.end ≡ write.end) × Waits ack.seqno write.waiting write'.waiting
  pub formed : (write : OpenWrite) → old.writes link ≡ Some write → IsWellFormed write ack ⊎ Rose old.counts.links new.counts.links
  pub statuses : (write : OpenWrite) → old.writes link ≡ Some write → (i : ℕ) → i < length write.setup.locs → i < length ack.replies
      → slice_index_or ack.replies i 0 ≢ 0
      → Rose (old.counts.nodes (slice_index_or (nodes_of write) i [])) (new.counts.nodes (slice_index_or (nodes_of write) i []))
  pub came : Told (Responds link (Came ack)) old.picture new.picture

-- No acknowledgement came, and the link is as it was. A connection breaks only where the count of the first datanode rose.
pub record NotAcknowledged (old : Shown) (link : ℕ) (fault : LinkFault) (new : Shown) : Type 0 where
  pub writes : WritesLink link old new
  pub still_open : new.writes link ≡ old.writes link
  pub broke : fault ≡ faults.Broken → Told (Responds link Broke) old.picture new.picture
  pub memory : fault ≡ faults.NoMemory → Told SamePicture old.picture new.picture
  pub not_refused : fault ≢ faults.Refused
  pub cause : fault ≡ faults.Broken → FirstFailed old link new

-- a pipeline was ended
pub record WriteEnded (old : Shown) (link : ℕ) (new : Shown) : Type 0 where
  pub writes : WritesLink link old new
  pub ended : new.writes link ≡ None
  pub released : Told (Releases link) old.picture new.picture

-- the picture's place of an open write link: its block and its datanodes are those of the set-up
pub record IsPlaceOf (write : OpenWrite) (place : WritePlace) : Type 0 where
  pub block : place.block ≡ write.setup.block.block_id
  pub nodes : place.nodes ≡ nodes_of write

-- the picture shows each open write link
abbrev pub ShowsWrites : Shown → Picture → Type 0
ShowsWrites shown p =
    (link : ℕ) (write : OpenWrite) → shown.writes link ≡ Some write → (place : WritePlace) × (p.writes link ≡ Some place)
    × IsPlaceOf write place
