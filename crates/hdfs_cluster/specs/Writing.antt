-- What a call on a write link does to the picture.
use Rattle.std.specs.Prelude.{◌≡◌, ◌≢◌, ◌⊎◌, ℕ, ◌<◌, false, List, [], ◌∷◌, ◌++◌, length, Contains, slice_index_or, Some, None}
use Rattle.hdfs_wire.specs.Outgoing.{Outgoing}
use Rattle.hdfs_cluster.specs.declared.messages.Setup.{Setup}
use Rattle.hdfs_cluster.specs.Picture.{Picture, SameFiles}
use Rattle.hdfs_cluster.specs.Sending.{Response, WritePlace, node_at, uuids, MovesOn, StaysHeld, IsDisturbed, Acknowledges}

-- another link is left alone: it is what it was, and its datanodes hold what they held of its block
abbrev pub IsLeftAlone : Picture → Picture → ℕ → WritePlace → Type 0
IsLeftAlone old new other place =
    (new.writes other ≡ Some place)
    × ((i : ℕ) → i < length place.nodes → new.held (node_at place i) place.block ≡ old.held (node_at place i) place.block)

-- the files by their names, the block table, the defaults, which namenode is active, and the read links stay
pub record SameRecords (old new : Picture) : Type 0 where
  pub names : (path : List ℕ) → new.names path ≡ old.names path
  pub table : (id : ℕ) → new.table id ≡ old.table id
  pub active : new.active ≡ old.active
  pub defaults : new.defaults ≡ old.defaults
  pub reads : (other : ℕ) → new.reads other ≡ old.reads other

-- A call on one write link. It changes nothing of what is held but what the link's datanodes hold of its block. Another link
-- is left alone, or it has the same block and is disturbed.
pub record WritesAt (link : ℕ) (old new : Picture) : Type 0 where
  pub records : SameRecords old new
  pub held : (write : WritePlace) → old.writes link ≡ Some write
      → (node : List ℕ) (id : ℕ) → (write.block ≡ id → Contains write.nodes node → ⊥) → new.held node id ≡ old.held node id
  pub none : (other : ℕ) → other ≢ link → old.writes other ≡ None → new.writes other ≡ None
  pub others : (write : WritePlace) → old.writes link ≡ Some write → (other : ℕ) (place : WritePlace) → other ≢ link
      → old.writes other ≡ Some place
      → IsLeftAlone old new other place ⊎ ((place' : WritePlace) × (new.writes other ≡ Some place') × IsDisturbed write place place')

-- A pipeline as it was set up: no packet was sent yet, and the base is what the datanodes hold.
pub record IsFresh (setup : Setup) (p : Picture) (place : WritePlace) : Type 0 where
  pub block : place.block ≡ setup.block.block_id
  pub nodes : place.nodes ≡ uuids setup.locs
  pub base : (i : ℕ) → i < length setup.locs → place.base i ≡ p.held (slice_index_or (uuids setup.locs) i []) setup.block.block_id
  pub sent : place.sent ≡ []
  pub responses : place.responses ≡ []
  pub acknowledged : place.acknowledged ≡ 0
  pub received : (i : ℕ) → i < length setup.locs → place.received i ≡ 0
  pub disturbed : (i : ℕ) → i < length setup.locs → place.disturbed i ≡ false

-- a link is there that was just set up, and nothing else changed
pub record Starts (link : ℕ) (setup : Setup) (old new : Picture) : Type 0 where
  pub files : SameFiles old new
  pub active : new.active ≡ old.active
  pub reads : (other : ℕ) → new.reads other ≡ old.reads other
  pub unused : old.writes link ≡ None
  pub others : (other : ℕ) → other ≢ link → new.writes other ≡ old.writes other
  pub place : WritePlace
  pub at : new.writes link ≡ Some place
  pub fresh : IsFresh setup old place

-- The link goes on, and its sent packets are so from before to after. Nothing else came back or was acknowledged.
abbrev pub Sends : ℕ → (List Outgoing → List Outgoing → Type 0) → Picture → Picture → Type 0
Sends link P old new =
    WritesAt link old new × ((write : WritePlace) → old.writes link ≡ Some write → (write' : WritePlace) × (new.writes link ≡ Some write')
    × MovesOn write write' × P write.sent write'.sent × (write'.responses ≡ write.responses)
    × (write'.acknowledged ≡ write.acknowledged) × StaysHeld old.held write new.held write')

-- a packet is behind the others
abbrev pub IsBehind : Outgoing → List Outgoing → List Outgoing → Type 0
IsBehind packet sent sent' = sent' ≡ sent ++ packet ∷ []

-- a packet is behind the others, or isn't
abbrev pub MayBeBehind : Outgoing → List Outgoing → List Outgoing → Type 0
MayBeBehind packet sent sent' = (sent' ≡ sent) ⊎ IsBehind packet sent sent'

-- a response came on the link
abbrev pub Responds : ℕ → Response → Picture → Picture → Type 0
Responds link response old new =
    WritesAt link old new × ((write : WritePlace) → old.writes link ≡ Some write → (write' : WritePlace) × (new.writes link ≡ Some write')
    × MovesOn write write' × (write'.sent ≡ write.sent) × (write'.responses ≡ write.responses ++ response ∷ [])
    × Acknowledges write response write' × StaysHeld old.held write new.held write')

-- the link is gone, and its datanodes hold for good what they hold
abbrev pub Releases : ℕ → Picture → Picture → Type 0
Releases link old new = WritesAt link old new × (new.writes link ≡ None)
    × ((write : WritePlace) → old.writes link ≡ Some write → (write' : WritePlace) × MovesOn write write' × (write'.sent ≡ write.sent)
    × StaysHeld old.held write new.held write')

-- Nothing changed but what these datanodes hold of this block, and write links that have it.
pub record OnlyBlock (id : ℕ) (nodes : List (List ℕ)) (old new : Picture) : Type 0 where
  pub records : SameRecords old new
  pub held : (node : List ℕ) (other : ℕ) → (id ≡ other → Contains nodes node → ⊥) → new.held node other ≡ old.held node other
  pub writes : (link : ℕ) (place : WritePlace) → old.writes link ≡ Some place → place.block ≢ id → new.writes link ≡ Some place

-- After calls on a link it is further on, and nothing changed but what its datanodes hold of its block, and links that have it.
pub record GoesFurther (old : Picture) (place : WritePlace) (new : Picture) (place' : WritePlace) : Type 0 where
  pub moves : MovesOn place place'
  pub stays : StaysHeld old.held place new.held place'
  pub only : OnlyBlock place.block place.nodes old new
