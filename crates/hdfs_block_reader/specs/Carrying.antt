-- What a writer of a block has to do with the block's bytes.
use Rattle.std.specs.Prelude.{◌≡◌, ℕ, pos, ◌+◌, ◌<◌, ◌≤◌, false, List, [], ◌∷◌, ◌++◌, length as len, take, drop, All, Some}
use Rattle.hdfs_wire.specs.Outgoing.{Outgoing}
use Rattle.hdfs_cluster.specs.declared.picture.BlockEntry.{BlockEntry}
use Rattle.hdfs_cluster.specs.Picture.{Picture}
use Rattle.hdfs_cluster.specs.Sending.{WritePlace, HoldsAt, MovesOn, StaysHeld}
use Rattle.hdfs_cluster.specs.Stores.{HoldsPrefix, StoresBlock}
use Rattle.hdfs_cluster.specs.Writing.{OnlyBlock}

-- how many bytes packets have together
abbrev pub total : List Outgoing → ℕ
total [] = 0
total (packet ∷ packets) = len packet.payload + total packets

-- the payloads of packets, joined
abbrev pub joined : List Outgoing → List ℕ
joined [] = []
joined (packet ∷ packets) = packet.payload ++ joined packets

-- packets are slices of a block's bytes, one behind another from an offset on
abbrev pub AreSlices : List ℕ → ℕ → List Outgoing → Type 0
AreSlices bytes at [] = Unit {0}
AreSlices bytes at (packet ∷ packets) =
    (packet.header.offset_in_block ≡ pos at)
    × (at + len packet.payload ≤ len bytes)
    × (packet.payload ≡ take (len packet.payload) (drop at bytes))
    × AreSlices bytes (at + len packet.payload) packets

-- packets stand in the block one behind another from an offset on
abbrev pub FollowFrom : ℕ → List Outgoing → Type 0
FollowFrom at [] = Unit {0}
FollowFrom at (packet ∷ packets) = (packet.header.offset_in_block ≡ pos at) × FollowFrom (at + len packet.payload) packets

-- What a write link has whatever fails. Each of its datanodes holds a prefix of the block's bytes, and in it all bytes that
-- are acknowledged, the first `safe` ones: it held a prefix when the link was opened, packets were sent that are slices from
-- `start` on, and each datanode has received the first `settled` packets, which end at `safe`.
pub record LinkHolds (p : Picture) (link id : ℕ) (nodes : List (List ℕ)) (safe : ℕ) (bytes : List ℕ) : Type 0 where
  pub place : WritePlace
  pub told : p.writes link ≡ Some place
  pub block : place.block ≡ id
  pub same_nodes : place.nodes ≡ nodes
  pub start : ℕ
  pub base : (i : ℕ) → i < len nodes
      → (place.base i ≡ take (len (place.base i)) bytes) × (start ≤ len (place.base i)) × (len (place.base i) ≤ len bytes)
  pub slices : AreSlices bytes start place.sent
  pub settled : ℕ
  pub few : settled ≤ len place.sent
  pub settles : start + total (take settled place.sent) ≡ safe
  pub undisturbed : (i : ℕ) → i < len nodes → place.disturbed i ≡ false
  pub holds : (i : ℕ) → i < len nodes → HoldsAt p.held place i
  pub received : (i : ℕ) → i < len nodes → (settled ≤ place.received i) × (place.received i ≤ len place.sent)

-- The same while nothing has failed: the settled packets are those that are acknowledged, and these were sent behind them.
pub record LinkCarries (p : Picture) (link id : ℕ) (nodes : List (List ℕ)) (safe : ℕ) (unacknowledged : List Outgoing) (bytes : List ℕ)
    : Type 0 where
  pub on : LinkHolds p link id nodes safe bytes
  pub all : on.settled ≡ on.place.acknowledged
  pub behind : drop on.settled on.place.sent ≡ unacknowledged

-- Nothing has failed on the link: these packets were sent behind those that are acknowledged, and each datanode has
-- received the latter.
pub record Awaits (place : WritePlace) (waiting : List Outgoing) : Type 0 where
  pub few : place.acknowledged ≤ len place.sent
  pub behind : drop place.acknowledged place.sent ≡ waiting
  pub received : (i : ℕ) → i < len place.nodes → (place.acknowledged ≤ place.received i) × (place.received i ≤ len place.sent)

-- what is seen of a writer of one block
pub record BlockView : Type 0 where
  pub id : ℕ
  -- how many bytes it took, those in the block before it included
  pub length : ℕ
  -- the datanodes of its pipeline, by their uuids
  pub nodes : List (List ℕ)
  pub link : ℕ
  -- how many bytes are acknowledged: the packets up to there are
  pub safe : ℕ
  -- the packets behind that were queued
  pub pending : List Outgoing
  -- how many of these were sent
  pub sent : ℕ
  -- the payload of the packet that is being filled
  pub filling : List ℕ

-- The writer carries these bytes: they are the block's so far. Those that aren't acknowledged it has itself. The block table
-- lists the datanodes of the pipeline, and each of them holds a prefix of the bytes.
pub record BlockCarries (p : Picture) (view : BlockView) (bytes : List ℕ) : Type 0 where
  pub counted : view.length ≡ len bytes
  pub within : view.safe ≤ len bytes
  pub kept : joined view.pending ++ view.filling ≡ drop view.safe bytes
  pub linked : LinkCarries p view.link view.id view.nodes view.safe (take view.sent view.pending) bytes
  pub entry : BlockEntry
  pub is : p.table view.id ≡ Some entry
  pub listed : All (HoldsPrefix (λ node. p.held node view.id) bytes) entry.nodes
  pub some : 0 < len view.nodes
  pub same_listed : entry.nodes ≡ view.nodes

-- A block of this length, which the block table may not say yet, is stored. The table lists these datanodes, and each of
-- them holds the block whole.
pub record HoldsWhole (p : Picture) (id length : ℕ) (nodes : List (List ℕ)) (bytes : List ℕ) : Type 0 where
  pub entry : BlockEntry
  pub is : p.table id ≡ Some entry
  pub stores : StoresBlock p id (record entry { length = length }) bytes
  pub whole : All (λ node. p.held node id ≡ bytes) nodes
  pub some : 0 < len nodes
  pub same_listed : entry.nodes ≡ nodes

-- After calls on a write link it is further on: more packets were sent behind the others, and nothing changed but what its
-- datanodes hold of its block, and write links that have this block.
pub record LinkGoesOn (p q : Picture) (link : ℕ) (place : WritePlace) : Type 0 where
  pub later : WritePlace
  pub at : q.writes link ≡ Some later
  pub moves : MovesOn place later
  pub held : StaysHeld p.held place q.held later
  pub only : OnlyBlock place.block place.nodes p q
  pub more : List Outgoing
  pub sent : later.sent ≡ place.sent ++ more

-- no datanode has received more packets than were sent
abbrev pub ReceivesSent : WritePlace → Type 0
ReceivesSent place = (i : ℕ) → i < len place.nodes → place.received i ≤ len place.sent

-- the link is further on, if it was there
abbrev pub WritesFurther : ℕ → Picture → Picture → Type 0
WritesFurther link p q = (place : WritePlace) → p.writes link ≡ Some place → ReceivesSent place → LinkGoesOn p q link place
