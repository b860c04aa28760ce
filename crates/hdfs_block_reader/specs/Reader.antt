-- A reader of a block, the cluster that it reads from, and the bytes of the block.
use Rattle.std.specs.Prelude.{◌≡◌, ◌≢◌, ◌⊎◌, ◌↔◌, ℕ, zero, suc, ◌+◌, ◌<◌, ◌≤◌, Bool, true, false, List, ◌∷◌, ◌++◌, length, slice_get, Option, Some, None, IsSome, IsSomeAnd, IfSome, Result, Ok, IfOk, IfErr}
use Rattle.hdfs_cluster.specs.declared.messages.DatanodeId.{DatanodeId}
use Rattle.hdfs_cluster.specs.declared.messages.LocatedBlock.{LocatedBlock}
use Rattle.hdfs_cluster.specs.declared.messages.ReadAsk.{ReadAsk}
use Rattle.hdfs_cluster.specs.declared.picture.ReadPlace.{ReadPlace}
use Rattle.hdfs_cluster.specs.declared.picture.OpenRead.{OpenRead}
use Rattle.hdfs_cluster.specs.declared.errors.HdfsError.{HdfsError}
use Rattle.hdfs_cluster.specs.declared.errors.HdfsError.TheVariants as errors
use Rattle.hdfs_cluster.specs.declared.errors.TransferFault.TheVariants as transfer
use Rattle.hdfs_cluster.specs.Counts.{FaultCounts, NeverFall, RoseTwice}
use Rattle.hdfs_cluster.specs.Picture.{Picture, Told}
use Rattle.hdfs_cluster.specs.Requests.{Request, ReadOf}
use Rattle.hdfs_cluster.specs.Shown.{Shown, OnlyReads}
use Rattle.hdfs_cluster.specs.Reading.{range_of}
use Rattle.hdfs_cluster.specs.Stores.{HoldsPrefix}
use Rattle.hdfs_connections.specs.declared.connection_cache.ConnectionCache.{ConnectionCache}
use Rattle.hdfs_connections.specs.Connections.{kept_at}
use Rattle.hdfs_block_reader.specs.Blocks.{address_of_node, node_at, node_count, held_at, IsToBlame}
use Rattle.hdfs_block_reader.specs.declared.block_read.BlockRead.{BlockRead}
use Rattle.hdfs_block_reader.specs.declared.given_up.GivenUp.{GivenUp}
use Rattle.hdfs_block_reader.specs.declared.given_up.GivenUp.TheVariants as reasons

-- the block that it reads
abbrev pub block_of : BlockRead → LocatedBlock
block_of reader = reader.block

-- the name by which datanodes know it
abbrev pub client_of : BlockRead → List ℕ
client_of reader = reader.client

-- the offset in the block of the next byte that it is to give
abbrev pub wanted_of : BlockRead → ℕ
wanted_of reader = reader.wanted

-- the offset in the block at which its range ends
abbrev pub end_of : BlockRead → ℕ
end_of reader = reader.end

-- why it has given up locations, in their order: they are the first ones of the block
abbrev pub given_up_of : BlockRead → List GivenUp
given_up_of reader = reader.given_up

-- how many locations it has given up
abbrev pub tried_of : BlockRead → ℕ
tried_of reader = length (given_up_of reader)

-- whether wanted bytes have come since a location last failed it
abbrev pub moved_of : BlockRead → Bool
moved_of reader = reader.moved

-- the link that it keeps open from one call to the next
abbrev pub link_of : BlockRead → Option ℕ
link_of reader = reader.link

-- whether a call has answered an error
abbrev pub has_failed : BlockRead → Bool
has_failed reader = reader.failed

-- an address is that of a location that is tried from one call to the next
abbrev pub IsTriedAddress : BlockRead → BlockRead → List ℕ → Type 0
IsTriedAddress reader reader' address =
    (k : ℕ) × (tried_of reader ≤ k) × (k ≤ tried_of reader')
    × IsSomeAnd (slice_get (block_of reader).locs k) (λ node. address ≡ address_of_node node.id)

-- the connections stay that are kept to addresses of other locations than those that are tried
abbrev pub KeepsConnections : BlockRead → BlockRead → ConnectionCache → ConnectionCache → Type 0
KeepsConnections reader reader' old new =
    (address : List ℕ) → (IsTriedAddress reader reader' address → ⊥) → kept_at new address ≡ kept_at old address

-- nothing more comes
abbrev pub IsOver : BlockRead → Type 0
IsOver reader = (has_failed reader ≡ true) ⊎ (wanted_of reader ≡ end_of reader)

-- nothing comes exactly where the range is given or the reader has failed, and then nothing is asked of the cluster
abbrev pub EndsStill : {C : Type 0} → BlockRead → C → Result (Option (List ℕ)) HdfsError → C → Type 0
EndsStill reader old result new = ((result ≡ Ok None) ↔ IsOver reader) × (result ≡ Ok None → new ≡ old)

-- the node is that of the k-th location of a block, with the address that is listed for it
abbrev pub IsNodeAt : LocatedBlock → ℕ → DatanodeId → Type 0
IsNodeAt block k node = IsSomeAnd (slice_get block.locs k) (λ listed. node ≡ listed.id)

-- a read of a block up to this byte was asked for from its k-th location, at the address that is listed for it, in a client's name, with
-- the block's stamp, pool and token as they were answered
pub record IsAskFor (block : LocatedBlock) (k : ℕ) (client : List ℕ) (end : ℕ) (ask : ReadAsk) : Type 0 where
  pub node : ask.node.datanode_uuid ≡ node_at block k
  pub listed : IsNodeAt block k ask.node
  pub same_block : ask.block ≡ block.b
  pub token : ask.token ≡ block.block_token
  pub same_client : ask.client ≡ client
  pub same_end : ask.offset + ask.len ≡ end

-- leave to read a block up to a byte, in the name of a client, from each datanode that is listed for it
abbrev pub LetsRead : (Request → Type 0) → LocatedBlock → List ℕ → ℕ → Type 0
LetsRead allows block client end = (k : ℕ) (ask : ReadAsk) → IsAskFor block k client end ask → allows (ReadOf ask)

-- The link was opened on the location that the reader tries, when its node's count was at most what it is now.
abbrev pub LinkHolds : Shown → BlockRead → ℕ → Type 0
LinkHolds shown reader link =
    (tried_of reader < node_count reader.block)
    × (opened : OpenRead)
    × (shown.reads link ≡ Some opened)
    × IsAskFor reader.block (tried_of reader) reader.client reader.end opened.ask
    × (opened.before ≤ shown.counts.nodes (node_at reader.block (tried_of reader)))

-- The reader's place is in its range and its list, and the link that it keeps is open.
pub record Holds (shown : Shown) (reader : BlockRead) : Type 0 where
  pub range : reader.wanted ≤ reader.end
  pub tried : tried_of reader ≤ node_count reader.block
  pub link : (link : ℕ) → reader.link ≡ Some link → LinkHolds shown reader link
  pub position : (at : ℕ) → reader.position ≡ Some at → reader.wanted < reader.end → at ≤ reader.wanted

-- The reader stands in the cluster as its last call left it. At the end of its range and after an error it keeps no link.
pub record Stands (shown : Shown) (reader : BlockRead) : Type 0 where
  pub holds : Holds shown reader
  pub idle : IsOver reader → link_of reader ≡ None

-- the places of the links that were open and aren't the reader's own stay
abbrev pub OthersStay : Shown → BlockRead → Picture → Picture → Type 0
OthersStay old reader p q = (link : ℕ) → link_of reader ≢ Some link → IsSome (old.reads link) → q.reads link ≡ p.reads link

-- The datanode could not be reached, or the connection to it broke.
abbrev pub is_of_connection : GivenUp → Bool
is_of_connection reasons.NotOpened = true
is_of_connection reasons.Broken = true
is_of_connection reasons.Damaged = false
is_of_connection reasons.Misplaced = false

-- Where wanted bytes had come since a location last failed, a connection that fails doesn't lose the location: it is tried once more,
-- and is given up for its connection only once its datanode has failed twice.
abbrev pub TriesAgain : Shown → Shown → BlockRead → BlockRead → Type 0
TriesAgain old new reader reader' =
    moved_of reader ≡ true
    → (reason : GivenUp) (more : List GivenUp)
    → given_up_of reader' ≡ given_up_of reader ++ reason ∷ more
    → is_of_connection reason ≡ true
    → RoseTwice (old.counts.nodes (node_at (block_of reader) (tried_of reader))) (new.counts.nodes (node_at (block_of reader) (tried_of reader)))

-- The link that a reader keeps is the one that it had, or was asked for from the wanted byte on.
abbrev pub AsksForWanted : Shown → Shown → BlockRead → BlockRead → Type 0
AsksForWanted old new reader reader' =
    (link : ℕ) → link_of reader' ≡ Some link
    → ((link_of reader ≡ Some link) × (new.reads link ≡ old.reads link)) ⊎ IfSome (new.reads link) (λ opened. wanted_of reader ≤ opened.ask.offset)

-- What every call of a reader keeps. What it has given it doesn't give again. Links that were open and aren't its own stay as they
-- were. The link that it keeps is the same or a fresh one, and no other link that it used is left open.
pub record Keeps (old new : Shown) (reader reader' : BlockRead) : Type 0 where
  pub block : block_of reader' ≡ block_of reader
  pub client : client_of reader' ≡ client_of reader
  pub wanted : wanted_of reader ≤ wanted_of reader'
  pub end : end_of reader' ≡ end_of reader
  pub given_up : (more : List GivenUp) × (given_up_of reader' ≡ given_up_of reader ++ more)
  pub only : OnlyReads old new
  pub others : (link : ℕ) → link_of reader ≢ Some link → IsSome (old.reads link) → new.reads link ≡ old.reads link
  pub places : Told (OthersStay old reader) old.picture new.picture
  pub own : (link : ℕ) → link_of reader' ≡ Some link → (link_of reader ≡ Some link) ⊎ (old.reads link ≡ None)
  pub asks : AsksForWanted old new reader reader'
  pub frees : (link : ℕ) → link_of reader' ≢ Some link → (link_of reader ≡ Some link) ⊎ (old.reads link ≡ None) → new.reads link ≡ None
  pub stands : Stands new reader'

-- where the next packet begins
abbrev pub PlaceIs : Option ℕ → ℕ → ℕ → Type 0
PlaceIs None wanted place = place ≤ wanted
PlaceIs (Some at) wanted place = place ≡ at

-- what a told picture shows of the reader's link
abbrev pub PlacedIn : Picture → BlockRead → Type 0
PlacedIn picture reader =
    (link : ℕ)
    → reader.link ≡ Some link
    → (read : ReadPlace)
    × (picture.reads link ≡ Some read)
    × (read.base ≡ held_at picture reader.block (tried_of reader))
    × (read.offset + read.len ≡ reader.end)
    × PlaceIs reader.position reader.wanted read.place

-- The cluster tells a picture, in which each listed node holds a prefix of these bytes. They reach to the end of the range.
pub record ShowsBlock (shown : Shown) (reader : BlockRead) (bytes : List ℕ) : Type 0 where
  pub picture : Picture
  pub told : shown.picture ≡ Some picture
  pub within : end_of reader ≤ length bytes
  pub prefixes : (k : ℕ) → k < node_count (block_of reader) → HoldsPrefix (λ node. picture.held node (block_of reader).b.block_id) bytes (node_at (block_of reader) k)
  pub placed : PlacedIn picture reader

-- the count of a link's node just before it was opened, and without a link its count now
abbrev pub before_opening : Option OpenRead → ℕ → ℕ
before_opening None now = now
before_opening (Some opened) now = opened.before

-- the count before the link was opened, or now where none is open
abbrev pub before_link : Shown → Option ℕ → ℕ → ℕ
before_link shown None now = now
before_link shown (Some link) now = before_opening (shown.reads link) now

-- Where a reader is in the list of locations: how many it has given up; the count of the next one's node when it was
-- opened, or where it isn't open the count now; and all counts now.
pub record Stage : Type 0 where
  pub tried : ℕ
  pub before : ℕ
  pub counts : FaultCounts

-- where a reader stands: the datanodes that it tried, and the counts
abbrev pub stage_of : Shown → BlockRead → Stage
stage_of shown reader = record {
  tried = tried_of reader;
  before = before_link shown (link_of reader) (shown.counts.nodes (node_at (block_of reader) (tried_of reader)));
  counts = shown.counts;
}

-- From one stage to another so many locations were given up, one after another: each was opened, and was to blame since
-- then, and only then the next one was opened.
abbrev pub GaveUp : Picture → LocatedBlock → List ℕ → ℕ → Stage → Stage → Type 0
GaveUp picture block bytes zero old new = (new.tried ≡ old.tried) × (old.before ≤ new.before) × NeverFall old.counts new.counts
GaveUp picture block bytes (suc n) old new =
    (mid : FaultCounts)
    × NeverFall old.counts mid
    × IsToBlame picture block bytes old.tried old.before mid
    × GaveUp picture block bytes n (record { tried = old.tried + 1; before = mid.nodes (node_at block (old.tried + 1)); counts = mid }) new

-- over a told picture locations are given up as they should
abbrev pub GivesUp : Shown → Shown → BlockRead → BlockRead → Type 0
GivesUp old new reader reader' =
    (bytes : List ℕ) (shows : ShowsBlock old reader bytes)
    → (n : ℕ) × GaveUp shows.picture (block_of reader) bytes n (stage_of old reader) (stage_of new reader')

-- the k-th location is to blame since these counts
abbrev pub Blamed : FaultCounts → Shown → Picture → LocatedBlock → List ℕ → ℕ → Type 0
Blamed start shown picture block bytes k = IsToBlame picture block bytes k (start.nodes (node_at block k)) shown.counts

-- Over a told picture each location that was given up is to blame since the start, and the reader's link was opened since
-- then.
pub record Over (start : FaultCounts) (shown : Shown) (reader : BlockRead) (bytes : List ℕ) : Type 0 where
  pub shows : ShowsBlock shown reader bytes
  pub since : NeverFall start shown.counts
  pub opened : start.nodes (node_at (block_of reader) (tried_of reader)) ≤ (stage_of shown reader).before
  pub blamed : (k : ℕ) → k < tried_of reader → Blamed start shown shows.picture (block_of reader) bytes k

-- What a call keeps over a told picture; a location is given up only where its node has failed since it was opened, or
-- doesn't hold the block whole.
pub record Reads (old new : Shown) (reader reader' : BlockRead) : Type 0 where
  pub shows : (bytes : List ℕ) → ShowsBlock old reader bytes → ShowsBlock new reader' bytes
  pub over : (start : FaultCounts) (bytes : List ℕ) → Over start old reader bytes → Over start new reader' bytes
  pub gives_up : GivesUp old new reader reader'

-- each location is to blame since the start
abbrev pub AllBlamed : FaultCounts → Shown → LocatedBlock → List ℕ → Type 0
AllBlamed start shown block bytes = (picture : Picture) → shown.picture ≡ Some picture → (k : ℕ) → k < node_count block → Blamed start shown picture block bytes k

-- an error that a datanode gave, not want of memory
abbrev pub IsRead : HdfsError → Type 0
IsRead e = e ≢ errors.NoMemory

-- What a call gave: bytes, by which the wanted offset moves on and the reader has moved; or none, and it is what it was.
abbrev pub GivesPiece : BlockRead → Option (List ℕ) → BlockRead → Type 0
GivesPiece reader None reader' = reader' ≡ reader
GivesPiece reader (Some bytes) reader' =
    (wanted_of reader' ≡ wanted_of reader + length bytes) × (0 < length bytes) × (has_failed reader' ≡ false) × (moved_of reader' ≡ true)

-- the bytes stand in the block at the offset that was wanted
abbrev pub IsPieceOf : List ℕ → ℕ → Option (List ℕ) → Type 0
IsPieceOf block from None = Unit {0}
IsPieceOf block from (Some bytes) = bytes ≡ range_of block from (length bytes)

-- A read fails inside of its range and for good: for want of memory, or once no location is left, with the offset of the
-- first wanted byte, which none of them gave.
pub record Fails (reader : BlockRead) (error : HdfsError) (reader' : BlockRead) : Type 0 where
  pub failed : has_failed reader' ≡ true
  pub inside : wanted_of reader < end_of reader
  pub is : (error ≡ errors.NoMemory) ⊎ (error ≡ errors.DataTransferError (transfer.Read (wanted_of reader)))
  pub all_tried : IsRead error → tried_of reader' ≡ node_count (block_of reader)

-- What a call answers: bytes or none, or why the read has failed.
abbrev pub Gives : BlockRead → Result (Option (List ℕ)) HdfsError → BlockRead → Type 0
Gives reader result reader' = IfOk result (λ piece. GivesPiece reader piece reader') × IfErr result (λ error. Fails reader error reader')
