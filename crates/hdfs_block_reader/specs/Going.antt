-- How a reader goes on from call to call of a cluster. No public clause cites this module.
use Rattle.std.specs.Prelude.{◌≡◌, ◌≢◌, ◌⊎◌, ℕ, ◌+◌, ◌-◌, ◌*◌, ◌<◌, ◌≤◌, Bool, true, false, List, [], ◌∷◌, ◌++◌, length, Option, Some, None, IsSome, Result, IfOk, option_map, unwrap_or, if◌then◌else◌}
use Rattle.hdfs_wire.specs.declared.values.NoMemory.{NoMemory}
use Rattle.hdfs_cluster.specs.Counts.{Rose, RoseTwice}
use Rattle.hdfs_cluster.specs.Picture.{Told}
use Rattle.hdfs_cluster.specs.Requests.{Request}
use Rattle.hdfs_cluster.specs.Shown.{Shown, OnlyReads}
use Rattle.hdfs_cluster.specs.Reading.{range_of}
use Rattle.hdfs_block_reader.specs.Blocks.{node_at, node_count}
use Rattle.hdfs_block_reader.specs.Reader.{tried_of, is_of_connection, AsksForWanted, Holds, LetsRead, OthersStay, ShowsBlock, GivesUp, IsPieceOf}
use Rattle.hdfs_block_reader.specs.declared.block_read.BlockRead.{BlockRead}
use Rattle.hdfs_block_reader.specs.declared.given_up.GivenUp.{GivenUp}
use Rattle.hdfs_block_reader.specs.declared.packets.Step.{Step}
use Rattle.hdfs_block_reader.specs.declared.packets.Step.TheVariants as steps

-- what stays, whether the picture is told or not
pub record Frame (old new : Shown) (reader reader' : BlockRead) : Type 0 where
  pub block : reader'.block ≡ reader.block
  pub client : reader'.client ≡ reader.client
  pub wanted : reader.wanted ≤ reader'.wanted
  pub end : reader'.end ≡ reader.end
  pub only : OnlyReads old new
  pub others : (link : ℕ) → reader.link ≢ Some link → IsSome (old.reads link) → new.reads link ≡ old.reads link
  pub places : Told (OthersStay old reader) old.picture new.picture
  pub own : (link : ℕ) → reader'.link ≡ Some link → (reader.link ≡ Some link) ⊎ (old.reads link ≡ None)
  pub asks : AsksForWanted old new reader reader'
  pub frees : (link : ℕ) → reader'.link ≢ Some link → (reader.link ≡ Some link) ⊎ (old.reads link ≡ None) → new.reads link ≡ None
  pub holds : Holds new reader'

-- the count of the datanode that the reader tries
abbrev pub count_at : Shown → BlockRead → ℕ
count_at shown reader = shown.counts.nodes (node_at reader.block (tried_of reader))

-- a count rose, and where wanted bytes had come it rose twice
abbrev pub RoseFor : Bool → ℕ → ℕ → Type 0
RoseFor true before now = RoseTwice before now
RoseFor false before now = Rose before now

-- No location was given up, and the reader has lost what it had moved only where the datanode that it tries has failed.
pub record StaysAt (old new : Shown) (reader reader' : BlockRead) : Type 0 where
  pub given_up : reader'.given_up ≡ reader.given_up
  pub lost : reader.moved ≡ true → reader'.moved ≡ false → Rose (count_at old reader) (count_at new reader)

-- Locations were given up, the first one for this reason. Where that is of the connection, its datanode has failed, and twice where
-- wanted bytes had come.
pub record MovesOn (old new : Shown) (reader reader' : BlockRead) : Type 0 where
  pub reason : GivenUp
  pub more : List GivenUp
  pub given_up : reader'.given_up ≡ reader.given_up ++ reason ∷ more
  pub rose : is_of_connection reason ≡ true → RoseFor reader.moved (count_at old reader) (count_at new reader)

-- all that stays
pub record Goes (old new : Shown) (reader reader' : BlockRead) : Type 0 where
  pub frame : Frame old new reader reader'
  pub shows : (bytes : List ℕ) → ShowsBlock old reader bytes → ShowsBlock new reader' bytes
  pub gives_up : GivesUp old new reader reader'
  pub locations : StaysAt old new reader reader' ⊎ MovesOn old new reader reader'

-- What a reader takes from a packet's bytes: those that are wanted, or none where it ends before them.
abbrev pub Accepts : BlockRead → ℕ → ℕ → List ℕ → Step → BlockRead → Type 0
Accepts reader start end payload (steps.Piece bytes) reader' =
    (reader' ≡ record reader { position = Some end; wanted = reader.wanted + length bytes; moved = true })
    × (0 < length bytes)
    × (bytes ≡ range_of payload (reader.wanted - start) (length bytes))
    × (reader'.wanted ≤ reader.end)
    × (reader'.wanted ≤ end)
    × (reader'.wanted < reader.end → end ≤ reader'.wanted)
Accepts reader start end payload steps.Before reader' = (reader' ≡ record reader { position = Some end }) × (end ≤ reader.wanted)
Accepts reader start end payload steps.Failed reader' = ⊥

-- how far the next packet may be from the wanted offset
abbrev pub gap : BlockRead → ℕ
gap reader = unwrap_or (option_map (λ at. reader.wanted - at) reader.position) (reader.wanted + 1)

-- How often locations may still fail to give bytes: each of those that are left, and one of them once more where wanted bytes have come.
abbrev pub tries_left : BlockRead → ℕ
tries_left reader = 2 * (node_count reader.block - tried_of reader) + (if reader.moved then 1 else 0)

-- the reader without its link, which has given up the location that is tried
abbrev pub gives_up : BlockRead → GivenUp → BlockRead
gives_up reader reason = record reader { link = None; position = None; moved = false; given_up = reader.given_up ++ reason ∷ [] }

-- The location that is tried was given up, as no wanted bytes had come; or it is tried once more.
abbrev pub Loses : BlockRead → GivenUp → BlockRead → Type 0
Loses reader reason reader' =
    ((reader.moved ≡ false) × (reader' ≡ gives_up reader reason))
    ⊎ ((reader.moved ≡ true) × (reader' ≡ record reader { link = None; position = None; moved = false }))

-- one try fewer is left, and the reader keeps no link
abbrev pub LosesOne : BlockRead → BlockRead → Type 0
LosesOne reader reader' = (reader'.link ≡ None) × (tries_left reader' < tries_left reader)

-- A read may be opened: the reader keeps what holds, there is leave to read its block, a location is left, bytes are wanted, and it keeps no
-- link.
pub record MayOpen (allows : Request → Type 0) (shown : Shown) (reader : BlockRead) : Type 0 where
  pub holds : Holds shown reader
  pub allowed : LetsRead allows reader.block reader.client reader.end
  pub left : tried_of reader < node_count reader.block
  pub more : reader.wanted < reader.end
  pub idle : reader.link ≡ None

-- the reader keeps the link that was opened, or the location that is tried was lost
abbrev pub OpensOrLoses : BlockRead → Option ℕ → BlockRead → Type 0
OpensOrLoses reader (Some link) reader' = (reader'.link ≡ Some link) × (tries_left reader' ≤ tries_left reader)
OpensOrLoses reader None reader' = LosesOne reader reader'

-- what a packet does to the reader
abbrev pub Steps : BlockRead → Step → BlockRead → Type 0
Steps reader (steps.Piece bytes) reader' = (reader'.wanted ≡ reader.wanted + length bytes) × (0 < length bytes) × (reader'.moved ≡ true)
Steps reader steps.Before reader' =
    (reader'.wanted ≡ reader.wanted) × (reader'.link ≡ reader.link) × (tries_left reader' ≡ tries_left reader) × (gap reader' < gap reader)
Steps reader steps.Failed reader' = (reader'.wanted ≡ reader.wanted) × LosesOne reader reader'

-- the bytes that it gave stand there in the block
abbrev pub IsPartOf : List ℕ → ℕ → Step → Type 0
IsPartOf block from (steps.Piece bytes) = bytes ≡ range_of block from (length bytes)
IsPartOf block from steps.Before = Unit {0}
IsPartOf block from steps.Failed = Unit {0}

-- the next bytes of the range, or none and one try fewer
abbrev pub GivesOrGivesUp : BlockRead → Option (List ℕ) → BlockRead → Type 0
GivesOrGivesUp reader (Some bytes) reader' = (reader'.wanted ≡ reader.wanted + length bytes) × (0 < length bytes) × (reader'.moved ≡ true)
GivesOrGivesUp reader None reader' = (reader'.wanted ≡ reader.wanted) × LosesOne reader reader'

-- What reading from one location comes to: it goes on, and gives the next bytes of the range, or the location is given up.
pub record ReadsLocation (old new : Shown) (reader reader' : BlockRead) (result : Result (Option (List ℕ)) NoMemory) : Type 0 where
  pub goes : Goes old new reader reader'
  pub failed : reader'.failed ≡ reader.failed
  pub piece : IfOk result (λ piece. GivesOrGivesUp reader piece reader')
  pub bytes : IfOk result (λ piece. (block : List ℕ) → ShowsBlock old reader block → IsPieceOf block reader.wanted piece)
