-- What a writer of a file has to do with the file's bytes.
use Rattle.std.specs.Prelude.{◌≡◌, ◌≢◌, ℕ, ◌+◌, ◌-◌, ◌*◌, ◌<◌, ◌≤◌, true, List, [], ◌∷◌, ◌++◌, length as len, Option, Some, None}
use Rattle.hdfs_cluster.specs.declared.messages.Block.{Block}
use Rattle.hdfs_cluster.specs.declared.picture.FileEntry.{FileEntry}
use Rattle.hdfs_cluster.specs.declared.messages.LocatedBlock.{LocatedBlock}
use Rattle.hdfs_cluster.specs.Picture.{Picture}
use Rattle.hdfs_cluster.specs.Sending.{uuids}
use Rattle.hdfs_cluster.specs.Sound.{IsFileAt}
use Rattle.hdfs_cluster.specs.Stores.{StoresBlocks}
use Rattle.hdfs_block_reader.specs.Carrying.{HoldsWhole}
use Rattle.hdfs_block_writer.specs.BlockWriters.{Carries, length_of, size_of}
use Rattle.hdfs_block_writer.specs.OpenPipelines.{id_of}
use Rattle.hdfs_block_writer.specs.declared.block_writer.BlockWriter.{BlockWriter}
use Rattle.hdfs_file_writer.specs.declared.tails.Tail.{Tail}
use Rattle.hdfs_file_writer.specs.declared.tails.Tail.TheVariants.{Bare, Done, Reopened, Going}

-- the last block, where it is done
abbrev pub last_of : Tail → Option Block
last_of (Done block) = Some block
last_of tail = None

-- the block that is to be gone on with, where one is
abbrev pub reopened_of : Tail → Option LocatedBlock
reopened_of (Reopened located) = Some located
reopened_of tail = None

-- the writer of the block that is being written, where one is
abbrev pub going_of : Tail → Option BlockWriter
going_of (Going writer) = Some writer
going_of tail = None

-- how many bytes the last block has, as its writer has it
abbrev pub tail_length : Tail → ℕ
tail_length Bare = 0
tail_length (Done block) = block.num_bytes
tail_length (Reopened located) = located.b.num_bytes
tail_length (Going writer) = length_of writer

-- the last block, where the file has one, has no room for a byte, as blocks of this size go
abbrev pub IsFull : ℕ → Tail → Type 0
IsFull size Bare = Unit {0}
IsFull size tail = size ≤ tail_length tail

-- a block is to be gone on with that has room for a byte, as blocks of this size go
abbrev pub GoesOn : ℕ → Tail → Type 0
GoesOn size (Reopened located) = located.b.num_bytes < size
GoesOn size tail = ⊥

-- a block is being written that has room for a byte
abbrev pub HasRoom : Tail → Type 0
HasRoom (Going writer) = length_of writer ≢ size_of writer
HasRoom tail = ⊥

-- what a file's blocks take up: those before the last one a whole block each, and the last one its bytes
abbrev pub taken_up : ℕ → List ℕ → Tail → ℕ
taken_up size blocks tail = (len blocks - 1) * size + tail_length tail

-- Where the last block wasn't longer than a block of the file is, it isn't now, and the blocks take up just these bytes more: no
-- block was begun before the one before it was full.
abbrev pub FillsBlocks : ℕ → List ℕ → Tail → List ℕ → List ℕ → Tail → Type 0
FillsBlocks size blocks tail more blocks' tail' =
    tail_length tail ≤ size
    → (tail_length tail' ≤ size) × (taken_up size blocks' tail' ≡ taken_up size blocks tail + len more)

-- the blocks before the last store the first bytes of the file, and the rest is the last one's
pub record StoresFront (p : Picture) (blocks : List ℕ) (last : ℕ) (bytes rest : List ℕ) : Type 0 where
  pub front : List ℕ
  pub ends : blocks ≡ front ++ last ∷ []
  pub before : List ℕ
  pub cut : bytes ≡ before ++ rest
  pub stored : StoresBlocks p front before

-- The last block of the file at a path is as its writer has it. The length of one that is done is what the writer names next, which the
-- block table may not say yet. One that is being written is written for this path.
abbrev pub TailCarries : Picture → List ℕ → List ℕ → Tail → List ℕ → Type 0
TailCarries p path blocks Bare bytes = (blocks ≡ []) × (bytes ≡ [])
TailCarries p path blocks (Done block) bytes =
    (rest : List ℕ) × StoresFront p blocks block.block_id bytes rest
    × ((nodes : List (List ℕ)) × HoldsWhole p block.block_id block.num_bytes nodes rest)
TailCarries p path blocks (Reopened located) bytes =
    (rest : List ℕ) × StoresFront p blocks located.b.block_id bytes rest × HoldsWhole p located.b.block_id located.b.num_bytes (uuids located.locs) rest
TailCarries p path blocks (Going writer) bytes =
    (rest : List ℕ) × (c : Carries p writer rest) × (c.pipe.plan.src ≡ path) × StoresFront p blocks (id_of c.pipe) bytes rest

-- The writer of the file at a path carries these bytes: the file is open, the blocks before the last store the first of them,
-- and the last block, or its writer, has the rest.
pub record FileCarries (p : Picture) (path : List ℕ) (tail : Tail) (bytes : List ℕ) : Type 0 where
  pub file : FileEntry
  pub named : IsFileAt p path file
  pub being_written : file.is_open ≡ true
  pub carries : TailCarries p path file.blocks tail bytes
