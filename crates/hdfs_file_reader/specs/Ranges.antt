-- Ranges of files that are stored in blocks.
use Rattle.std.specs.Prelude.{◌≡◌, ◌⊎◌, ℕ, ◌+◌, ◌-◌, ◌<◌, ◌≤◌, min, max, false, List, get_or, length, Some, None}
use Rattle.hdfs_cluster.specs.declared.messages.LocatedBlock.{LocatedBlock}
use Rattle.hdfs_cluster.specs.declared.errors.HdfsError.{HdfsError}
use Rattle.hdfs_cluster.specs.declared.errors.HdfsError.TheVariants as errors
use Rattle.hdfs_cluster.specs.declared.errors.TransferFault.TheVariants as transfer
use Rattle.hdfs_cluster.specs.Counts.{FaultCounts}
use Rattle.hdfs_cluster.specs.Picture.{Picture}
use Rattle.hdfs_cluster.specs.Namenode.{LocatesBlocks}
use Rattle.hdfs_cluster.specs.Shown.{Shown}
use Rattle.hdfs_cluster.specs.Reading.{range_of}
use Rattle.hdfs_cluster.specs.Stores.{StoresBlocks, HoldsPrefix}
use Rattle.hdfs_block_reader.specs.Blocks.{node_at, node_count}
use Rattle.hdfs_block_reader.specs.Reader.{block_of, wanted_of, end_of, link_of, has_failed, Over, AllBlamed, IsRead}
use Rattle.hdfs_block_reader.specs.declared.block_read.BlockRead.{BlockRead}

-- the blocks of a whole file, and the bytes that they store
pub record Stored (shown : Shown) (blocks : List LocatedBlock) (content : List ℕ) : Type 0 where
  pub picture : Picture
  pub told : shown.picture ≡ Some picture
  pub ids : List ℕ
  pub total : ℕ
  pub located : LocatesBlocks picture.table 0 total ids blocks
  pub stored : StoresBlocks picture ids content

-- each node that is listed for a block holds a prefix of these bytes
pub record HoldsBlock (shown : Shown) (block : LocatedBlock) (bytes : List ℕ) : Type 0 where
  pub picture : Picture
  pub told : shown.picture ≡ Some picture
  pub prefixes : (k : ℕ) → k < node_count block → HoldsPrefix (λ node. picture.held node block.b.block_id) bytes (node_at block k)

-- the part of a block's bytes that lies in a range of the file, where the block begins at this offset
abbrev pub part_of : List ℕ → ℕ → ℕ → ℕ → List ℕ
part_of bytes at offset end = range_of bytes (offset - at) (min end (at + length bytes) - max offset at)

-- The only errors are want of memory, and a byte that no datanode gave, of which this holds.
abbrev pub FailsAt : (ℕ → Type 0) → HdfsError → Type 0
FailsAt P errors.NoMemory = Unit {0}
FailsAt P (errors.DataTransferError (transfer.Read byte)) = P byte
FailsAt P error = ⊥

-- of these blocks the one of this number begins at this offset or before, or it is the first
abbrev pub BeginsBy : ℕ → List LocatedBlock → ℕ → Type 0
BeginsBy start blocks k = (k ≡ 0) ⊎ ((k < length blocks) × ((default : LocatedBlock) → (get_or blocks k default).offset ≤ start))

-- no byte of a block lies in the range of the file
abbrev pub IsOutside : LocatedBlock → ℕ → ℕ → Type 0
IsOutside block offset end = min end (block.offset + block.b.num_bytes) ≤ max offset block.offset

-- the byte at this offset of a block lies in the block and in the range of the file
pub record LiesIn (block : LocatedBlock) (offset end byte : ℕ) : Type 0 where
  pub behind : offset ≤ block.offset + byte
  pub before : block.offset + byte < end
  pub inside : byte < block.b.num_bytes

-- the reader has gone on in its range, or stands where it stood, and has not failed
pub record GoesOn (reader reader' : BlockRead) : Type 0 where
  pub on : wanted_of reader ≤ wanted_of reader'
  pub fine : has_failed reader' ≡ false

-- An error of a reader: its byte lies in what was left of the range, each location is to blame where it isn't want of
-- memory, and no link is kept.
pub record FailsToRead (old new : Shown) (reader reader' : BlockRead) (error : HdfsError) : Type 0 where
  pub fails : FailsAt (λ byte. (wanted_of reader ≤ byte) × (byte < end_of reader)) error
  pub cause : IsRead error → (start : FaultCounts) (block : List ℕ) → Over start old reader block → AllBlamed start new (block_of reader) block
  pub idle : link_of reader' ≡ None
