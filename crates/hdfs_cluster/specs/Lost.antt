-- What datanodes have lost of a file, in a picture that is told.
use Rattle.std.specs.Prelude.{◌≡◌, ◌⊎◌, ℕ, ◌+◌, ◌<◌, ◌≤◌, List, [], ◌∷◌, ◌++◌, length, Option, Some, slice_index_or}
use Rattle.hdfs_cluster.specs.declared.picture.BlockEntry.{BlockEntry}
use Rattle.hdfs_cluster.specs.declared.picture.Entry.TheVariants as entries
use Rattle.hdfs_cluster.specs.declared.picture.FileEntry.{FileEntry}
use Rattle.hdfs_cluster.specs.Counts.{FaultCounts, Rose}
use Rattle.hdfs_cluster.specs.Failures.{EachRose, OneRose}
use Rattle.hdfs_cluster.specs.Files.{File}
use Rattle.hdfs_cluster.specs.Picture.{Picture}
use Rattle.hdfs_cluster.specs.Shown.{Shown}

-- the block with this id begins at this offset of a file with these blocks, the first of which begins at `from`
abbrev pub LiesAt : (ℕ → Option BlockEntry) → ℕ → List ℕ → ℕ → ℕ → Type 0
LiesAt table from [] id at = ⊥
LiesAt table from (first ∷ ids) id at =
    ((first ≡ id) × (from ≡ at)) ⊎ ((entry : BlockEntry) × (table first ≡ Some entry) × LiesAt table (from + entry.length) ids id at)

-- each listed datanode that holds the block whole has failed
abbrev pub AllFailed : FaultCounts → FaultCounts → Picture → ℕ → BlockEntry → Type 0
AllFailed old new p id entry =
    (k : ℕ) → k < length entry.nodes → length (p.held (slice_index_or entry.nodes k []) id) ≡ entry.length
    → Rose (old.nodes (slice_index_or entry.nodes k [])) (new.nodes (slice_index_or entry.nodes k []))

-- The byte at this offset of some block of a file lies in a range of the file, and each listed datanode that holds the
-- block whole has failed. The file has these blocks, in order.
pub record ByteLost (p : Picture) (ids : List ℕ) (from end : ℕ) (failed : ℕ → BlockEntry → Type 0) (byte : ℕ) : Type 0 where
  pub id : ℕ
  pub at : ℕ
  pub lies : LiesAt p.table 0 ids id at
  pub entry : BlockEntry
  pub is : p.table id ≡ Some entry
  pub behind : from ≤ at + byte
  pub before : at + byte < end
  pub inside : byte < entry.length
  pub all_failed : failed id entry

-- the same of the file at a path and of a range of it, in a picture that is told
pub record FileLost (old : FaultCounts) (new : Shown) (path : List ℕ) (from end byte : ℕ) : Type 0 where
  pub picture : Picture
  pub told : new.picture ≡ Some picture
  pub file : FileEntry
  pub named : picture.names path ≡ Some (entries.File file)
  pub lost : ByteLost picture file.blocks from end (AllFailed old new.counts picture) byte

-- the last block of the file at a path, in a picture that is told
pub record LastBlockAt (new : Shown) (path : List ℕ) : Type 0 where
  pub picture : Picture
  pub told : new.picture ≡ Some picture
  pub file : FileEntry
  pub named : picture.names path ≡ Some (entries.File file)
  pub front : List ℕ
  pub id : ℕ
  pub last : file.blocks ≡ front ++ id ∷ []
  pub entry : BlockEntry
  pub is : picture.table id ≡ Some entry

-- a datanode that is listed for that block has failed
abbrev pub SomeListedFailed : FaultCounts → Shown → List ℕ → Type 0
SomeListedFailed old new path = (block : LastBlockAt new path) × OneRose old new.counts block.entry.nodes

-- each datanode that is listed for it has failed, and there is one
abbrev pub PipelineFailed : FaultCounts → Shown → List ℕ → Type 0
PipelineFailed old new path =
    (block : LastBlockAt new path) × (0 < length block.entry.nodes) × EachRose old new.counts block.entry.nodes
