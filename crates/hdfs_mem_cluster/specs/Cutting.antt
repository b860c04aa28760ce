-- How the bytes of a stored file are cut into blocks.
use Rattle.std.specs.Prelude.{◌≡◌, ℕ, ◌<◌, min, List, [], ◌∷◌, length, take, drop, All, Option, Some}
use Rattle.hdfs_cluster.specs.declared.picture.BlockEntry.{BlockEntry}
use Rattle.hdfs_cluster.specs.declared.picture.Entry.TheVariants as entries
use Rattle.hdfs_cluster.specs.declared.picture.FileEntry.{FileEntry}
use Rattle.hdfs_cluster.specs.declared.store.Line.{Line}
use Rattle.hdfs_cluster.specs.declared.store.Line.TheVariants as lines
use Rattle.hdfs_cluster.specs.Picture.{Picture}
use Rattle.hdfs_mem_datanodes.specs.Uuids.{lowest}

-- There are bytes, and the block on these datanodes has the first so many of them, or all where there are no more.
pub record HoldsPiece (table : ℕ → Option BlockEntry) (held : List ℕ → ℕ → List ℕ) (nodes : List (List ℕ)) (size id : ℕ) (bytes : List ℕ) : Type 0 where
  pub some : 0 < length bytes
  pub entry : BlockEntry
  pub listed : table id ≡ Some entry
  pub has_length : entry.length ≡ min size (length bytes)
  pub on : entry.nodes ≡ nodes
  pub holds : All (λ node. held node id ≡ take size bytes) nodes

-- The bytes are cut into these blocks on these datanodes, one behind another: each has so many of them but the last, which may have
-- fewer, and has some. No bytes take no block.
abbrev pub IsCut : (ℕ → Option BlockEntry) → (List ℕ → ℕ → List ℕ) → List (List ℕ) → ℕ → List ℕ → List ℕ → Type 0
IsCut table held nodes size [] bytes = bytes ≡ []
IsCut table held nodes size (id ∷ ids) bytes = HoldsPiece table held nodes size id bytes × IsCut table held nodes size ids (drop size bytes)

-- The file of a line stands there, and its bytes are cut into blocks of its block size on the lowest-numbered datanodes: as many as its
-- replication, or as there are.
abbrev pub CutsLine : ℕ → Picture → Line → Type 0
CutsLine nodes p (lines.Dir path) = Unit {0}
CutsLine nodes p (lines.File path attributes bytes) =
    (file : FileEntry)
    × (p.names path ≡ Some (entries.File file))
    × IsCut p.table p.held (lowest (min attributes.replication nodes)) attributes.block_size file.blocks bytes
CutsLine nodes p (lines.Short path block node len) = Unit {0}
CutsLine nodes p (lines.Fault fault) = Unit {0}
