-- What a writer of a file leaves as it was.
use Rattle.std.specs.Prelude.{◌≡◌, ◌≢◌, ℕ, List, Contains, Some, IsSome}
use Rattle.hdfs_cluster.specs.declared.picture.FileEntry.{FileEntry}
use Rattle.hdfs_cluster.specs.Effects.{blocks_at}
use Rattle.hdfs_cluster.specs.Picture.{Picture}
use Rattle.hdfs_cluster.specs.Sending.{WritePlace}
use Rattle.hdfs_cluster.specs.Sound.{IsFileAt}

-- these blocks, and what datanodes hold of them, stay
abbrev pub KeepsBlocks : Picture → Picture → List ℕ → Type 0
KeepsBlocks p q ids = (id : ℕ) → Contains ids id → (q.table id ≡ p.table id) × ((node : List ℕ) → q.held node id ≡ p.held node id)

-- Nothing changed but the file at this path, its blocks, and new ones. No block of another file became one of this file.
pub record OnlyFile (path : List ℕ) (p q : Picture) : Type 0 where
  pub names : (other : List ℕ) → other ≢ path → q.names other ≡ p.names other
  pub blocks : (id : ℕ) → IsSome (p.table id) → (Contains (blocks_at (p.names path)) id → ⊥)
      → (q.table id ≡ p.table id) × ((node : List ℕ) → q.held node id ≡ p.held node id)
  pub writes : (link : ℕ) (place : WritePlace) → p.writes link ≡ Some place → IsSome (p.table place.block)
      → (Contains (blocks_at (p.names path)) place.block → ⊥) → q.writes link ≡ Some place
  pub grown : (id : ℕ) → Contains (blocks_at (q.names path)) id → IsSome (p.table id) → Contains (blocks_at (p.names path)) id
  pub listed : (id : ℕ) → IsSome (p.table id) → IsSome (q.table id)
  pub reads : (link : ℕ) → q.reads link ≡ p.reads link
  pub defaults : q.defaults ≡ p.defaults

-- the file at the path is the same but for its blocks
abbrev pub SameFile : List ℕ → Picture → Picture → Type 0
SameFile path p q = (file : FileEntry) → IsFileAt p path file → (blocks : List ℕ) × IsFileAt q path (record file { blocks = blocks })
