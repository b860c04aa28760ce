-- Which blocks are whole, and which are full.
use Rattle.std.specs.Prelude.{◌≡◌, ℕ, ◌+◌, ◌-◌, ◌<◌, ◌≤◌, List, length, All, Some, slice_index_or}
use Rattle.hdfs_cluster.specs.declared.picture.BlockEntry.{BlockEntry}
use Rattle.hdfs_cluster.specs.Picture.{Picture}

-- A block is whole: the block table has it, and each datanode that is listed for it holds as many bytes as the block has. Where a file
-- stores its bytes, these are all bytes of the block, since a listed datanode holds a prefix of them.
pub record IsWhole (p : Picture) (id : ℕ) : Type 0 where
  pub entry : BlockEntry
  pub is : p.table id ≡ Some entry
  pub whole : All (λ node. length (p.held node id) ≡ entry.length) entry.nodes

-- the block table has the block with just so many bytes
pub record IsOfSize (p : Picture) (size id : ℕ) : Type 0 where
  pub entry : BlockEntry
  pub is : p.table id ≡ Some entry
  pub just : entry.length ≡ size

-- the block table has the block with at most so many bytes
pub record IsUpTo (p : Picture) (size id : ℕ) : Type 0 where
  pub entry : BlockEntry
  pub is : p.table id ≡ Some entry
  pub most : entry.length ≤ size

-- so is each of these blocks but the first so many
abbrev pub AllBehind : (ℕ → Type 0) → ℕ → List ℕ → Type 0
AllBehind P from blocks = (k : ℕ) → from ≤ k → k < length blocks → P (slice_index_or blocks k 0)

-- so is each of these blocks but the first so many, and but the last one
abbrev pub AllBetween : (ℕ → Type 0) → ℕ → List ℕ → Type 0
AllBetween P from blocks = (k : ℕ) → from ≤ k → k + 1 < length blocks → P (slice_index_or blocks k 0)

-- so is the last of these blocks
abbrev pub LastOne : (ℕ → Type 0) → List ℕ → Type 0
LastOne P blocks = (k : ℕ) → k + 1 ≡ length blocks → P (slice_index_or blocks k 0)

-- all blocks but the last have just so many bytes, and the last at most so many
pub record AreFull (p : Picture) (size : ℕ) (blocks : List ℕ) : Type 0 where
  pub full : AllBetween (IsOfSize p size) 0 blocks
  pub last : LastOne (IsUpTo p size) blocks
