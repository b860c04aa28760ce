-- What every told picture keeps of its names, and of the blocks of its files.
use Rattle.std.specs.Prelude.{◌≡◌, ℕ, ◌<◌, List, length, slice_index_or, All, Some, IsSome, IsUtf8}
use Rattle.hdfs_cluster.specs.declared.picture.Entry.TheVariants as entries
use Rattle.hdfs_cluster.specs.declared.picture.FileEntry.{FileEntry}
use Rattle.hdfs_cluster.specs.Picture.{Picture}

-- a file stands there in the picture
abbrev pub IsFileAt : Picture → List ℕ → FileEntry → Type 0
IsFileAt p path file = p.names path ≡ Some (entries.File file)

-- this is the kth block of the file at a path
pub record IsBlockAt (p : Picture) (path : List ℕ) (k id : ℕ) : Type 0 where
  pub file : FileEntry
  pub named : IsFileAt p path file
  pub below : k < length file.blocks
  pub is : slice_index_or file.blocks k 0 ≡ id

-- Each block of a file stands in the block table. No block stands at two places: twice in a file, or in two files. A path at which something
-- stands is text.
pub record IsSound (p : Picture) : Type 0 where
  pub listed : (path : List ℕ) (file : FileEntry) → IsFileAt p path file → All (λ id. IsSome (p.table id)) file.blocks
  pub once : (path other : List ℕ) (k n id : ℕ) → IsBlockAt p path k id → IsBlockAt p other n id → (path ≡ other) × (k ≡ n)
  pub texts : (path : List ℕ) → IsSome (p.names path) → IsUtf8 path
