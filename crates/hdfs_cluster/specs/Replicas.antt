-- The replicas of the blocks of a store's files: on how many datanodes a block lies, and how many bytes loaded lines leave to each.
use Rattle.std.specs.Prelude.{◌≡◌, ◌↔◌, ℕ, zero, suc, ◌*◌, ◌<◌, ◌==◌, ◌&&◌, ◌||◌, not, min, nat_le, nat_lt, Bool, false, List, [], ◌∷◌, length, take, drop, slice_index_or, Option, Some, if◌then◌else◌}
use Rattle.std.specs.Str.{bytes_eq}
use Rattle.hdfs_cluster.specs.declared.picture.BlockEntry.{BlockEntry}
use Rattle.hdfs_cluster.specs.declared.picture.Entry.TheVariants as entries
use Rattle.hdfs_cluster.specs.declared.picture.FileEntry.{FileEntry}
use Rattle.hdfs_cluster.specs.declared.store.Line.{Line}
use Rattle.hdfs_cluster.specs.declared.store.Line.TheVariants as lines
use Rattle.hdfs_cluster.specs.Files.{Files, Content, Node, File}
use Rattle.hdfs_cluster.specs.Picture.{Picture}

-- the bytes of a file's block, by its number
abbrev pub block_bytes : Content → ℕ → List ℕ
block_bytes content k = take content.attributes.block_size (drop (k * content.attributes.block_size) content.bytes)

-- on how many of so many datanodes each block of a file lies
abbrev pub replicas : ℕ → Content → ℕ
replicas nodes content = min content.attributes.replication nodes

-- How many bytes a line leaves of the replica of a block, by its number, on a datanode, by its number, where so many were left. The
-- replicas of a new file are whole.
abbrev pub left_by : List ℕ → ℕ → ℕ → ℕ → ℕ → Line → ℕ
left_by path block node whole left (lines.Dir p) = left
left_by path block node whole left (lines.File p attributes bytes) = if bytes_eq p path then whole else left
left_by path block node whole left (lines.Short p k d len) = if bytes_eq p path && (k == block) && (d == node) then len else left
left_by path block node whole left (lines.Fault fault) = left

-- the same of lines, one after another
abbrev pub left_behind : List ℕ → ℕ → ℕ → ℕ → ℕ → List Line → ℕ
left_behind path block node whole left [] = left
left_behind path block node whole left (line ∷ lines) = left_behind path block node whole (left_by path block node whole left line) lines

-- how many bytes lines leave of a replica that had so many
abbrev pub left_of : List Line → List ℕ → ℕ → ℕ → ℕ → ℕ
left_of lines path block node whole = left_behind path block node whole whole lines

-- whether one of the numbers below a bound passes a test
abbrev pub any_below : (ℕ → Bool) → ℕ → Bool
any_below test zero = false
any_below test (suc n) = any_below test n || test n

-- whether lines leave a replica whole on one of so many datanodes, but for this one
abbrev pub other_whole : List Line → List ℕ → ℕ → ℕ → ℕ → ℕ → Bool
other_whole lines path block node whole count = any_below (λ d. not (d == node) && (left_of lines path block d whole == whole)) count

-- Whether a replica on one of so many datanodes can be cut to a length behind lines: the block has bytes, the datanode has a replica of
-- it, which isn't shorter already, and one replica stays whole.
abbrev pub can_cut : ℕ → List Line → List ℕ → ℕ → ℕ → ℕ → ℕ → Bool
can_cut count lines path block node len whole =
    nat_lt 0 whole && nat_lt node count && nat_le len (left_of lines path block node whole)
    && ((len == whole) || other_whole lines path block node whole count)

-- whether what stands at a path has a replica that can be cut
abbrev pub takes_short : ℕ → List Line → Option Node → List ℕ → ℕ → ℕ → ℕ → Bool
takes_short nodes lines (Some (File content)) path block node len =
    can_cut (replicas nodes content) lines path block node len (length (block_bytes content block))
takes_short nodes lines _ path block node len = false

-- A block of a file lies on its datanodes, each of which is another one, and each holds as many bytes of it as lines leave.
pub record HasReplicas (nodes : ℕ) (lines : List Line) (p : Picture) (path : List ℕ) (content : Content) (k id : ℕ) : Type 0 where
  pub entry : BlockEntry
  pub listed : p.table id ≡ Some entry
  pub has_length : entry.length ≡ length (block_bytes content k)
  pub count : length entry.nodes ≡ replicas nodes content
  pub apart : (d e : ℕ) → d < length entry.nodes → e < length entry.nodes
      → slice_index_or entry.nodes d [] ≡ slice_index_or entry.nodes e [] → d ≡ e
  pub left : (d : ℕ) → d < length entry.nodes
      → length (p.held (slice_index_or entry.nodes d []) id) ≡ left_of lines path k d (length (block_bytes content k))

-- The blocks of a file are those into which its bytes are cut, and their replicas are what lines leave.
pub record LiesAs (nodes : ℕ) (lines : List Line) (p : Picture) (path : List ℕ) (content : Content) : Type 0 where
  pub file : FileEntry
  pub named : p.names path ≡ Some (entries.File file)
  pub cut : (k : ℕ) → (k < length file.blocks) ↔ (0 < length (block_bytes content k))
  pub replicas : (k : ℕ) → k < length file.blocks → HasReplicas nodes lines p path content k (slice_index_or file.blocks k 0)

-- each closed file lies as lines have left it
abbrev pub LieAs : ℕ → List Line → Picture → Files → Type 0
LieAs nodes lines p files = (path : List ℕ) (content : Content) → files path ≡ Some (File content) → LiesAs nodes lines p path content
