-- How a replica is cut in a cluster in memory.
use Rattle.std.specs.Prelude.{◌≡◌, ℕ, ◌<◌, ◌≤◌, ◌==◌, Bool, true, false, List, [], length, take, slice_index_or, Some, if◌then◌else◌}
use Rattle.std.specs.List.{list_any}
use Rattle.std.specs.Str.{bytes_eq}
use Rattle.hdfs_cluster.specs.declared.picture.BlockEntry.{BlockEntry}
use Rattle.hdfs_mem_namenode.specs.Adding.{IsClosedBlock, Space}
use Rattle.hdfs_mem_datanodes.specs.declared.datanodes.Datanodes.{Datanodes}
use Rattle.hdfs_mem_datanodes.specs.Nodes.{held_in, undisturbed_in, is_here}

-- how many bytes a datanode holds of a block, where the one with this uuid is to hold so many
abbrev pub left_on : (List ℕ → ℕ → List ℕ) → ℕ → List ℕ → ℕ → List ℕ → ℕ
left_on held id uuid len node = if bytes_eq node uuid then len else length (held node id)

-- whether one of these datanodes is then to hold so many bytes of the block
abbrev pub leaves_whole : (List ℕ → ℕ → List ℕ) → ℕ → List ℕ → ℕ → ℕ → List (List ℕ) → Bool
leaves_whole held id uuid len whole nodes = list_any (λ node. left_on held id uuid len node == whole) nodes

-- The replica on the datanode with this number in the block's list can be cut: it isn't shorter, and one of the block's stays whole.
pub record CanCut (held : List ℕ → ℕ → List ℕ) (entry : BlockEntry) (id node len : ℕ) (uuid : List ℕ) : Type 0 where
  pub below : node < length entry.nodes
  pub at : slice_index_or entry.nodes node [] ≡ uuid
  pub enough : len ≤ length (held uuid id)
  pub whole : leaves_whole held id uuid len entry.length entry.nodes ≡ true

-- the same of a block of the closed file at a path
pub record IsShort (space : Space) (path : List ℕ) (k node len id : ℕ) (uuid : List ℕ) : Type 0 where
  pub block : IsClosedBlock space.names path k id
  pub entry : BlockEntry
  pub listed : space.table id ≡ Some entry
  pub can : CanCut space.held entry id node len uuid

-- The datanode holds so many bytes of the block, and all links there are disturbed. Nothing else changed.
pub record CutsReplica (old : Datanodes) (uuid : List ℕ) (id len : ℕ) (new : Datanodes) : Type 0 where
  pub held : (d : List ℕ) (b : ℕ) → held_in new d b ≡ (if is_here uuid id d b then take len (held_in old d b) else held_in old d b)
  pub links : (d : List ℕ) (b link : ℕ) → undisturbed_in new d b link
      ≡ (if is_here uuid id d b then false else undisturbed_in old d b link)
