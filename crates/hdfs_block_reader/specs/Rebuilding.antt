-- A block whose pipeline fails, and is rebuilt: what stays of it whatever fails, and what it is between two pipelines.
use Rattle.std.specs.Prelude.{◌≡◌, ℕ, ◌<◌, ◌≤◌, List, length as len, All, Some}
use Rattle.hdfs_cluster.specs.declared.picture.BlockEntry.{BlockEntry}
use Rattle.hdfs_cluster.specs.Picture.{Picture}
use Rattle.hdfs_cluster.specs.Stores.{HoldsPrefix}
use Rattle.hdfs_block_reader.specs.Carrying.{LinkHolds}

-- The block table lists these datanodes for a block, and each of them holds a prefix of its bytes.
pub record IsListed (p : Picture) (id : ℕ) (listed : List (List ℕ)) (bytes : List ℕ) : Type 0 where
  pub entry : BlockEntry
  pub is : p.table id ≡ Some entry
  pub same_nodes : entry.nodes ≡ listed
  pub prefixes : All (HoldsPrefix (λ node. p.held node id) bytes) listed

-- A block with a pipeline of these datanodes, of which anything may have failed. The table may still list those of the pipeline before.
pub record BlockHolds (p : Picture) (id link : ℕ) (listed nodes : List (List ℕ)) (safe : ℕ) (bytes : List ℕ) : Type 0 where
  pub on : LinkHolds p link id nodes safe bytes
  pub some : 0 < len nodes
  pub lists : IsListed p id listed bytes

-- A block between two pipelines: each of these datanodes holds a prefix of its bytes, and in it all that are safe.
pub record BlockWaits (p : Picture) (id : ℕ) (listed nodes : List (List ℕ)) (safe : ℕ) (bytes : List ℕ) : Type 0 where
  pub within : safe ≤ len bytes
  pub lists : IsListed p id listed bytes
  pub each : All (λ node. HoldsPrefix (λ n. p.held n id) bytes node × (safe ≤ len (p.held node id))) nodes
