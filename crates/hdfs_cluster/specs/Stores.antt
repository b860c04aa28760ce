-- When a cluster holds the files of a state.
use Rattle.std.specs.Prelude.{◌≡◌, ℕ, ◌≤◌, Bool, true, false, List, [], ◌∷◌, length, take, drop, Option, Some, None, All, Any}
use Rattle.hdfs_cluster.specs.Files.{Files, Node, Dir, File, Writing}
use Rattle.hdfs_cluster.specs.declared.picture.Entry.{Entry}
use Rattle.hdfs_cluster.specs.declared.picture.Entry.TheVariants as entries
use Rattle.hdfs_cluster.specs.declared.picture.BlockEntry.{BlockEntry}
use Rattle.hdfs_cluster.specs.Picture.{Picture}

-- the datanode holds a prefix of the bytes
abbrev pub HoldsPrefix : (List ℕ → List ℕ) → List ℕ → List ℕ → Type 0
HoldsPrefix held bytes node = held node ≡ take (length (held node)) bytes

-- every listed datanode holds a prefix of the block's bytes, and one of them the whole
pub record StoresBlock (p : Picture) (id : ℕ) (entry : BlockEntry) (bytes : List ℕ) : Type 0 where
  pub length : length bytes ≡ entry.length
  pub prefixes : All (HoldsPrefix (λ node. p.held node id) bytes) entry.nodes
  pub whole : Any (λ node. p.held node id ≡ bytes) entry.nodes

-- the blocks cut the bytes into slices, which they store
abbrev pub StoresBlocks : Picture → List ℕ → List ℕ → Type 0
StoresBlocks p [] bytes = bytes ≡ []
StoresBlocks p (id ∷ ids) bytes =
    (entry : BlockEntry) × (p.table id ≡ Some entry) × (entry.length ≤ length bytes) × StoresBlock p id entry (take entry.length bytes)
    × StoresBlocks p ids (drop entry.length bytes)

-- a directory for a directory; for a file a closed file with its attributes that stores its bytes; for a file that is being
-- written an open file with its attributes
abbrev pub AgreesAt : Picture → Option Entry → Option Node → Type 0
AgreesAt p None None = Unit {0}
AgreesAt p (Some entries.Dir) (Some Dir) = Unit {0}
AgreesAt p (Some (entries.File file)) (Some (File content)) =
    (file.is_open ≡ false) × (file.attributes ≡ content.attributes) × StoresBlocks p file.blocks content.bytes
AgreesAt p (Some (entries.File file)) (Some (Writing content)) = (file.is_open ≡ true) × (file.attributes ≡ content.attributes)
AgreesAt p None (Some node) = ⊥
AgreesAt p (Some entry) None = ⊥
AgreesAt p (Some entries.Dir) (Some (File content)) = ⊥
AgreesAt p (Some entries.Dir) (Some (Writing content)) = ⊥
AgreesAt p (Some (entries.File file)) (Some Dir) = ⊥

-- the picture is told, and it has the same paths as the map, and at each the same
abbrev pub Agrees : Option Picture → Files → Type 0
Agrees None files = ⊥
Agrees (Some p) files = (path : List ℕ) → AgreesAt p (p.names path) (files path)

-- the same at every path but those that are spared
abbrev pub AgreesBut : (List ℕ → Bool) → Option Picture → Files → Type 0
AgreesBut spared None files = ⊥
AgreesBut spared (Some p) files = (path : List ℕ) → spared path ≡ false → AgreesAt p (p.names path) (files path)
