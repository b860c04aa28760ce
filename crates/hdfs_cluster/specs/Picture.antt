-- The picture: what a cluster that tells it shows of its files, blocks and bytes.
use Rattle.std.specs.Prelude.{◌≡◌, ℕ, List, Option, Some, None, option_map, if◌then◌else◌}
use Rattle.hdfs_cluster.specs.declared.picture.Entry.{Entry}
use Rattle.hdfs_cluster.specs.declared.picture.Entry.TheVariants as entries
use Rattle.hdfs_cluster.specs.declared.picture.BlockEntry.{BlockEntry}
use Rattle.hdfs_cluster.specs.declared.picture.ReadPlace.{ReadPlace}
use Rattle.hdfs_cluster.specs.declared.messages.ServerDefaults.{ServerDefaults}
use Rattle.hdfs_cluster.specs.Sending.{WritePlace}
use Rattle.hdfs_cluster.specs.Files.{Kind, Directory, ClosedFile, OpenFile}

-- the names, the block table, what the datanodes hold, the active namenode, the defaults and the open links
pub record Picture : Type 0 where
  -- what stands at each path
  pub names : List ℕ → Option Entry
  -- the block table, by block id
  pub table : ℕ → Option BlockEntry
  -- the bytes that a datanode, by its uuid, holds of a block, by its id; none where it doesn't hold it
  pub held : List ℕ → ℕ → List ℕ
  -- the active namenode
  pub active : ℕ
  pub defaults : ServerDefaults
  -- each open read link
  pub reads : ℕ → Option ReadPlace
  -- each open write link
  pub writes : ℕ → Option WritePlace

-- the kind of what stands at a name
abbrev pub entry_kind : Entry → Kind
entry_kind entries.Dir = Directory
entry_kind (entries.File file) = if file.is_open then OpenFile else ClosedFile

-- the kind of what stands at each path of these names
abbrev pub kinds_in : (List ℕ → Option Entry) → List ℕ → Option Kind
kinds_in names path = option_map entry_kind (names path)

-- the kind of what stands at each path
abbrev pub kinds : Picture → List ℕ → Option Kind
kinds p path = kinds_in p.names path

-- the files, the blocks, what the datanodes hold and the defaults stay
pub record SameFiles (old new : Picture) : Type 0 where
  pub names : (path : List ℕ) → new.names path ≡ old.names path
  pub table : (id : ℕ) → new.table id ≡ old.table id
  pub held : (node : List ℕ) (id : ℕ) → new.held node id ≡ old.held node id
  pub defaults : new.defaults ≡ old.defaults

-- the same, and the links too: all but which namenode is active
pub record SameButActive (old new : Picture) : Type 0 where
  pub files : SameFiles old new
  pub reads : (link : ℕ) → new.reads link ≡ old.reads link
  pub writes : (link : ℕ) → new.writes link ≡ old.writes link

-- nothing of the picture changed
pub record SamePicture (old new : Picture) : Type 0 where
  pub rest : SameButActive old new
  pub active : new.active ≡ old.active

-- what a told picture is before and after; it is told always or never
abbrev pub Told : (Picture → Picture → Type 0) → Option Picture → Option Picture → Type 0
Told P None None = Unit {0}
Told P (Some old) (Some new) = P old new
Told P None (Some new) = ⊥
Told P (Some old) None = ⊥
