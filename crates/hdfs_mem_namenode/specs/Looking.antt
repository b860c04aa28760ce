-- What an ask is told of what stands at a path.
use Rattle.std.specs.Prelude.{◌≡◌, ℕ, false, List, [], Option, Some, None, is_some}
use Rattle.hdfs_cluster.specs.declared.attributes.Attributes.{Attributes}
use Rattle.hdfs_cluster.specs.declared.messages.AclStatusMsg.{AclStatusMsg}
use Rattle.hdfs_cluster.specs.declared.messages.FileStatusMsg.{FileStatusMsg}
use Rattle.hdfs_cluster.specs.declared.picture.BlockEntry.{BlockEntry}
use Rattle.hdfs_cluster.specs.declared.picture.Entry.{Entry}
use Rattle.hdfs_cluster.specs.declared.picture.Entry.TheVariants as entries
use Rattle.hdfs_cluster.specs.Listing.{total, type_of, IsMissing}

-- the attributes of a file; a directory has the permission 755, in octal, and zeros
abbrev pub attributes_of : Entry → Attributes
attributes_of entries.Dir = record { permission = 493; replication = 0; block_size = 0; encrypted = false }
attributes_of (entries.File file) = file.attributes

-- how many bytes a file has; a directory has none
abbrev pub length_of : (ℕ → Option BlockEntry) → Entry → Option ℕ
length_of table entries.Dir = Some 0
length_of table (entries.File file) = total table file.blocks

-- the status tells this name, this length, and the type and the attributes
pub record IsStatusOf (entry : Entry) (name : List ℕ) (count : ℕ) (status : FileStatusMsg) : Type 0 where
  pub named : status.path ≡ name
  pub type : status.file_type ≡ type_of entry
  pub length : status.length ≡ count
  pub permission : status.permission ≡ (attributes_of entry).permission
  pub replication : status.block_replication ≡ Some (attributes_of entry).replication
  pub block_size : status.blocksize ≡ Some (attributes_of entry).block_size
  pub encryption : is_some status.encryption ≡ (attributes_of entry).encrypted

-- the status is that of what stands at the path, under this name
pub record TellsOf (names : List ℕ → Option Entry) (table : ℕ → Option BlockEntry) (path name : List ℕ) (status : FileStatusMsg) : Type 0 where
  pub entry : Entry
  pub is : names path ≡ Some entry
  pub length : ℕ
  pub has : length_of table entry ≡ Some length
  pub told : IsStatusOf entry name length status

-- the status of what stands at the path, with no name, or none where nothing does, and no file stands above it
abbrev pub Informs : (List ℕ → Option Entry) → (ℕ → Option BlockEntry) → List ℕ → Option FileStatusMsg → Type 0
Informs names table src (Some status) = TellsOf names table src [] status
Informs names table src None = IsMissing names src

-- the access control list of what stands at the path: it has the permission, and no entries
pub record TellsAcl (names : List ℕ → Option Entry) (path : List ℕ) (status : AclStatusMsg) : Type 0 where
  pub entry : Entry
  pub is : names path ≡ Some entry
  pub permission : status.permission ≡ Some (attributes_of entry).permission
  pub not_sticky : status.sticky ≡ false
  pub none : status.entries ≡ []
