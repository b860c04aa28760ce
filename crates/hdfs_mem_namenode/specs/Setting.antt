-- How the attributes of a file of a cluster in memory are set.
use Rattle.std.specs.Prelude.{◌≡◌, ℕ, Bool, true, false, List, Option, Some}
use Rattle.hdfs_cluster.specs.declared.attributes.Attributes.{Attributes}
use Rattle.hdfs_cluster.specs.declared.picture.Entry.{Entry}
use Rattle.hdfs_cluster.specs.declared.picture.Entry.TheVariants as entries
use Rattle.hdfs_cluster.specs.declared.picture.FileEntry.{FileEntry}
use Rattle.hdfs_cluster.specs.Effects.{with_entry}

-- a file with other attributes
abbrev pub with_attributes : FileEntry → Attributes → FileEntry
with_attributes file attributes = record { attributes = attributes; blocks = file.blocks; is_open = file.is_open }

-- a file with another permission
abbrev pub with_permission : ℕ → FileEntry → FileEntry
with_permission permission file = with_attributes file (record {
  permission = permission;
  replication = file.attributes.replication;
  block_size = file.attributes.block_size;
  encrypted = file.attributes.encrypted;
})

-- a file with another replication
abbrev pub with_replication : ℕ → FileEntry → FileEntry
with_replication replication file = with_attributes file (record {
  permission = file.attributes.permission;
  replication = replication;
  block_size = file.attributes.block_size;
  encrypted = file.attributes.encrypted;
})

-- a file stands at the path and is changed so, and what stands at all other paths stays
pub record ChangesFile (names : List ℕ → Option Entry) (src : List ℕ) (change : FileEntry → FileEntry)
    (names' : List ℕ → Option Entry) : Type 0 where
  pub file : FileEntry
  pub is : names src ≡ Some (entries.File file)
  pub named : (q : List ℕ) → names' q ≡ with_entry names src (change file) q

-- the file at the path is changed so; or a directory stands there, and nothing changes
abbrev pub ChangesOrNot : (List ℕ → Option Entry) → List ℕ → (FileEntry → FileEntry) → Bool
    → (List ℕ → Option Entry) → Type 0
ChangesOrNot names src change true names' = ChangesFile names src change names'
ChangesOrNot names src change false names' = (names src ≡ Some entries.Dir) × ((q : List ℕ) → names' q ≡ names q)
