-- What a namenode tells of a path, as a caller is told it.
use Rattle.std.specs.Prelude.{◌≡◌, ◌⊎◌, ℕ, ◌%◌, ◌==◌, List, [], ◌∷◌, ◌++◌, Option, Some, None, Result, Ok, Err, IsUtf8}
use Rattle.hdfs_cluster.specs.declared.errors.HdfsError.{HdfsError}
use Rattle.hdfs_cluster.specs.declared.errors.HdfsError.TheVariants as errors
use Rattle.hdfs_cluster.specs.declared.messages.FileStatusMsg.{FileStatusMsg}
use Rattle.hdfs_names.specs.Mounts.{IsWithoutEnd}
use Rattle.hdfs_names.specs.Paths.{root}
use Rattle.hdfs_client.specs.declared.status.FileStatus.{FileStatus}

-- the text, or the root where it is empty
abbrev pub or_root : List ℕ → List ℕ
or_root [] = root
or_root (c ∷ text) = c ∷ text

-- a name in a directory; where it is empty, the directory
abbrev pub below : List ℕ → List ℕ → List ℕ
below dir [] = or_root dir
below dir (c ∷ name) = dir ++ 47 ∷ c ∷ name

-- What stands under a name at a path is called by the path as it was given, without the slashes at its end.
pub record IsNamed (given name path : List ℕ) : Type 0 where
  pub dir : List ℕ
  pub cut : IsWithoutEnd given dir
  pub is : path ≡ below dir name

-- what is told of it: type 1 is a directory, and of its permission the low sixteen bits count
abbrev pub status_of : List ℕ → FileStatusMsg → FileStatus
status_of path message = record {
  path = path;
  length = message.length;
  isdir = message.file_type == 1;
  permission = message.permission % 65536;
  owner = message.owner;
  group = message.group;
  modification_time = message.modification_time;
  access_time = message.access_time;
  replication = message.block_replication;
  blocksize = message.blocksize;
}

-- A message as a status, where its name is a text; else the path as it was given is refused.
abbrev pub IsStatus : List ℕ → FileStatusMsg → Result FileStatus HdfsError → Type 0
IsStatus given message (Ok status) = (path : List ℕ) × IsNamed given message.path path × (status ≡ status_of path message)
IsStatus given message (Err error) = (error ≡ errors.NoMemory) ⊎ ((error ≡ errors.InvalidPath given) × ¬ (IsUtf8 message.path))

-- What a caller is told of a path: its status, where the namenode tells one; else that nothing is there, by the path as it was given.
abbrev pub IsInfo : List ℕ → Result (Option FileStatusMsg) HdfsError → Result FileStatus HdfsError → Type 0
IsInfo given (Ok (Some message)) result = IsStatus given message result
IsInfo given (Ok None) result = (result ≡ Err (errors.FileNotFound given)) ⊎ (result ≡ Err errors.NoMemory)
IsInfo given (Err error) result = result ≡ Err error
