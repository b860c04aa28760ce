-- The state of the files: a finite map from paths to directories and files, and the paths that the session has open.
use Rattle.std.specs.Prelude.{◌≡◌, ℕ, Bool, true, false, List, [], ◌∷◌, Option, Some, None, option_map, IsSome, Contains, All, if◌then◌else◌}
use Rattle.std.specs.List.{list_any}
use Rattle.std.specs.Str.{bytes_eq}
use Rattle.hdfs_cluster.specs.declared.attributes.Attributes.{Attributes}
use Rattle.hdfs_names.specs.Paths.{root, is_path, ancestors}

-- what a file holds, and its attributes
pub record Content : Type 0 where
  pub bytes : List ℕ
  pub attributes : Attributes

-- a directory, a closed file, or a file that is being written
pub data Node : Type 0 where
  Dir : Node
  File : Content → Node
  Writing : Content → Node

-- what stands at each path
abbrev pub Files : Type 0
Files = List ℕ → Option Node

-- what stands at a path, without what it holds
pub data Kind : Type 0 where
  Directory : Kind
  ClosedFile : Kind
  OpenFile : Kind

-- the kind of a node
abbrev pub kind_of : Node → Kind
kind_of Dir = Directory
kind_of (File content) = ClosedFile
kind_of (Writing content) = OpenFile

-- the kind of what stands at each path
abbrev pub kinds_of : Files → List ℕ → Option Kind
kinds_of files path = option_map kind_of (files path)

-- the root is a directory, what stands above a path is one, and only paths are there
pub record IsTree (kinds : List ℕ → Option Kind) : Type 0 where
  pub root : kinds root ≡ Some Directory
  pub above : (path : List ℕ) → IsSome (kinds path) → All (λ ancestor. kinds ancestor ≡ Some Directory) (ancestors path)
  pub named : (path : List ℕ) → IsSome (kinds path) → is_path path ≡ true

-- the files; a list of the paths at which something stands; and the paths that the session has open
pub record State : Type 0 where
  pub files : Files
  pub paths : List (List ℕ)
  pub opened : List (List ℕ)

-- the map is a tree, and finite
pub record IsState (state : State) : Type 0 where
  pub tree : IsTree (kinds_of state.files)
  pub listed : (path : List ℕ) → IsSome (state.files path) → Contains state.paths path

-- the root alone
abbrev pub only_root : Files
only_root path = if bytes_eq root path then Some Dir else None

-- the root alone, and nothing open
abbrev pub empty_state : State
empty_state = record { files = only_root; paths = root ∷ []; opened = [] }

-- Why there is no file at a path to be read or appended to.
pub data NoFile : Type 0 where
  NotDirectory : NoFile
  Missing : NoFile
  NotFile : NoFile

-- whether a file stands at a path, so that nothing can stand below it
abbrev pub is_file : Option Kind → Bool
is_file None = false
is_file (Some Directory) = false
is_file (Some ClosedFile) = true
is_file (Some OpenFile) = true

-- why what stands at a path is no file; an open file is one
abbrev pub no_file_at : Option Kind → Option NoFile
no_file_at None = Some Missing
no_file_at (Some Directory) = Some NotFile
no_file_at (Some ClosedFile) = None
no_file_at (Some OpenFile) = None

-- an ancestor is a file; or nothing stands there; or a directory does
abbrev pub no_file : (List ℕ → Option Kind) → List ℕ → Option NoFile
no_file kinds path = if list_any (λ ancestor. is_file (kinds ancestor)) (ancestors path) then Some NotDirectory else no_file_at (kinds path)
