-- What the plain program's files stand for.
use Rattle.std.specs.Prelude.{◌≡◌, ℕ, Bool, true, List, Option, Some, None, is_some, option_map, string_bytes, unwrap_or, if◌then◌else◌}
use Rattle.std.specs.List.{list_any}
use Rattle.std.specs.Str.{bytes_eq}
use Rattle.std.specs.BTreeMap.{get_by_text}
use Rattle.std.specs.BTreeSet.{contains_text}
use Rattle.hdfs_plain.specs.declared.files.PlainFile.{PlainFile}
use Rattle.hdfs_plain.specs.declared.files.PlainFiles.{PlainFiles}
use Rattle.hdfs_plain.specs.declared.files.PlainNode.{PlainNode}
use Rattle.hdfs_plain.specs.declared.files.PlainNode.TheVariants as nodes
use Rattle.hdfs_cluster.specs.Files.{Files, Node, Dir, File, Writing, Content, State}
use Rattle.hdfs_cluster.specs.Names.{is_within}
use Rattle.hdfs_names.specs.Paths.{ancestors}
use Rattle.hdfs_model.specs.Steps.{is_opened}

-- the bytes and the attributes of a plain file
abbrev pub content_in : PlainFile → Content
content_in file = record { bytes = file.bytes; attributes = file.attributes }

-- the node that a plain one stands for
abbrev pub node_of : PlainNode → Node
node_of nodes.Dir = Dir
node_of (nodes.File file) = File (content_in file)
node_of (nodes.Writing file) = Writing (content_in file)

-- what stands at a path
abbrev pub look_up : PlainFiles → List ℕ → Option PlainNode
look_up plain = get_by_text plain.nodes

-- whether the session has a path open
abbrev pub has_open : PlainFiles → List ℕ → Bool
has_open plain = contains_text plain.opened

-- the files that plain ones stand for
abbrev pub files_of : PlainFiles → Files
files_of plain path = option_map node_of (look_up plain path)

-- whether the session has a path open, or one below it
abbrev pub has_open_within : PlainFiles → List ℕ → Bool
has_open_within plain path = list_any (λ key. is_within path (string_bytes key)) plain.opened.keys

-- The files are those of the state, which lists each path at which something stands, and the session has the same paths open.
pub record Holds (plain : PlainFiles) (state : State) : Type 0 where
  pub files : (path : List ℕ) → state.files path ≡ files_of plain path
  pub listed : (path : List ℕ) → is_some (look_up plain path) ≡ true → list_any (bytes_eq path) state.paths ≡ true
  pub opened : (path : List ℕ) → is_opened state path ≡ has_open plain path

-- a node was put at a path, and nothing else changed
pub record Puts (old : PlainFiles) (path : List ℕ) (node : PlainNode) (new : PlainFiles) : Type 0 where
  pub nodes : (q : List ℕ) → look_up new q ≡ (if bytes_eq path q then Some node else look_up old q)
  pub opened : new.opened ≡ old.opened

-- a map with a directory at each path above this one at which nothing stood
abbrev pub with_directories : {X : Type 0} → (List ℕ → Option X) → X → List ℕ → List ℕ → Option X
with_directories map dir path q = if list_any (bytes_eq q) (ancestors path) then Some (unwrap_or (map q) dir) else map q

-- directories were made above a path, and nothing else changed
pub record MakesParents (old : PlainFiles) (path : List ℕ) (new : PlainFiles) : Type 0 where
  pub nodes : (q : List ℕ) → look_up new q ≡ with_directories (look_up old) nodes.Dir path q
  pub opened : new.opened ≡ old.opened
