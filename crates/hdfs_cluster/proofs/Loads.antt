-- What is loaded keeps the state a state, and the store fitting it.
use Rattle.std.proofs.Common.{◌≡◌, ℕ, suc, Bool, true, false, cond, ◌&&◌, List, ◌∷◌, length, Option, Some, None, is_none, IsSome, refl, ap, arith}
use Rattle.std.proofs.lemmas.Slice.Eq.{bytes_eq-Decides}
use Rattle.std.specs.List.{Contains}
use Rattle.std.specs.Option.{option_map}
use Rattle.std.specs.Str.{bytes_eq}
use Rattle.hdfs_cluster.specs.declared.attributes.Attributes.{Attributes}
use Rattle.hdfs_cluster.specs.declared.store.Line.{Line}
use Rattle.hdfs_cluster.specs.declared.store.Line.TheVariants as lines
use Rattle.hdfs_names.specs.Paths.{is_path, parent_of}
use Rattle.hdfs_cluster.specs.Files.{Files, Node, Dir, File, Writing, Content, Directory, kind_of, kinds_of, State, IsState}
use Rattle.hdfs_cluster.specs.Limits.{in_limits}
use Rattle.hdfs_cluster.specs.Loading.{takes, is_directory, is_free, with_new, with_line, Loads}
use Rattle.hdfs_cluster.specs.Shown.{Loaded, Shown}
use Rattle.hdfs_cluster.specs.Fitting.{Fits}
use Rattle.hdfs_cluster.proofs.Trees.{tree_with}

pub and_parts : (a b : Bool) → (a && b) ≡ true → (a ≡ true) × (b ≡ true)
and_parts true b both = (refl, both)
and_parts false b both = absurd (cc)

pub none_from_test : {X : Type 0} (o : Option X) → is_none o ≡ true → o ≡ None
none_from_test None is = refl
none_from_test (Some x) is = absurd (cc)

pub directory_from_test : (o : Option Node) → is_directory o ≡ true → option_map kind_of o ≡ Some Directory
directory_from_test None is = absurd (cc)
directory_from_test (Some Dir) is = refl
directory_from_test (Some (File content)) is = absurd (cc)
directory_from_test (Some (Writing content)) is = absurd (cc)

module _ (state : State) (path : List ℕ) (node : Node) where
  kind_at : (b : Bool) (q : List ℕ) → option_map kind_of (cond b (Some node) (state.files q)) ≡ cond b (Some (kind_of node)) (kinds_of state.files q)
  kind_at true q = refl
  kind_at false q = refl

  listed_at : (b : Bool) (q : List ℕ) → (b ≡ true → path ≡ q) → (IsSome (state.files q) → Contains state.paths q) → IsSome (cond b (Some node) (state.files q)) → Contains (path ∷ state.paths) q
  listed_at true q same old is = (0, omega arith, same refl)
  listed_at false q same old is = let h = old is in (suc h.0, omega (arith, h.1), h.2)

  pub state_with_new : IsState state → is_path path ≡ true → state.files path ≡ None → kinds_of state.files (parent_of path) ≡ Some Directory → IsState (with_new state path node)
  state_with_new is named is_new parent = record {
    tree = tree_with (kinds_of state.files) (kinds_of (with_new state path node).files) path (kind_of node) is.tree (ap (option_map kind_of) is_new) parent named (λ q. kind_at (bytes_eq path q) q);
    listed = λ q there. listed_at (bytes_eq path q) q (bytes_eq-Decides path q).0 (is.listed q) there;
  }

  writing_at : (b : Bool) (q : List ℕ) (written : Content) → (node ≡ Writing written → ⊥) → cond b (Some node) (state.files q) ≡ Some (Writing written) → state.files q ≡ Some (Writing written)
  writing_at true q written never is = absurd (never (cc is))
  writing_at false q written never is = is

-- what `is_free` says of a path
pub record Takes (files : Files) (path : List ℕ) : Type 0 where
  pub named : is_path path ≡ true
  pub is_new : files path ≡ None
  pub parent : kinds_of files (parent_of path) ≡ Some Directory

pub takes_free : (files : Files) (path : List ℕ) → is_free files path ≡ true → Takes files path
takes_free files path is =
    let front = and_parts (is_path path && is_none (files path)) (is_directory (files (parent_of path))) is in
    let first = and_parts (is_path path) (is_none (files path)) front.0 in
    record { named = first.0; is_new = none_from_test (files path) first.1; parent = directory_from_test (files (parent_of path)) front.1 }

pub takes_file : (files : Files) (path : List ℕ) (attributes : Attributes) (bytes : List ℕ) → is_free files path && in_limits attributes (length bytes) ≡ true → Takes files path
takes_file files path attributes bytes is = takes_free files path (and_parts (is_free files path) (in_limits attributes (length bytes)) is).0

pub state_with_line : (loaded : Loaded) (state : State) (line : Line) → IsState state → takes loaded state.files line ≡ true → IsState (with_line state line)
state_with_line loaded state (lines.Dir path) is taken =
    let t = takes_free state.files path taken in
    state_with_new state path Dir is t.named t.is_new t.parent
state_with_line loaded state (lines.File path attributes bytes) is taken =
    let t = takes_file state.files path attributes bytes taken in
    state_with_new state path (File (record { bytes = bytes; attributes = attributes })) is t.named t.is_new t.parent
state_with_line loaded state (lines.Short path block node len) is taken = is
state_with_line loaded state (lines.Fault fault) is taken = is

-- a line opens nothing
pub opened_line : (state : State) (line : Line) → (with_line state line).opened ≡ state.opened
opened_line state (lines.Dir path) = refl
opened_line state (lines.File path attributes bytes) = refl
opened_line state (lines.Short path block node len) = refl
opened_line state (lines.Fault fault) = refl

-- a file that is being written behind a line was being written before it
pub written_line : (state : State) (line : Line) (q : List ℕ) (content : Content) → (with_line state line).files q ≡ Some (Writing content) → state.files q ≡ Some (Writing content)
written_line state (lines.Dir path) q content is = writing_at state path Dir (bytes_eq path q) q content (λ same. absurd (cc same)) is
written_line state (lines.File path attributes bytes) q content is =
    writing_at state path (File (record { bytes = bytes; attributes = attributes })) (bytes_eq path q) q content (λ same. absurd (cc same)) is
written_line state (lines.Short path block node len) q content is = is
written_line state (lines.Fault fault) q content is = is

-- a store that fits a state fits it with the line, once that is loaded
pub fits_line : (old new : Shown) (state : State) (line : Line) → Fits old state → takes old.loaded state.files line ≡ true → Loads old line new → Fits new (with_line state line)
fits_line old new state line fits taken loads = record { is_state = state_with_line old.loaded state line fits.is_state taken; agrees = loads.files state fits.agrees }
