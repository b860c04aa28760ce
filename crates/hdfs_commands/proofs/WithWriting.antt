-- The state in which a file is being written that a command has opened.
use Rattle.std.proofs.Common.{◌≡◌, ◌≢◌, ◌⊎◌, inl, inr, ⊎_elim, ℕ, suc, Bool, true, false, cond, ◌&&◌, List, ◌∷◌, ◌++◌, Option, Some, None, is_none, unwrap_or, IsSome, refl, sym, ◌∙◌, ap, subst, arith}
use Rattle.std.proofs.lemmas.Bool.{false≢true}
use Rattle.std.proofs.lemmas.List.Elements.{All-contains, Contains-append_left, Contains-append_right}
use Rattle.std.proofs.lemmas.Slice.Eq.{bytes_eq-Decides}
use Rattle.std.specs.List.{Contains, list_any}
use Rattle.std.specs.Option.{option_map}
use Rattle.std.specs.Str.{bytes_eq}
use Rattle.hdfs_cluster.specs.Files.{State, IsState, IsTree, Node, Dir, Writing, Content, Kind, Directory, ClosedFile, OpenFile, NoFile, NotDirectory, kind_of, kinds_of, is_file, no_file, no_file_at}
use Rattle.hdfs_names.specs.Paths.{ancestors, is_path}
use Rattle.hdfs_cluster.specs.Refusals.{append_refusal, create_refusal, open_refusal}
use Rattle.hdfs_model.specs.Steps.{with_writing}
use Rattle.hdfs_model.proofs.Planted.{any_contains, tree_with_new}
use Rattle.hdfs_commands.proofs.Planting.{nothing_refuses}

-- What stands at a path and above it lets a file be opened there to be written.
pub record IsClear (kinds : List ℕ → Option Kind) (path : List ℕ) : Type 0 where
  pub above : (a : List ℕ) → Contains (ancestors path) a → (kinds a ≡ None) ⊎ (kinds a ≡ Some Directory)
  pub free : kinds path ≢ Some Directory

pub clear_to_create : (kinds : List ℕ → Option Kind) (path : List ℕ) (overwrite parents : Bool) → create_refusal kinds path overwrite parents ≡ None → IsClear kinds path
clear_to_create kinds path overwrite parents is = let h = nothing_refuses kinds path overwrite parents is in record { above = h.0; free = h.1 }

-- over a tree what stands above a path at which something stands is a directory
pub clear_over : (kinds : List ℕ → Option Kind) (path : List ℕ) (kind : Kind) → IsTree kinds → kinds path ≡ Some kind → kind ≢ Directory → IsClear kinds path
clear_over kinds path kind tree is other = record {
  above = λ a there. inr (All-contains (λ q. kinds q ≡ Some Directory) (ancestors path) a (tree.above path (subst IsSome (sym is) refl)) there);
  free = λ same. (let k : kind ≡ Directory = cc (is, same) in other k);
}

module _ (state : State) (path : List ℕ) (content : Content) where
  kind_at : (b a : Bool) (o : Option Node)
      → option_map kind_of (cond b (Some (Writing content)) (cond a (Some (unwrap_or o Dir)) o)) ≡ cond b (Some OpenFile) (cond a (Some (unwrap_or (option_map kind_of o) Directory)) (option_map kind_of o))
  kind_at true a o = refl
  kind_at false true None = refl
  kind_at false true (Some node) = refl
  kind_at false false o = refl

  listed_at : (r : List ℕ) (b a : Bool) → (b ≡ true → path ≡ r) → (a ≡ true → Contains (ancestors path) r) → (IsSome (state.files r) → Contains state.paths r)
      → IsSome (cond b (Some (Writing content)) (cond a (Some (unwrap_or (state.files r) Dir)) (state.files r))) → Contains (path ∷ (ancestors path ++ state.paths)) r
  listed_at r true a same above old there = (0, omega arith, same refl)
  listed_at r false true same above old there = later (Contains-append_left (ancestors path) state.paths r (above refl))
    where
      later : Contains (ancestors path ++ state.paths) r → Contains (path ∷ (ancestors path ++ state.paths)) r
      later h = (suc h.0, omega (arith, h.1), h.2)
  listed_at r false false same above old there = later (Contains-append_right (ancestors path) state.paths r (old there))
    where
      later : Contains (ancestors path ++ state.paths) r → Contains (path ∷ (ancestors path ++ state.paths)) r
      later h = (suc h.0, omega (arith, h.1), h.2)

  -- it is a state
  pub state_with_writing : IsState state → is_path path ≡ true → IsClear (kinds_of state.files) path → IsState (with_writing state path content)
  state_with_writing is named clear = record {
    tree = tree_with_new (kinds_of state.files) (kinds_of (with_writing state path content).files) path OpenFile is.tree named clear.above (λ dir. absurd (clear.free dir))
        (λ r. kind_at (bytes_eq path r) (list_any (bytes_eq r) (ancestors path)) (state.files r));
    listed = λ r there. listed_at r (bytes_eq path r) (list_any (bytes_eq r) (ancestors path)) (bytes_eq-Decides path r).0 (any_contains (ancestors path) r) (is.listed r) there;
  }

  -- the file is there
  pub writing_there : (with_writing state path content).files path ≡ Some (Writing content)
  writing_there = ap (λ (b : Bool). cond b (Some (Writing content)) (cond (list_any (bytes_eq path) (ancestors path)) (Some (unwrap_or (state.files path) Dir)) (state.files path))) ((bytes_eq-Decides path path).1 refl)

  kept_at : (b a : Bool) (o : Option Node) → b ≡ false → (is_none o && a) ≡ false → cond b (Some (Writing content)) (cond a (Some (unwrap_or o Dir)) o) ≡ o
  kept_at true a o apart there = absurd (false≢true (sym apart))
  kept_at false true None apart there = absurd (false≢true (sym there))
  kept_at false true (Some node) apart there = refl
  kept_at false false o apart there = refl

  -- other files stay, and what isn't made above the new one
  pub others_there : (r : List ℕ) → bytes_eq path r ≡ false → (is_none (state.files r) && list_any (bytes_eq r) (ancestors path)) ≡ false → (with_writing state path content).files r ≡ state.files r
  others_there r apart there = kept_at (bytes_eq path r) (list_any (bytes_eq r) (ancestors path)) (state.files r) apart there

  some_kept : (o : Option Node) (node : Node) (a : Bool) → o ≡ Some node → (is_none o && a) ≡ false
  some_kept None node a is = absurd (cc is)
  some_kept (Some other) node a is = refl

  test_apart : (r : List ℕ) → r ≢ path → bytes_eq path r ≡ false
  test_apart r apart = by_test (bytes_eq path r) (bytes_eq-Decides path r).0
    where
      by_test : (b : Bool) → (b ≡ true → path ≡ r) → b ≡ false
      by_test true same = absurd (apart (sym (same refl)))
      by_test false same = refl

  -- so what stands elsewhere stands there still
  pub other_there : (r : List ℕ) (node : Node) → r ≢ path → state.files r ≡ Some node → (with_writing state path content).files r ≡ Some node
  other_there r node apart is = others_there r (test_apart r apart) (some_kept (state.files r) node (list_any (bytes_eq r) (ancestors path)) is) ∙ is

open_refusal_none : (why : Option NoFile) (kind : Option Kind) → open_refusal why kind ≡ None → (why ≡ None) × (kind ≢ Some OpenFile)
open_refusal_none None None is = (refl, λ same. cc same)
open_refusal_none None (Some Directory) is = (refl, λ same. cc same)
open_refusal_none None (Some ClosedFile) is = (refl, λ same. cc same)
open_refusal_none None (Some OpenFile) is = absurd (cc is)
open_refusal_none (Some why) kind is = absurd (cc is)

no_file_none : (b : Bool) (kind : Option Kind) → cond b (Some NotDirectory) (no_file_at kind) ≡ None → (kind ≡ Some ClosedFile) ⊎ (kind ≡ Some OpenFile)
no_file_none true kind is = absurd (cc is)
no_file_none false None is = absurd (cc is)
no_file_none false (Some Directory) is = absurd (cc is)
no_file_none false (Some ClosedFile) is = inl refl
no_file_none false (Some OpenFile) is = inr refl

-- a path at which nothing refuses an append has a closed file
pub closed_to_append : (kinds : List ℕ → Option Kind) (path : List ℕ) → append_refusal kinds path ≡ None → kinds path ≡ Some ClosedFile
closed_to_append kinds path is =
    let h = open_refusal_none (no_file kinds path) (kinds path) is in
    ⊎_elim (λ closed. closed) (λ opened. absurd (h.1 opened)) (no_file_none (list_any (λ a. is_file (kinds a)) (ancestors path)) (kinds path) h.0)
