-- The tests that a namespace keeps, and the tree that they say.
use Rattle.std.proofs.Common.{◌≡◌, ℕ, Bool, true, false, cond, ◌&&◌, ◌||◌, List, [], ◌∷◌, Option, Some, None, IsSome, is_none, String, refl, sym, ◌∙◌, ap, subst, arith}
use Rattle.std.proofs.lemmas.List.Elements.{All-cons, All-nil, All-head, All-tail}
use Rattle.std.proofs.lemmas.Map.Text.{is_eq-slice_cmp}
use Rattle.std.proofs.lemmas.Bool.{false≢true}
use Rattle.std.proofs.lemmas.Slice.Eq.{bytes_eq-Decides}
use Rattle.std.specs.List.{All, list_all}
use Rattle.std.specs.Map.{lookup}
use Rattle.std.specs.Option.{option_map}
use Rattle.std.specs.Ordering.{nat_cmp}
use Rattle.std.specs.Cmp.Lexicographic.{slice_cmp}
use Rattle.std.specs.BTreeMap.{is_at}
use Rattle.std.specs.Str.{bytes_eq}
use Rattle.std.specs.String.{string_bytes}
use Rattle.hdfs_cluster.specs.declared.picture.Entry.{Entry}
use Rattle.hdfs_cluster.specs.declared.picture.Entry.TheVariants as entries
use Rattle.hdfs_cluster.specs.declared.picture.BlockEntry.{BlockEntry}
use Rattle.hdfs_cluster.specs.Files.{Kind, Directory, ClosedFile, OpenFile, IsTree, IsState, Dir, kind_of, kinds_of, only_root, empty_state}
use Rattle.hdfs_names.specs.Paths.{root, is_path, ancestors, parent_of}
use Rattle.hdfs_cluster.specs.Picture.{entry_kind, kinds_in}
use Rattle.hdfs_cluster.proofs.Loads.{and_parts}
use Rattle.hdfs_cluster.proofs.Trees.{tree_with}
use Rattle.hdfs_mem_namenode.specs.Memory.{is_dir, is_placed, is_sized, is_bare, is_bare_at, is_kth, AreApart, IsBare}
use Rattle.hdfs_mem_namenode.specs.Adding.{IsPlace, AreNew, Names}
use Rattle.hdfs_cluster.specs.Effects.{blocks_at}
use Rattle.hdfs_mem_namenode.proofs.Apart.{apart_with, no_kth}

pub kind_from_dir : (o : Option Entry) → is_dir o ≡ true → option_map entry_kind o ≡ Some Directory
kind_from_dir None is = absurd (cc)
kind_from_dir (Some entries.Dir) is = refl
kind_from_dir (Some (entries.File file)) is = absurd (cc)

not_directory : (b : Bool) → cond b (Some OpenFile) (Some ClosedFile) ≡ Some Directory → ⊥
not_directory true is = cc
not_directory false is = cc

some_kind : (b : Bool) → Some (cond b OpenFile ClosedFile) ≡ cond b (Some OpenFile) (Some ClosedFile)
some_kind true = refl
some_kind false = refl

dir_from_kind : (o : Option Entry) → option_map entry_kind o ≡ Some Directory → is_dir o ≡ true
dir_from_kind None is = absurd (cc)
dir_from_kind (Some entries.Dir) is = refl
dir_from_kind (Some (entries.File file)) is = absurd (not_directory file.is_open (sym (some_kind file.is_open) ∙ is))

module _ (names : List ℕ → Option Entry) where
  all_from_tests : (paths : List (List ℕ)) → list_all (λ a. is_dir (names a)) paths ≡ true → All (λ a. kinds_in names a ≡ Some Directory) paths
  all_from_tests [] is = All-nil (λ a. kinds_in names a ≡ Some Directory)
  all_from_tests (p ∷ paths) is =
      let parts = and_parts (is_dir (names p)) (list_all (λ a. is_dir (names a)) paths) is in
      All-cons (λ a. kinds_in names a ≡ Some Directory) p paths (kind_from_dir (names p) parts.0) (all_from_tests paths parts.1)

  tests_from_all : (paths : List (List ℕ)) → All (λ a. kinds_in names a ≡ Some Directory) paths → list_all (λ a. is_dir (names a)) paths ≡ true
  tests_from_all [] all = refl
  tests_from_all (p ∷ paths) all =
      ap (λ (b : Bool). b && list_all (λ a. is_dir (names a)) paths) (dir_from_kind (names p) (All-head (λ a. kinds_in names a ≡ Some Directory) p paths all))
      ∙ tests_from_all paths (All-tail (λ a. kinds_in names a ≡ Some Directory) p paths all)

  rule_from_test : (o : Option Entry) (rule : Bool) → IsSome (option_map entry_kind o) → (is_none o || rule) ≡ true → rule ≡ true
  rule_from_test None rule some is = absurd (cc)
  rule_from_test (Some entry) rule some is = is

  test_from_rule : (o : Option Entry) (rule : Bool) → (IsSome (option_map entry_kind o) → rule ≡ true) → (is_none o || rule) ≡ true
  test_from_rule None rule holds = refl
  test_from_rule (Some entry) rule holds = holds refl

  pub tree_from_tests : is_dir (names root) ≡ true → ((path : List ℕ) → is_placed names path ≡ true) → IsTree (kinds_in names)
  tree_from_tests rooted placed = record {
    root = kind_from_dir (names root) rooted;
    above = λ path some. all_from_tests (ancestors path) (and_parts (is_path path) (list_all (λ a. is_dir (names a)) (ancestors path)) (rule_from_test (names path) (is_path path && list_all (λ a. is_dir (names a)) (ancestors path)) some (placed path))).1;
    named = λ path some. (and_parts (is_path path) (list_all (λ a. is_dir (names a)) (ancestors path)) (rule_from_test (names path) (is_path path && list_all (λ a. is_dir (names a)) (ancestors path)) some (placed path))).0;
  }

  both : (a b : Bool) → a ≡ true → b ≡ true → (a && b) ≡ true
  both a b is is' = ap (λ (x : Bool). x && b) is ∙ is'

  pub placed_from_tree : IsTree (kinds_in names) → (path : List ℕ) → is_placed names path ≡ true
  placed_from_tree tree path = test_from_rule (names path) (is_path path && list_all (λ a. is_dir (names a)) (ancestors path)) (λ some. both (is_path path) (list_all (λ a. is_dir (names a)) (ancestors path)) (tree.named path some) (tests_from_all (ancestors path) (tree.above path some)))

  pub rooted_from_tree : IsTree (kinds_in names) → is_dir (names root) ≡ true
  rooted_from_tree tree = dir_from_kind (names root) tree.root

-- what a namespace keeps of its names
pub record Sound (names : List ℕ → Option Entry) (table : ℕ → Option BlockEntry) : Type 0 where
  pub rooted : is_dir (names root) ≡ true
  pub placed : (path : List ℕ) → is_placed names path ≡ true
  pub sized : (path : List ℕ) → is_sized table (names path) ≡ true
  pub apart : AreApart names

module _ (names names' : List ℕ → Option Entry) (table : ℕ → Option BlockEntry) (path : List ℕ) (entry : Entry) (now : Names names names' path entry) where
  kind_at : (b : Bool) (o : Option Entry) → option_map entry_kind (cond b (Some entry) o) ≡ cond b (Some (entry_kind entry)) (option_map entry_kind o)
  kind_at true o = refl
  kind_at false o = refl

  sized_at : (b : Bool) (o : Option Entry) → is_sized table (Some entry) ≡ true → is_sized table o ≡ true → is_sized table (cond b (Some entry) o) ≡ true
  sized_at true o here there = here
  sized_at false o here there = there

  blocks_with : (b : Bool) (o : Option Entry) → blocks_at (cond b (Some entry) o) ≡ cond b (blocks_at (Some entry)) (blocks_at o)
  blocks_with true o = refl
  blocks_with false o = refl

  -- what stands at a place for it keeps a namespace sound
  pub sound_with : Sound names table → IsPlace names path → is_sized table (Some entry) ≡ true → AreNew names (blocks_at (Some entry)) → Sound names' table
  sound_with sound place sized new =
      let tree = tree_with (kinds_in names) (kinds_in names') path (entry_kind entry) (tree_from_tests names sound.rooted sound.placed) (ap (option_map entry_kind) place.absent) (kind_from_dir (names (parent_of path)) place.parent) place.named (λ q. ap (option_map entry_kind) (now q) ∙ kind_at (bytes_eq path q) (names q)) in
      record {
        rooted = rooted_from_tree names' tree;
        placed = placed_from_tree names' tree;
        sized = λ q. ap (is_sized table) (now q) ∙ sized_at (bytes_eq path q) (names q) sized (sound.sized q);
        apart = apart_with names names' path (blocks_at (Some entry)) (λ q. ap blocks_at (now q) ∙ blocks_with (bytes_eq path q) (names q)) sound.apart (λ q k n id other. new.unused q k n id) new.distinct;
      }

  -- where something stands that didn't, there is more than the root
  pub more_with : is_dir (names root) ≡ true → names path ≡ None → IsBare names' → ⊥
  more_with rooted absent bare =
      by_test (bytes_eq root path) (bytes_eq-Decides root path).0
      (sym (ap (is_bare_at (bytes_eq root path)) (now path ∙ ap (λ (b : Bool). cond b (Some entry) (names path)) ((bytes_eq-Decides path path).1 refl))) ∙ bare path)
    where
      by_test : (b : Bool) → (b ≡ true → root ≡ path) → is_bare_at b (Some entry) ≡ true → ⊥
      by_test true same here = false≢true (sym (ap is_dir (ap names (same refl) ∙ absent)) ∙ rooted)
      by_test false same here = false≢true here

-- the names in a list of entries
abbrev pub look : {A : Type 0} → List (String A × Entry) → List ℕ → Option Entry
look es q = lookup (is_at (λ k. slice_cmp nat_cmp q (string_bytes k))) es

dir_entry : (e : Entry) → is_dir (Some e) ≡ true → e ≡ entries.Dir
dir_entry entries.Dir is = refl
dir_entry (entries.File file) is = absurd (cc)

pub bytes_eq_flip : (xs ys : List ℕ) → bytes_eq xs ys ≡ bytes_eq ys xs
bytes_eq_flip xs ys = by_tests (bytes_eq xs ys) (bytes_eq ys xs) (λ is. (bytes_eq-Decides ys xs).1 (sym ((bytes_eq-Decides xs ys).0 is))) (λ is. (bytes_eq-Decides xs ys).1 (sym ((bytes_eq-Decides ys xs).0 is)))
  where
    by_tests : (a b : Bool) → (a ≡ true → b ≡ true) → (b ≡ true → a ≡ true) → a ≡ b
    by_tests true b f g = sym (f refl)
    by_tests false true f g = g refl
    by_tests false false f g = refl

-- where the root is all that is named, it is a directory and nothing else is there
pub bare_names : {A : Type 0} (es : List (String A × Entry)) → is_bare es ≡ true → (q : List ℕ) → look es q ≡ cond (bytes_eq root q) (Some entries.Dir) None
bare_names [] is q = absurd (cc)
bare_names (e ∷ []) is q =
    let parts = and_parts (bytes_eq root (string_bytes e.0)) (is_dir (Some e.1)) is in
    let at_root : root ≡ string_bytes e.0 = (bytes_eq-Decides root (string_bytes e.0)).0 parts.0 in
    let test : is_at (λ k. slice_cmp nat_cmp q (string_bytes k)) e.0 ≡ bytes_eq root q = is_eq-slice_cmp q (string_bytes e.0) ∙ ap (bytes_eq q) (sym at_root) ∙ bytes_eq_flip q root in
    ap (λ (b : Bool). cond b (Some e.1) None) test ∙ ap (λ (x : Entry). cond (bytes_eq root q) (Some x) None) (dir_entry e.1 parts.1)
bare_names (e ∷ f ∷ rest) is q = absurd (cc)

pub bare_at : {A : Type 0} (es : List (String A × Entry)) → is_bare es ≡ true → (q : List ℕ) → is_bare_at (bytes_eq root q) (look es q) ≡ true
bare_at es bare q = ap (is_bare_at (bytes_eq root q)) (bare_names es bare q) ∙ by_test (bytes_eq root q)
  where
    by_test : (b : Bool) → is_bare_at b (cond b (Some entries.Dir) None) ≡ true
    by_test true = refl
    by_test false = refl

-- the root alone is a tree
pub root_tree : (kinds : List ℕ → Option Kind) → ((q : List ℕ) → kinds q ≡ cond (bytes_eq root q) (Some Directory) None) → IsTree kinds
root_tree kinds now = record {
  root = now root;
  above = λ path some. subst (λ (p : List ℕ). All (λ a. kinds a ≡ Some Directory) (ancestors p)) (at_root path some) (All-nil (λ a. kinds a ≡ Some Directory));
  named = λ path some. subst (λ (p : List ℕ). is_path p ≡ true) (at_root path some) refl;
}
  where
    by_test : (b : Bool) (path : List ℕ) → (b ≡ true → root ≡ path) → IsSome (cond b (Some Directory) None) → root ≡ path
    by_test true path is some = is refl
    by_test false path is some = absurd (cc)

    at_root : (path : List ℕ) → IsSome (kinds path) → root ≡ path
    at_root path some = by_test (bytes_eq root path) path (bytes_eq-Decides root path).0 (subst IsSome (now path) some)

pub sound_bare : {A : Type 0} (es : List (String A × Entry)) (table : ℕ → Option BlockEntry) → is_bare es ≡ true → Sound (look es) table
sound_bare es table bare =
    let now = bare_names es bare in
    let tree = root_tree (kinds_in (look es)) (λ q. ap (option_map entry_kind) (now q) ∙ kind_at (bytes_eq root q)) in
    record {
      rooted = rooted_from_tree (look es) tree;
      placed = placed_from_tree (look es) tree;
      sized = λ q. ap (is_sized table) (now q) ∙ sized_at (bytes_eq root q);
      apart = λ q other k n id here there. absurd (no_kth k id (sym (ap (λ (o : Option Entry). is_kth (blocks_at o) k id) (now q) ∙ ap (λ (l : List ℕ). is_kth l k id) (no_blocks (bytes_eq root q))) ∙ here));
    }
  where
    no_blocks : (b : Bool) → blocks_at (cond b (Some entries.Dir) None) ≡ []
    no_blocks true = refl
    no_blocks false = refl

    kind_at : (b : Bool) → option_map entry_kind (cond b (Some entries.Dir) None) ≡ cond b (Some Directory) None
    kind_at true = refl
    kind_at false = refl

    sized_at : (b : Bool) → is_sized table (cond b (Some entries.Dir) None) ≡ true
    sized_at true = refl
    sized_at false = refl

-- the state with the root alone
pub empty_is_state : IsState empty_state
empty_is_state = record {
  tree = root_tree (kinds_of only_root) (λ q. kind_at (bytes_eq root q));
  listed = λ path some. (0, omega arith, by_test (bytes_eq root path) path (bytes_eq-Decides root path).0 some);
}
  where
    kind_at : (b : Bool) → option_map kind_of (cond b (Some Dir) None) ≡ cond b (Some Directory) None
    kind_at true = refl
    kind_at false = refl

    by_test : (b : Bool) (path : List ℕ) → (b ≡ true → root ≡ path) → IsSome (cond b (Some Dir) None) → root ≡ path
    by_test true path is some = is refl
    by_test false path is some = absurd (cc)
