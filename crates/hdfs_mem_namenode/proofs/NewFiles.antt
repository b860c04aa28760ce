-- What a file that is created keeps of a namespace.
use Rattle.std.proofs.Common.{◌≡◌, ℕ, suc, Bool, true, false, cond, ◌||◌, eqb, List, [], ◌∷◌, Option, Some, None, IsSome, is_some, is_none, unwrap_or, refl, sym, ◌∙◌, ap, subst, arith}
use Rattle.std.proofs.Math.Path.{fun_ext}
use Rattle.std.proofs.lemmas.Bool.{false≢true, eqb-true}
use Rattle.std.proofs.lemmas.List.Elements.{All-weaker}
use Rattle.std.proofs.lemmas.Slice.Eq.{bytes_eq-Decides}
use Rattle.std.specs.List.{All, list_any}
use Rattle.std.specs.Option.{option_map}
use Rattle.std.specs.Str.{bytes_eq}
use Rattle.hdfs_cluster.specs.declared.picture.BlockEntry.{BlockEntry}
use Rattle.hdfs_cluster.specs.declared.picture.Entry.{Entry}
use Rattle.hdfs_cluster.specs.declared.picture.Entry.TheVariants as entries
use Rattle.hdfs_cluster.specs.declared.picture.FileEntry.{FileEntry}
use Rattle.hdfs_cluster.specs.Effects.{blocks_at, table_without, with_entry}
use Rattle.hdfs_cluster.specs.Files.{Kind, Directory, ClosedFile, OpenFile, IsTree, is_file}
use Rattle.hdfs_cluster.specs.Listing.{total, plus_length}
use Rattle.hdfs_names.specs.Paths.{root, is_path, ancestors}
use Rattle.hdfs_cluster.specs.Picture.{entry_kind, kinds_in}
use Rattle.hdfs_cluster.specs.Refusals.{with_parents}
use Rattle.hdfs_cluster.proofs.Loads.{and_parts}
use Rattle.hdfs_mem_namenode.specs.Adding.{with_directories}
use Rattle.hdfs_mem_namenode.specs.Memory.{is_dir, is_kth, is_kth_at, IsBare, is_bare_at, is_sized, is_length}
use Rattle.hdfs_mem_namenode.specs.Soundness.{kth_test, kth_parts}
use Rattle.hdfs_mem_namenode.proofs.Apart.{no_kth, apart_fewer}
use Rattle.hdfs_mem_namenode.proofs.Directories.{tree_with_parents, some_known, none_known}
use Rattle.hdfs_mem_namenode.proofs.Naming.{Sound, tree_from_tests, placed_from_tree, rooted_from_tree}

-- a block of a list is one of its rest at a place more
pub kth_later : (first : ℕ) (ids : List ℕ) (k id : ℕ) → is_kth ids k id ≡ true → is_kth (first ∷ ids) (suc k) id ≡ true
kth_later first ids k id is = let parts = kth_parts ids k id is in kth_test (first ∷ ids) (suc k) id (omega (arith, parts.0)) parts.1

pub kth_first : (first : ℕ) (ids : List ℕ) → is_kth (first ∷ ids) 0 first ≡ true
kth_first first ids = kth_test (first ∷ ids) 0 first (omega arith) refl

pub any_kth : (ids : List ℕ) (id : ℕ) → list_any (λ o. eqb o id) ids ≡ true → (k : ℕ) × (is_kth ids k id ≡ true)
any_kth [] id is = absurd (false≢true is)
any_kth (first ∷ ids) id is = by_test (eqb first id) refl is (any_kth ids id)
  where
    by_test : (b : Bool) → eqb first id ≡ b → (b || list_any (λ o. eqb o id) ids) ≡ true → (list_any (λ o. eqb o id) ids ≡ true → (k : ℕ) × (is_kth ids k id ≡ true)) → (k : ℕ) × (is_kth (first ∷ ids) k id ≡ true)
    by_test true same is rest = (0, ap (λ (n : ℕ). is_kth (first ∷ ids) 0 n) (sym (eqb-true first id same)) ∙ kth_first first ids)
    by_test false same is rest = let more = rest is in (suc more.0, kth_later first ids more.0 id more.1)

-- tables that have the same of each of these blocks have them in the same length together
pub total_same : (t t' : ℕ → Option BlockEntry) (ids : List ℕ) → ((k id : ℕ) → is_kth ids k id ≡ true → t' id ≡ t id) → total t' ids ≡ total t ids
total_same t t' [] same = refl
total_same t t' (first ∷ ids) same =
    ap (λ (o : Option BlockEntry). plus_length o (total t' ids)) (same 0 first (kth_first first ids)) ∙ ap (plus_length (t first)) (total_same t t' ids (λ k id is. same (suc k) id (kth_later first ids k id is)))

pub sized_same : (t t' : ℕ → Option BlockEntry) (o : Option Entry) → ((k id : ℕ) → is_kth (blocks_at o) k id ≡ true → t' id ≡ t id) → is_sized t o ≡ true → is_sized t' o ≡ true
sized_same t t' None same is = refl
sized_same t t' (Some entries.Dir) same is = refl
sized_same t t' (Some (entries.File file)) same is = ap is_length (total_same t t' file.blocks same) ∙ is

-- where a file stands there is more than the root
pub more_from : (names : List ℕ → Option Entry) (path : List ℕ) (file : FileEntry) → names path ≡ Some (entries.File file) → IsBare names → ⊥
more_from names path file is bare = by_test (bytes_eq root path) (sym (ap (is_bare_at (bytes_eq root path)) is) ∙ bare path)
  where
    by_test : (b : Bool) → is_bare_at b (Some (entries.File file)) ≡ true → ⊥
    by_test true here = false≢true here
    by_test false here = false≢true here

module _ (names : List ℕ → Option Entry) (path : List ℕ) (file : FileEntry) where
  kinds_at : (b a : Bool) (o : Option Entry) → option_map entry_kind (cond b (Some (entries.File file)) (cond a (Some (unwrap_or o entries.Dir)) o))
      ≡ cond b (Some (entry_kind (entries.File file))) (cond a (Some (unwrap_or (option_map entry_kind o) Directory)) (option_map entry_kind o))
  kinds_at true a o = refl
  kinds_at false true None = refl
  kinds_at false true (Some entry) = refl
  kinds_at false false o = refl

  pub kinds_with_parents : (q : List ℕ) → kinds_in (with_parents names entries.Dir path (entries.File file)) q ≡ with_parents (kinds_in names) Directory path (entry_kind (entries.File file)) q
  kinds_with_parents q = kinds_at (bytes_eq path q) (list_any (bytes_eq q) (ancestors path)) (names q)

  blocks_at_cond : (a : Bool) (o : Option Entry) → blocks_at (cond a (Some (unwrap_or o entries.Dir)) o) ≡ blocks_at o
  blocks_at_cond true None = refl
  blocks_at_cond true (Some entry) = refl
  blocks_at_cond false o = refl

  -- a block of a file is of one that was there, but for the new file's
  kth_before : file.blocks ≡ [] → (q : List ℕ) (k id : ℕ) → is_kth_at (with_parents names entries.Dir path (entries.File file)) q k id ≡ true → (is_kth_at names q k id ≡ true) × (bytes_eq path q ≡ false)
  kth_before none q k id is = by_test (bytes_eq path q) is
    where
      by_test : (b : Bool) → is_kth (blocks_at (cond b (Some (entries.File file)) (with_directories names entries.Dir path q))) k id ≡ true → (is_kth_at names q k id ≡ true) × (b ≡ false)
      by_test true here = absurd (no_kth k id (ap (λ (l : List ℕ). is_kth l k id) (sym none) ∙ here))
      by_test false here = (ap (λ (l : List ℕ). is_kth l k id) (sym (blocks_at_cond (list_any (bytes_eq q) (ancestors path)) (names q))) ∙ here, refl)

  -- the names with an older file in its place
  over_at : (b a : Bool) (o : Option Entry) → (a ≡ true → (entry : Entry) × (o ≡ Some entry)) → cond b (Some (entries.File file)) o ≡ cond b (Some (entries.File file)) (cond a (Some (unwrap_or o entries.Dir)) o)
  over_at true a o there = refl
  over_at false true o there = let e = there refl in e.1 ∙ sym (ap (λ (o : Option Entry). Some (unwrap_or o entries.Dir)) e.1)
  over_at false false o there = refl

  some_kind : (o : Option Entry) → option_map entry_kind o ≡ Some Directory → (entry : Entry) × (o ≡ Some entry)
  some_kind None is = absurd (cc)
  some_kind (Some entry) is = (entry, refl)

  any_all : (q : List ℕ) (paths : List (List ℕ)) → All (λ a. kinds_in names a ≡ Some Directory) paths → list_any (bytes_eq q) paths ≡ true → kinds_in names q ≡ Some Directory
  any_all q [] all is = absurd (false≢true is)
  any_all q (p ∷ paths) all is = by_test (bytes_eq q p) (bytes_eq-Decides q p).0 is (any_all q paths (λ k d lt. all (suc k) d (omega (arith, lt))))
    where
      by_test : (b : Bool) → (b ≡ true → q ≡ p) → (b || list_any (bytes_eq q) paths) ≡ true → (list_any (bytes_eq q) paths ≡ true → kinds_in names q ≡ Some Directory) → kinds_in names q ≡ Some Directory
      by_test true same is rest = ap (kinds_in names) (same refl) ∙ all 0 p (omega arith)
      by_test false same is rest = rest is

  pub over_parents : IsTree (kinds_in names) → IsSome (names path) → (q : List ℕ) → with_entry names path file q ≡ with_parents names entries.Dir path (entries.File file) q
  over_parents tree some q =
      over_at (bytes_eq path q) (list_any (bytes_eq q) (ancestors path)) (names q)
      (λ above. some_kind (names q) (any_all q (ancestors path) (tree.above path (subst (λ o. IsSome (option_map entry_kind o)) (sym (some_known (names path) some).1) refl)) above))

  -- a file in the place of a file leaves the tree
  module _ (tree : IsTree (kinds_in names)) (old : Kind) (was : kinds_in names path ≡ Some old) (file_was : old ≡ Directory → ⊥) (kinds' : List ℕ → Option Kind) (new : Kind) (now : (q : List ℕ) → kinds' q ≡ cond (bytes_eq path q) (Some new) (kinds_in names q)) where
    stays_at : (b : Bool) (q : List ℕ) → (b ≡ true → path ≡ q) → kinds_in names q ≡ Some Directory → cond b (Some new) (kinds_in names q) ≡ Some Directory
    stays_at true q same is = let k : kinds_in names path ≡ Some Directory = ap (kinds_in names) (same refl) ∙ is in absurd (file_was (cc (was, k)))
    stays_at false q same is = is

    stays : (q : List ℕ) → kinds_in names q ≡ Some Directory → kinds' q ≡ Some Directory
    stays q is = now q ∙ stays_at (bytes_eq path q) q (bytes_eq-Decides path q).0 is

    there_at : (b : Bool) (q : List ℕ) → (b ≡ true → path ≡ q) → IsSome (cond b (Some new) (kinds_in names q)) → IsSome (kinds_in names q)
    there_at true q same some = subst (λ (p : List ℕ). IsSome (kinds_in names p)) (same refl) (ap is_some was)
    there_at false q same some = some

    there : (q : List ℕ) → IsSome (kinds' q) → IsSome (kinds_in names q)
    there q some = there_at (bytes_eq path q) q (bytes_eq-Decides path q).0 (subst IsSome (now q) some)

    pub tree_over : IsTree kinds'
    tree_over = record {
      root = stays root tree.root;
      above = λ q some. All-weaker (λ a. kinds_in names a ≡ Some Directory) (λ a. kinds' a ≡ Some Directory) stays (ancestors q) (tree.above q (there q some));
      named = λ q some. tree.named q (there q some);
    }

pub no_directory : (b : Bool) → cond b OpenFile ClosedFile ≡ Directory → ⊥
no_directory true is = cc
no_directory false is = cc

-- what holds of names holds of others that have the same at each path
pub names_same : (names names' : List ℕ → Option Entry) → ((q : List ℕ) → names' q ≡ names q) → (P : (List ℕ → Option Entry) → Type 0) → P names → P names'
names_same names names' same P was = subst P (sym (fun_ext same)) was

module _ (names : List ℕ → Option Entry) (table table' : ℕ → Option BlockEntry) (path : List ℕ) (file : FileEntry) (empty : file.blocks ≡ []) (sound : Sound names table) (free : is_dir (names path) ≡ false)
    (files : list_any (λ a. is_file (kinds_in names a)) (ancestors path) ≡ false) (named : is_path path ≡ true)
    (unlisted : (id : ℕ) → table' id ≡ table_without table (blocks_at (names path)) id) where
  abbrev names' : List ℕ → Option Entry
  names' = with_parents names entries.Dir path (entries.File file)

  abbrev tree : IsTree (kinds_in names)
  tree = tree_from_tests names sound.rooted sound.placed

  kind_at : (b : Bool) (o : Option Entry) → option_map entry_kind (cond b (Some (entries.File file)) o) ≡ cond b (Some (entry_kind (entries.File file))) (option_map entry_kind o)
  kind_at true o = refl
  kind_at false o = refl

  tree_cases : (o : Option Entry) → names path ≡ o → is_dir o ≡ false → IsTree (kinds_in names')
  tree_cases None is no_dir =
      subst IsTree (sym (fun_ext (kinds_with_parents names path file))) (tree_with_parents (kinds_in names) tree path (entry_kind (entries.File file)) (ap (option_map entry_kind) is) files named)
  tree_cases (Some entries.Dir) is no_dir = absurd (false≢true (sym no_dir))
  tree_cases (Some (entries.File old)) is no_dir =
      tree_over names path file tree (entry_kind (entries.File old)) (ap (option_map entry_kind) is) (no_directory old.is_open) (kinds_in names') (entry_kind (entries.File file))
      (λ q. ap (option_map entry_kind) (sym (over_parents names path file tree (ap is_some is) q)) ∙ kind_at (bytes_eq path q) (names q))

  new_tree : IsTree (kinds_in names')
  new_tree = tree_cases (names path) refl free

  -- the blocks of the other files stay
  pub not_listed : (q : List ℕ) (k id : ℕ) → bytes_eq path q ≡ false → is_kth_at names q k id ≡ true → table' id ≡ table id
  not_listed q k id apart is = unlisted id ∙ ap (λ (b : Bool). cond b None (table id)) (not_any (list_any (λ o. eqb o id) (blocks_at (names path))) (λ any. any_kth (blocks_at (names path)) id any))
    where
      not_any : (b : Bool) → (b ≡ true → (n : ℕ) × (is_kth (blocks_at (names path)) n id ≡ true)) → b ≡ false
      not_any true any = let at = any refl in absurd (false≢true (sym apart ∙ (and_parts (bytes_eq path q) (eqb at.0 k) (sound.apart path q at.0 k id at.1 is)).0))
      not_any false any = refl

  dir_sized : (a : Bool) (o : Option Entry) → is_sized table' o ≡ true → is_sized table' (cond a (Some (unwrap_or o entries.Dir)) o) ≡ true
  dir_sized true None is = refl
  dir_sized true (Some entry) is = is
  dir_sized false o is = is

  sized_at : (q : List ℕ) (b : Bool) → bytes_eq path q ≡ b → is_sized table' (cond b (Some (entries.File file)) (with_directories names entries.Dir path q)) ≡ true
  sized_at q true is = ap (λ (l : List ℕ). is_length (total table' l)) empty
  sized_at q false is = dir_sized (list_any (bytes_eq q) (ancestors path)) (names q) (sized_same table table' (names q) (λ k id here. not_listed q k id is here) (sound.sized q))

  -- the namespace stays sound
  pub put_sound : Sound names' table'
  put_sound = record {
    rooted = rooted_from_tree names' new_tree;
    placed = placed_from_tree names' new_tree;
    sized = λ q. sized_at q (bytes_eq path q) refl;
    apart = apart_fewer names names' (λ q k id is. (kth_before names path file empty q k id is).0) sound.apart;
  }

  none_at : (b : Bool) (o : Option BlockEntry) → is_none o ≡ true → is_none (cond b None o) ≡ true
  none_at true o is = refl
  none_at false o is = is

  pub put_numbered : (id : ℕ) → is_none (table id) ≡ true → is_none (table' id) ≡ true
  put_numbered id is = ap is_none (unlisted id) ∙ none_at (list_any (λ o. eqb o id) (blocks_at (names path))) (table id) is

  pub put_more : IsBare names' → ⊥
  put_more = more_from names' path file (ap (λ (b : Bool). cond b (Some (entries.File file)) (with_directories names entries.Dir path path)) ((bytes_eq-Decides path path).1 refl))

-- where nothing stands a file is put with directories above it, else in the place of a file
pub put_names : (names names' : List ℕ → Option Entry) (path : List ℕ) (file : FileEntry) → IsTree (kinds_in names) → (names path ≡ None → (q : List ℕ) → names' q ≡ with_parents names entries.Dir path (entries.File file) q)
    → (IsSome (names path) → (q : List ℕ) → names' q ≡ with_entry names path file q) → (q : List ℕ) → names' q ≡ with_parents names entries.Dir path (entries.File file) q
put_names names names' path file tree new over q = by_test (is_some (names path)) refl
  where
    by_test : (b : Bool) → is_some (names path) ≡ b → names' q ≡ with_parents names entries.Dir path (entries.File file) q
    by_test true is = over is q ∙ over_parents names path file tree is q
    by_test false is = new (none_known (names path) is) q
