-- A file that moves onto a free path in a directory leaves a namespace sound: its blocks go with it, and are of no other file.
use Rattle.std.proofs.Common.{◌≡◌, ⊎_elim, ℕ, Bool, true, false, cond, not, ◌&&◌, ◌||◌, eqb, List, [], ◌∷◌, Option, Some, None, IsSome, is_some, is_none, refl, sym, ◌∙◌, ap}
use Rattle.std.proofs.lemmas.Bool.{false≢true}
use Rattle.std.proofs.lemmas.List.Elements.{All-head, All-tail}
use Rattle.std.proofs.lemmas.Slice.Eq.{bytes_eq-Decides}
use Rattle.std.specs.List.{All, list_any}
use Rattle.std.specs.Option.{option_map}
use Rattle.std.specs.Str.{bytes_eq}
use Rattle.hdfs_cluster.specs.declared.picture.BlockEntry.{BlockEntry}
use Rattle.hdfs_cluster.specs.declared.picture.Entry.{Entry}
use Rattle.hdfs_cluster.specs.declared.picture.Entry.TheVariants as entries
use Rattle.hdfs_cluster.specs.declared.picture.FileEntry.{FileEntry}
use Rattle.hdfs_cluster.specs.Effects.{blocks_at, with_entry}
use Rattle.hdfs_cluster.specs.Files.{Directory, ClosedFile, OpenFile, NotDirectory, Missing, is_file, no_file_at}
use Rattle.hdfs_cluster.specs.Picture.{entry_kind, kinds_in}
use Rattle.hdfs_cluster.specs.Refusals.{Exists, Lacks, is_in_the_way, open_refusal}
use Rattle.hdfs_cluster.proofs.Trees.{ancestors_cases}
use Rattle.hdfs_names.specs.Paths.{root, ancestors, is_path, parent_of}
use Rattle.hdfs_mem_namenode.specs.Adding.{AreNew, IsPlace}
use Rattle.hdfs_mem_namenode.specs.Changing.{IsClosed, frees}
use Rattle.hdfs_mem_namenode.specs.Memory.{IsBare, is_dir, is_kth, is_sized}
use Rattle.hdfs_mem_namenode.specs.Renaming.{MayMove, moved}
use Rattle.hdfs_mem_namenode.specs.Totals.{is_counted}
use Rattle.hdfs_mem_namenode.proofs.Apart.{no_kth}
use Rattle.hdfs_mem_namenode.proofs.Directories.{any_front, parent_push, parent_root}
use Rattle.hdfs_mem_namenode.proofs.FileChanges.{apart_other, apart_own, sound_changed}
use Rattle.hdfs_mem_namenode.proofs.Naming.{Sound, bytes_eq_flip, sound_with, tree_from_tests}
use Rattle.hdfs_mem_namenode.proofs.NewFiles.{more_from, names_same}
use Rattle.hdfs_mem_namenode.proofs.Removing.{sound_without}
use Rattle.hdfs_mem_namenode.proofs.Sums.{differ}

-- something is put at a free path, what stands at another is taken away, and put where that was
module _ {X : Type 0} (map put left back : List ℕ → Option X) (src dst : List ℕ) (dir : X) (there : IsSome (map src)) (free : map dst ≡ None)
    (puts : (q : List ℕ) → put q ≡ cond (bytes_eq dst q) (Some dir) (map q)) (leaves : (q : List ℕ) → left q ≡ cond (bytes_eq src q) None (put q)) where
  apart : src ≡ dst → ⊥
  apart same = false≢true (sym (ap is_some (ap map same ∙ free)) ∙ there)

  pub put_source : put src ≡ map src
  put_source = puts src ∙ ap (λ (b : Bool). cond b (Some dir) (map src)) (differ dst src (λ same. apart (sym same)))

  pub left_place : IsSome (left dst)
  left_place = ap is_some (leaves dst ∙ ap (λ (b : Bool). cond b None (put dst)) (differ src dst apart) ∙ puts dst ∙ ap (λ (b : Bool). cond b (Some dir) (map dst)) ((bytes_eq-Decides dst dst).1 refl))

  pub moved_back : (x : X) → Some x ≡ put src → ((q : List ℕ) → back q ≡ cond (bytes_eq dst q) (Some x) (left q)) → (q : List ℕ) → back q ≡ moved map src dst q
  moved_back x value backs q = backs q ∙ ap (cond (bytes_eq dst q) (Some x)) (leaves q ∙ ap (cond (bytes_eq src q) None) (puts q)) ∙ by (bytes_eq dst q) (bytes_eq src q)
    where
      by : (b a : Bool) → cond b (Some x) (cond a None (cond b (Some dir) (map q))) ≡ cond b (map src) (cond a None (map q))
      by true a = value ∙ put_source
      by false a = refl

module _ (names : List ℕ → Option Entry) (table : ℕ → Option BlockEntry) (src dst : List ℕ) (sound : Sound names table) (file : FileEntry) (is : names src ≡ Some (entries.File file))
    (free : names dst ≡ None) (parent : is_dir (names (parent_of dst)) ≡ true) (named : is_path dst ≡ true) where
  -- what stands at a path is no directory, or no file
  apart_from : (q : List ℕ) → is_dir (names q) ≡ true → src ≡ q → ⊥
  apart_from q dir same = false≢true (ap (λ (o : Option Entry). is_dir o) (sym is ∙ ap names same) ∙ dir)

  pub src_apart : src ≡ dst → ⊥
  src_apart same = false≢true (sym (ap is_some (ap names same ∙ free)) ∙ ap is_some is)

  -- first the file loses its blocks
  abbrev bare_file : FileEntry
  bare_file = record { attributes = file.attributes; blocks = []; is_open = file.is_open }

  abbrev stripped : List ℕ → Option Entry
  stripped = with_entry names src bare_file

  stripped_here : stripped src ≡ Some (entries.File bare_file)
  stripped_here = ap (λ (b : Bool). cond b (Some (entries.File bare_file)) (names src)) ((bytes_eq-Decides src src).1 refl)

  sound_stripped : Sound stripped table
  sound_stripped = sound_changed names table table src file bare_file sound is (λ q k id other here. refl) refl (λ q k n id other here there. no_kth k id here) (λ k n id here there. absurd (no_kth k id here))

  -- then it goes
  abbrev left : List ℕ → Option Entry
  left q = cond (list_any (bytes_eq q) (src ∷ [])) None (stripped q)

  left_is : (q : List ℕ) → left q ≡ cond (bytes_eq src q) None (names q)
  left_is q = ap (λ (b : Bool). cond (b || false) None (stripped q)) (bytes_eq_flip q src) ∙ by (bytes_eq src q)
    where
      by : (b : Bool) → cond (b || false) None (cond b (Some (entries.File bare_file)) (names q)) ≡ cond b None (names q)
      by true = refl
      by false = refl

  left_elsewhere : (q : List ℕ) → (src ≡ q → ⊥) → left q ≡ names q
  left_elsewhere q apart = left_is q ∙ ap (λ (b : Bool). cond b None (names q)) (differ src q apart)

  not_root : list_any (bytes_eq root) (src ∷ []) ≡ false
  not_root = ap (λ (b : Bool). b || false) (bytes_eq_flip root src ∙ differ src root (apart_from root sound.rooted))

  none_above : (paths : List (List ℕ)) → All (λ a. kinds_in stripped a ≡ Some Directory) paths → list_any (λ a. list_any (bytes_eq a) (src ∷ [])) paths ≡ true → ⊥
  none_above [] all any = false≢true any
  none_above (a ∷ paths) all any = by (bytes_eq a src) (bytes_eq-Decides a src).0 any (none_above paths (All-tail (λ a. kinds_in stripped a ≡ Some Directory) a paths all))
    where
      no_kind : (b : Bool) → Some (cond b OpenFile ClosedFile) ≡ Some Directory → ⊥
      no_kind true is = cc
      no_kind false is = cc

      by : (b : Bool) → (b ≡ true → a ≡ src) → ((b || false) || list_any (λ a. list_any (bytes_eq a) (src ∷ [])) paths) ≡ true → (list_any (λ a. list_any (bytes_eq a) (src ∷ [])) paths ≡ true → ⊥) → ⊥
      by true same any rest = no_kind file.is_open (sym (ap (option_map entry_kind) stripped_here) ∙ ap (kinds_in stripped) (sym (same refl)) ∙ All-head (λ a. kinds_in stripped a ≡ Some Directory) a paths all)
      by false same any rest = rest any

  some_kind : (o : Option Entry) → IsSome o → IsSome (option_map entry_kind o)
  some_kind None some = absurd (false≢true some)
  some_kind (Some entry) some = refl

  closed : IsClosed stripped (src ∷ [])
  closed q some any = absurd (none_above (ancestors q) ((tree_from_tests stripped sound_stripped.rooted sound_stripped.placed).above q (some_kind (stripped q) some)) any)

  freed : (id : ℕ) → table id ≡ cond (frees stripped (src ∷ []) id) None (table id)
  freed id = sym (ap (λ (o : Option Entry). cond (list_any (λ other. eqb other id) (blocks_at o) || false) None (table id)) stripped_here)

  sound_left : Sound left table
  sound_left = sound_without stripped left table table (src ∷ []) sound_stripped not_root closed (λ q. refl) freed

  -- and then it comes in at its new place
  abbrev now : List ℕ → Option Entry
  now q = cond (bytes_eq dst q) (Some (entries.File file)) (left q)

  place : IsPlace left dst
  place = record {
    named = named;
    absent = left_elsewhere dst src_apart ∙ free;
    parent = ap is_dir (left_elsewhere (parent_of dst) (apart_from (parent_of dst) parent)) ∙ parent;
  }

  new_blocks : AreNew left file.blocks
  new_blocks = record {
    unused = λ path k n id here there. by path k n id (bytes_eq src path) refl here (ap (λ (o : Option Entry). is_kth (blocks_at o) n id) (sym (left_is path)) ∙ there);
    distinct = apart_own names table table src file file sound is;
  }
    where
      by : (path : List ℕ) (k n id : ℕ) (b : Bool) → bytes_eq src path ≡ b → is_kth file.blocks k id ≡ true → is_kth (blocks_at (cond b None (names path))) n id ≡ true → ⊥
      by path k n id true same here there = no_kth n id there
      by path k n id false same here there = apart_other names table table src file file sound is path k n id (λ equal. false≢true (sym same ∙ (bytes_eq-Decides src path).1 equal)) here there

  moved_is : (q : List ℕ) → moved names src dst q ≡ now q
  moved_is q = ap (λ (o : Option Entry). cond (bytes_eq dst q) o (cond (bytes_eq src q) None (names q))) is ∙ ap (λ (o : Option Entry). cond (bytes_eq dst q) (Some (entries.File file)) o) (sym (left_is q))

  pub sound_moved : Sound (moved names src dst) table
  sound_moved =
      names_same now (moved names src dst) moved_is (λ names. Sound names table)
      (sound_with left now table dst (entries.File file) (λ q. refl) sound_left place (sym (ap (is_sized table) is) ∙ sound.sized src) new_blocks)

  pub more_moved : IsBare (moved names src dst) → ⊥
  more_moved = more_from (moved names src dst) dst file (ap (λ (b : Bool). cond b (names src) (cond (bytes_eq src dst) None (names dst))) ((bytes_eq-Decides dst dst).1 refl) ∙ is)

  module _ (totals totals' : List ℕ → Option ℕ) (counted : (q : List ℕ) → is_counted table (names q) (totals q) ≡ true) (kept : totals' dst ≡ totals src) (others : (q : List ℕ) → (src ≡ q → ⊥) → (dst ≡ q → ⊥) → totals' q ≡ totals q) where
    pub counted_moved : (q : List ℕ) → is_counted table (moved names src dst q) (totals' q) ≡ true
    counted_moved q = by (bytes_eq dst q) (bytes_eq src q) (bytes_eq-Decides dst q).0 (bytes_eq-Decides dst q).1 (bytes_eq-Decides src q).1
      where
        by : (b a : Bool) → (b ≡ true → dst ≡ q) → (dst ≡ q → b ≡ true) → (src ≡ q → a ≡ true) → is_counted table (cond b (names src) (cond a None (names q))) (totals' q) ≡ true
        by true a same equal equal' = ap (is_counted table (names src)) (ap totals' (sym (same refl)) ∙ kept) ∙ counted src
        by false true same equal equal' = refl
        by false false same equal equal' = ap (is_counted table (names q)) (others q (λ h. false≢true (equal' h)) (λ h. false≢true (equal h))) ∙ counted q

-- a closed file stands where nothing refuses one
pub file_allowed : (o : Option Entry) (above : Bool) → open_refusal (cond above (Some NotDirectory) (no_file_at (option_map entry_kind o))) (option_map entry_kind o) ≡ None → (file : FileEntry) × (o ≡ Some (entries.File file))
file_allowed None true none = absurd (cc)
file_allowed None false none = absurd (cc)
file_allowed (Some entries.Dir) true none = absurd (cc)
file_allowed (Some entries.Dir) false none = absurd (cc)
file_allowed (Some (entries.File file)) above none = (file, refl)

-- none of three refusals holds
none_of : (a b c : Bool) → cond a (Some Exists) (cond b (Some (Lacks NotDirectory)) (cond (not false && c) (Some (Lacks Missing)) None)) ≡ None → (a ≡ false) × (b ≡ false) × (c ≡ false)
none_of true b c is = absurd (cc)
none_of false true c is = absurd (cc)
none_of false false true is = absurd (cc)
none_of false false false is = (refl, refl, refl)

-- what is there and no file is a directory
directory_at : (o : Option Entry) → is_file (option_map entry_kind o) ≡ false → is_none (option_map entry_kind o) ≡ false → is_dir o ≡ true
directory_at None file none = absurd (false≢true (sym none))
directory_at (Some entries.Dir) file none = refl
directory_at (Some (entries.File file)) no_file none = absurd (a_file file.is_open no_file)
  where
    a_file : (b : Bool) → is_file (Some (cond b OpenFile ClosedFile)) ≡ false → ⊥
    a_file true is = false≢true (sym is)
    a_file false is = false≢true (sym is)

or_last : (a b : Bool) → (a || b) ≡ false → b ≡ false
or_last true b is = absurd (false≢true (sym is))
or_last false b is = is

module _ (names : List ℕ → Option Entry) (rooted : is_dir (names root) ≡ true) (src dst : List ℕ) (may : MayMove (kinds_in names) src dst) where
  pub move_source : (file : FileEntry) × (names src ≡ Some (entries.File file))
  move_source = file_allowed (names src) (list_any (λ ancestor. is_file (kinds_in names ancestor)) (ancestors src)) may.closed

  three : (is_in_the_way false (kinds_in names dst) ≡ false) × (list_any (λ ancestor. is_file (kinds_in names ancestor)) (ancestors dst) ≡ false) × (is_none (kinds_in names (parent_of dst)) ≡ false)
  three = none_of _ _ _ may.free

  pub move_parent : is_dir (names (parent_of dst)) ≡ true
  move_parent =
      ⊎_elim
      (λ none. ap (λ (p : List ℕ). is_dir (names p)) (parent_root dst none) ∙ rooted)
      (λ more.
      let parent : parent_of dst ≡ more.0 = parent_push dst more.0 more.1 in
      let no_file = or_last (list_any (λ a. is_file (kinds_in names a)) (ancestors more.0)) (is_file (kinds_in names more.0)) (sym (any_front (λ a. is_file (kinds_in names a)) dst more.0 more.1) ∙ three.1) in
      ap (λ (p : List ℕ). is_dir (names p)) parent ∙ directory_at (names more.0) no_file (ap (λ (p : List ℕ). is_none (kinds_in names p)) (sym parent) ∙ three.2))
      (ancestors_cases dst)
