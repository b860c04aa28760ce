-- What is forgotten for one path more.
use Rattle.std.proofs.Common.{◌≡◌, ℕ, Bool, true, false, cond, not, ◌||◌, ◌&&◌, eqb, List, [], ◌∷◌, ◌++◌, length, Option, Some, None, is_some, is_none, IsSome, String, refl, sym, ◌∙◌, ap, subst, arith}
use Rattle.std.proofs.lemmas.Bool.{false≢true}
use Rattle.std.proofs.lemmas.Bool.Decides.{nat_tests}
use Rattle.std.proofs.lemmas.List.Elements.{All-cons, All-head, All-nil, All-tail}
use Rattle.std.proofs.lemmas.List.Folds.{list_any-append}
use Rattle.std.proofs.lemmas.Map.Text.{is_eq-slice_cmp}
use Rattle.std.proofs.lemmas.Map.Views.{All-after_first, All-found}
use Rattle.std.proofs.lemmas.Slice.Eq.{bytes_eq-Decides}
use Rattle.std.specs.BTreeMap.{BTreeMap, IsOrdered, get, is_at}
use Rattle.std.specs.Cmp.Lexicographic.{slice_cmp}
use Rattle.std.specs.List.{All, list_any}
use Rattle.std.specs.List.Sorted.{IsStrictlySortedBy}
use Rattle.std.specs.Map.{keys_of}
use Rattle.std.specs.Option.{option_map}
use Rattle.std.specs.Ordering.{is_eq, nat_cmp}
use Rattle.std.specs.Str.{bytes_eq}
use Rattle.std.specs.String.{string_bytes, string_cmp, string_cmp_total}
use Rattle.std.specs.declared.cmp.Ordering.TheVariants.{Less}
use Rattle.hdfs_cluster.specs.declared.picture.BlockEntry.{BlockEntry}
use Rattle.hdfs_cluster.specs.declared.picture.Entry.{Entry}
use Rattle.hdfs_cluster.specs.Effects.{blocks_at, table_without}
use Rattle.hdfs_cluster.specs.Files.{Directory, IsTree}
use Rattle.hdfs_cluster.specs.Picture.{entry_kind, kinds_in}
use Rattle.hdfs_cluster.proofs.Loads.{and_parts, none_from_test}
use Rattle.hdfs_names.specs.Paths.{root, ancestors}
use Rattle.hdfs_mem_namenode.specs.Changing.{IsClosed, frees}
use Rattle.hdfs_mem_namenode.specs.Memory.{IsBare, is_bare, is_bare_at, is_dir, is_kth, is_kth_at, is_sized}
use Rattle.hdfs_mem_namenode.specs.Totals.{is_counted}
use Rattle.hdfs_mem_namenode.proofs.Apart.{apart_fewer, no_kth}
use Rattle.hdfs_mem_namenode.proofs.Naming.{Sound, bare_at, bytes_eq_flip, look, placed_from_tree, rooted_from_tree, tree_from_tests}
use Rattle.hdfs_mem_namenode.proofs.NewFiles.{any_kth, sized_same}
use Rattle.hdfs_mem_namenode.proofs.Sums.{counted_same}

forgot_at : {X : Type 0} (a b : Bool) (o : Option X) → cond (a || (b || false)) None o ≡ cond b None (cond a None o)
forgot_at true true o = refl
forgot_at true false o = refl
forgot_at false true o = refl
forgot_at false false o = refl

pub forgot_push : {X : Type 0} (map : List ℕ → Option X) (keys : List (List ℕ)) (key q : List ℕ) → cond (list_any (bytes_eq q) (keys ++ key ∷ [])) None (map q) ≡ cond (bytes_eq key q) None (cond (list_any (bytes_eq q) keys) None (map q))
forgot_push map keys key q =
    ap (λ (b : Bool). cond b None (map q)) (list_any-append (bytes_eq q) keys (key ∷ [])) ∙ forgot_at (list_any (bytes_eq q) keys) (bytes_eq q key) (map q)
    ∙ ap (λ (b : Bool). cond b None (cond (list_any (bytes_eq q) keys) None (map q))) (bytes_eq_flip q key)

freed_at : (a b : Bool) (o p : Option BlockEntry) → p ≡ cond a None o → cond b None p ≡ cond (a || (b || false)) None o
freed_at true true o p is = refl
freed_at true false o p is = is
freed_at false true o p is = refl
freed_at false false o p is = is

pub freed_push : (names : List ℕ → Option Entry) (table now : ℕ → Option BlockEntry) (keys : List (List ℕ)) (key : List ℕ) (id : ℕ) → now id ≡ cond (frees names keys id) None (table id)
    → table_without now (blocks_at (names key)) id ≡ cond (frees names (keys ++ key ∷ []) id) None (table id)
freed_push names table now keys key id is =
    freed_at (frees names keys id) (list_any (λ o. eqb o id) (blocks_at (names key))) (table id) (now id) is
    ∙ sym (ap (λ (b : Bool). cond b None (table id)) (list_any-append (λ k. list_any (λ o. eqb o id) (blocks_at (names k))) keys (key ∷ [])))

-- what is taken away with all that is below it leaves a namespace sound
module _ (names names' : List ℕ → Option Entry) (table table' : ℕ → Option BlockEntry) (keys : List (List ℕ)) (sound : Sound names table) (not_root : list_any (bytes_eq root) keys ≡ false) (closed : IsClosed names keys)
    (now : (q : List ℕ) → names' q ≡ cond (list_any (bytes_eq q) keys) None (names q)) (freed : (id : ℕ) → table' id ≡ cond (frees names keys id) None (table id)) where
  abbrev gone : List ℕ → Bool
  gone q = list_any (bytes_eq q) keys

  abbrev tree : IsTree (kinds_in names)
  tree = tree_from_tests names sound.rooted sound.placed

  kept : (q : List ℕ) → gone q ≡ false → names' q ≡ names q
  kept q is = now q ∙ ap (λ (b : Bool). cond b None (names q)) is

  was : (b : Bool) (o : Option Entry) → IsSome (option_map entry_kind (cond b None o)) → (b ≡ false) × IsSome (option_map entry_kind o)
  was true o some = absurd (false≢true some)
  was false o some = (refl, some)

  there : (q : List ℕ) → IsSome (kinds_in names' q) → (gone q ≡ false) × IsSome (kinds_in names q)
  there q some = was (gone q) (names q) (subst (λ (o : Option Entry). IsSome (option_map entry_kind o)) (now q) some)

  some_name : (o : Option Entry) → IsSome (option_map entry_kind o) → IsSome o
  some_name None some = absurd (false≢true some)
  some_name (Some entry) some = refl

  -- no path above one that stays goes
  stays_all : (paths : List (List ℕ)) → list_any gone paths ≡ false → All (λ a. kinds_in names a ≡ Some Directory) paths → All (λ a. kinds_in names' a ≡ Some Directory) paths
  stays_all [] none all = All-nil (λ a. kinds_in names' a ≡ Some Directory)
  stays_all (a ∷ paths) none all =
      let parts = no_or (gone a) (list_any gone paths) none in
      All-cons (λ a. kinds_in names' a ≡ Some Directory) a paths (ap (option_map entry_kind) (kept a parts.0) ∙ All-head (λ a. kinds_in names a ≡ Some Directory) a paths all)
      (stays_all paths parts.1 (All-tail (λ a. kinds_in names a ≡ Some Directory) a paths all))
    where
      no_or : (a b : Bool) → (a || b) ≡ false → (a ≡ false) × (b ≡ false)
      no_or true b is = absurd (false≢true (sym is))
      no_or false b is = (refl, is)

  none_above : (q : List ℕ) → IsSome (names q) → gone q ≡ false → list_any gone (ancestors q) ≡ false
  none_above q some stays = by (list_any gone (ancestors q)) refl
    where
      by : (b : Bool) → list_any gone (ancestors q) ≡ b → b ≡ false
      by true any = absurd (false≢true (sym stays ∙ closed q some any))
      by false any = refl

  tree' : IsTree (kinds_in names')
  tree' = record {
    root = ap (option_map entry_kind) (kept root not_root) ∙ tree.root;
    above = λ q some. (let h = there q some in stays_all (ancestors q) (none_above q (some_name (names q) h.1) h.0) (tree.above q h.1));
    named = λ q some. tree.named q (there q some).1;
  }

  -- a block of a file that stays is of none that goes
  not_freed : (q : List ℕ) (k id : ℕ) → gone q ≡ false → is_kth_at names q k id ≡ true → frees names keys id ≡ false
  not_freed q k id stays is = all_kept keys stays
    where
      contained : (key : List ℕ) → list_any (λ o. eqb o id) (blocks_at (names key)) ≡ true → key ≡ q
      contained key any = (let at = any_kth (blocks_at (names key)) id any in (bytes_eq-Decides key q).0 (and_parts (bytes_eq key q) (eqb at.0 k) (sound.apart key q at.0 k id at.1 is)).0)

      all_kept : (rest : List (List ℕ)) → list_any (bytes_eq q) rest ≡ false → frees names rest id ≡ false
      all_kept [] none = refl
      all_kept (key ∷ rest) none = by (bytes_eq q key) (list_any (λ o. eqb o id) (blocks_at (names key))) refl refl (all_kept rest)
        where
          by : (a d : Bool) → bytes_eq q key ≡ a → list_any (λ o. eqb o id) (blocks_at (names key)) ≡ d → (list_any (bytes_eq q) rest ≡ false → frees names rest id ≡ false) → (list_any (λ o. eqb o id) (blocks_at (names key)) || frees names rest id) ≡ false
          by true d here any more = absurd (false≢true (sym none ∙ ap (λ (b : Bool). b || list_any (bytes_eq q) rest) here))
          by false true here any more = absurd (false≢true (sym here ∙ (bytes_eq-Decides q key).1 (sym (contained key any))))
          by false false here any more = ap (λ (b : Bool). b || frees names rest id) any ∙ more (sym (ap (λ (b : Bool). b || list_any (bytes_eq q) rest) here) ∙ none)

  table_kept : (q : List ℕ) (k id : ℕ) → gone q ≡ false → is_kth_at names q k id ≡ true → table' id ≡ table id
  table_kept q k id stays is = freed id ∙ ap (λ (b : Bool). cond b None (table id)) (not_freed q k id stays is)

  sized_at : (q : List ℕ) (b : Bool) → gone q ≡ b → is_sized table' (cond b None (names q)) ≡ true
  sized_at q true is = refl
  sized_at q false is = sized_same table table' (names q) (λ k id here. table_kept q k id is here) (sound.sized q)

  kth_was : (q : List ℕ) (k id : ℕ) (b : Bool) → is_kth (blocks_at (cond b None (names q))) k id ≡ true → is_kth_at names q k id ≡ true
  kth_was q k id true is = absurd (no_kth k id is)
  kth_was q k id false is = is

  pub sound_without : Sound names' table'
  sound_without = record {
    rooted = rooted_from_tree names' tree';
    placed = placed_from_tree names' tree';
    sized = λ q. ap (is_sized table') (now q) ∙ sized_at q (gone q) refl;
    apart = apart_fewer names names' (λ q k id is. kth_was q k id (gone q) (ap (λ (o : Option Entry). is_kth (blocks_at o) k id) (sym (now q)) ∙ is)) sound.apart;
  }

  pub counted_without : (totals totals' : List ℕ → Option ℕ) → ((q : List ℕ) → totals' q ≡ cond (gone q) None (totals q)) → ((q : List ℕ) → is_counted table (names q) (totals q) ≡ true) → (q : List ℕ) → is_counted table' (names' q) (totals' q) ≡ true
  counted_without totals totals' left counted q = ap (λ (o : Option Entry). is_counted table' o (totals' q)) (now q) ∙ by (gone q) refl
    where
      by : (b : Bool) → gone q ≡ b → is_counted table' (cond b None (names q)) (totals' q) ≡ true
      by true is = refl
      by false is =
          ap (is_counted table' (names q)) (left q ∙ ap (λ (b : Bool). cond b None (totals q)) is)
          ∙ counted_same table table' (names q) (totals q) (λ k id here. table_kept q k id is here) (counted q)

  none_at : (b : Bool) (o : Option BlockEntry) → is_none o ≡ true → is_none (cond b None o) ≡ true
  none_at true o is = refl
  none_at false o is = is

  pub numbered_without : (id : ℕ) → is_none (table id) ≡ true → is_none (table' id) ≡ true
  numbered_without id is = ap is_none (freed id) ∙ none_at (frees names keys id) (table id) is

one_test : (n : ℕ) → not (eqb n 1) ≡ false → n ≡ 1
one_test n is = grind (arith, nat_tests)

more_test : (n : ℕ) → not (eqb n 1) ≡ true → n ≡ 1 → ⊥
more_test n is one = grind (arith, nat_tests)

-- the root is all that is named exactly where one is named
module _ {A : Type 0} (m : BTreeMap (String A) Entry) (rooted : is_dir (look m.entries root) ≡ true) where
  one_bare : (es : List (String A × Entry)) → length es ≡ 1 → is_dir (look es root) ≡ true → is_bare es ≡ true
  one_bare [] one dir = absurd (omega (arith, one))
  one_bare (e ∷ f ∷ es) one dir = absurd (omega (arith, one))
  one_bare (e ∷ []) one dir = by (is_at (λ k. slice_cmp nat_cmp root (string_bytes k)) e.0) (is_eq-slice_cmp root (string_bytes e.0)) dir
    where
      by : (b : Bool) → b ≡ bytes_eq root (string_bytes e.0) → is_dir (cond b (Some e.1) None) ≡ true → (bytes_eq root (string_bytes e.0) && is_dir (Some e.1)) ≡ true
      by true is dir = ap (λ (b : Bool). b && is_dir (Some e.1)) (sym is) ∙ dir
      by false is dir = absurd (false≢true dir)

  pub bare_one : not (eqb (length m.entries) 1) ≡ false → IsBare (look m.entries)
  bare_one one = bare_at m.entries (one_bare m.entries (one_test (length m.entries) one) rooted)

  -- each key is the root
  root_key : IsBare (look m.entries) → (k : String A) → IsSome (look m.entries (string_bytes k)) → root ≡ string_bytes k
  root_key bare k some = by (bytes_eq root (string_bytes k)) (bytes_eq-Decides root (string_bytes k)).0 (bare (string_bytes k))
    where
      by : (b : Bool) → (b ≡ true → root ≡ string_bytes k) → is_bare_at b (look m.entries (string_bytes k)) ≡ true → root ≡ string_bytes k
      by true same is = same refl
      by false same is = absurd (false≢true (sym (ap is_some (none_from_test (look m.entries (string_bytes k)) is)) ∙ some))

  pub one_from_bare : IsOrdered string_cmp m → IsBare (look m.entries) → length m.entries ≡ 1
  one_from_bare ordered bare = by m.entries refl
    where
      found : (e : String A × Entry) → get string_cmp m e.0 ≡ Some e.1 → IsSome (look m.entries (string_bytes e.0))
      found e is = ap is_some is

      all_found : All (λ e. get string_cmp m e.0 ≡ Some e.1) m.entries
      all_found = All-found string_cmp_total m ordered

      by : (es : List (String A × Entry)) → m.entries ≡ es → length es ≡ 1
      by [] is = absurd (false≢true (sym (ap (λ l. is_dir (look l root)) is) ∙ rooted))
      by (e ∷ []) is = refl
      by (e ∷ f ∷ es) is =
          let all = subst (All (λ e. get string_cmp m e.0 ≡ Some e.1)) is all_found in
          let first = root_key bare e.0 (found e (All-head (λ e. get string_cmp m e.0 ≡ Some e.1) e (f ∷ es) all)) in
          let second = root_key bare f.0 (found f (All-head (λ e. get string_cmp m e.0 ≡ Some e.1) f es (All-tail (λ e. get string_cmp m e.0 ≡ Some e.1) e (f ∷ es) all))) in
          let sorted = subst (λ l. IsStrictlySortedBy string_cmp (keys_of l)) is ordered in
          let less = All-head (λ q. string_cmp e.0 q ≡ Less) f.0 (keys_of es) (All-after_first string_cmp e.0 (keys_of (f ∷ es)) sorted) in
          let same : string_bytes e.0 ≡ string_bytes f.0 = sym first ∙ second in
          absurd (clash e.0 f.0 less same)
        where
          clash : (e f : String A) → string_cmp e f ≡ Less → string_bytes e ≡ string_bytes f → ⊥
          clash e f less same = false≢true (sym (ap is_eq less) ∙ is_eq-slice_cmp (string_bytes e) (string_bytes f) ∙ (bytes_eq-Decides (string_bytes e) (string_bytes f)).1 same)

  pub more_than_bare : IsOrdered string_cmp m → not (eqb (length m.entries) 1) ≡ true → IsBare (look m.entries) → ⊥
  more_than_bare ordered more bare = more_test (length m.entries) more (one_from_bare ordered bare)
