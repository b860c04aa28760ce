-- What is put at a path, with directories above it, keeps a tree a tree.
use Rattle.std.proofs.Common.{◌≡◌, ◌≢◌, ◌⊎◌, inl, inr, ⊎_elim, ℕ, suc, zero, ◌<◌, Bool, true, false, not, cond, ◌&&◌, ◌||◌, List, [], ◌∷◌, ◌++◌, length, Option, Some, None, is_none, IsSome, refl, sym, ◌∙◌, ap, subst, arith, append_assoc}
use Rattle.std.proofs.lemmas.Bool.{false≢true}
use Rattle.std.proofs.lemmas.List.{length-append, get_or_append_left, get_or_default, append-nil}
use Rattle.std.proofs.lemmas.List.Folds.{list_all-append}
use Rattle.std.proofs.lemmas.List.Splits.{slice_split-cons_yes, length-slice_split}
use Rattle.std.proofs.lemmas.Bool.Decides.{nat_tests}
use Rattle.std.proofs.lemmas.Slice.Eq.{bytes_eq-Decides}
use Rattle.std.specs.List.{All, Contains, slice_index_or, list_any, list_all, slice_split, onto_first}
use Rattle.std.specs.Option.{unwrap_or}
use Rattle.std.specs.Str.{bytes_eq}
use Rattle.hdfs_cluster.specs.Files.{Kind, Directory, ClosedFile, OpenFile, IsTree, is_file}
use Rattle.hdfs_names.specs.Paths.{root, is_slash, is_component, is_path, above_from, ancestors, parent_of}
use Rattle.hdfs_cluster.specs.Refusals.{with_parents}

join_first : (parts more : List (List ℕ)) (x : ℕ) → 0 < length parts → onto_first x (parts ++ more) ≡ onto_first x parts ++ more
join_first [] more x some = absurd (omega (arith, some))
join_first (part ∷ parts) more x some = refl

split_step : (b : Bool) (x : ℕ) (whole front back : List (List ℕ)) → 0 < length front → whole ≡ front ++ back → cond b ([] ∷ whole) (onto_first x whole) ≡ cond b ([] ∷ front) (onto_first x front) ++ back
split_step true x whole front back some is = ap (λ (l : List (List ℕ)). [] ∷ l) is
split_step false x whole front back some is = ap (onto_first x) is ∙ join_first front back x some

-- the parts of a list that is cut at an element are those before it and those behind it
pub split_append : (p : ℕ → Bool) (xs : List ℕ) (y : ℕ) (ys : List ℕ) → p y ≡ true → slice_split p (xs ++ y ∷ ys) ≡ slice_split p xs ++ slice_split p ys
split_append p [] y ys cut = slice_split-cons_yes p y ys cut
split_append p (x ∷ xs) y ys cut = split_step (p x) x (slice_split p (xs ++ y ∷ ys)) (slice_split p xs) (slice_split p ys) (omega (arith, length-slice_split p xs)) (split_append p xs y ys cut)

-- what stands above two texts in a row
above_join : (before xs ys : List ℕ) → above_from before (xs ++ ys) ≡ above_from before xs ++ above_from (before ++ xs) ys
above_join before [] ys = ap (λ (l : List ℕ). above_from l ys) (sym (append-nil before))
above_join before (c ∷ xs) ys = by_test (is_slash c) (above_join (before ++ c ∷ []) xs ys ∙ ap (λ (l : List ℕ). above_from (before ++ c ∷ []) xs ++ above_from l ys) (append_assoc before (c ∷ []) xs))
  where
    by_test : (b : Bool) → above_from (before ++ c ∷ []) (xs ++ ys) ≡ above_from (before ++ c ∷ []) xs ++ above_from (before ++ c ∷ xs) ys
        → cond b (before ∷ above_from (before ++ c ∷ []) (xs ++ ys)) (above_from (before ++ c ∷ []) (xs ++ ys)) ≡ cond b (before ∷ above_from (before ++ c ∷ []) xs) (above_from (before ++ c ∷ []) xs) ++ above_from (before ++ c ∷ xs) ys
    by_test true is = ap (λ (l : List (List ℕ)). before ∷ l) is
    by_test false is = is

-- what stands above is a front of the text, and a slash follows it
record Fronts (before bytes a : List ℕ) : Type 0 where
  front : List ℕ
  back : List ℕ
  cut : bytes ≡ front ++ 47 ∷ back
  is : a ≡ before ++ front

slash_is : (c : ℕ) → is_slash c ≡ true → c ≡ 47
slash_is c is = grind (arith, nat_tests, is)

above_cases : (b : Bool) (before : List ℕ) (c : ℕ) (rest : List ℕ) (a : List ℕ) → is_slash c ≡ b → Contains (cond b (before ∷ above_from (before ++ c ∷ []) rest) (above_from (before ++ c ∷ []) rest)) a
    → ((c ≡ 47) × (before ≡ a)) ⊎ Contains (above_from (before ++ c ∷ []) rest) a
above_cases true before c rest a is (zero, lt, at) = inl (slash_is c is, at)
above_cases true before c rest a is (suc k, lt, at) = inr (k, omega (arith, lt), at)
above_cases false before c rest a is h = inr h

above_fronts : (before bytes a : List ℕ) → Contains (above_from before bytes) a → Fronts before bytes a
above_fronts before [] a h = absurd (omega (arith, h.1))
above_fronts before (c ∷ rest) a h =
    ⊎_elim
    (λ here. record { front = []; back = rest; cut = ap (λ (b : ℕ). b ∷ rest) here.0; is = sym here.1 ∙ sym (append-nil before) })
    (λ later. (let f = above_fronts (before ++ c ∷ []) rest a later in
    record { front = c ∷ f.front; back = f.back; cut = ap (λ (l : List ℕ). c ∷ l) f.cut; is = f.is ∙ append_assoc before (c ∷ []) f.front }))
    (above_cases (is_slash c) before c rest a refl h)

and_of : (a b : Bool) → (a && b) ≡ true → (a ≡ true) × (b ≡ true)
and_of true b both = (refl, both)
and_of false b both = absurd (false≢true both)

or_of : (a b : Bool) → (a || b) ≡ true → a ≡ false → b ≡ true
or_of true b one none = absurd (false≢true (sym none))
or_of false b one none = one

some_not_nil : (xs : List ℕ) (c : ℕ) (ys : List ℕ) → bytes_eq (xs ++ c ∷ ys) [] ≡ false
some_not_nil [] c ys = refl
some_not_nil (x ∷ xs) c ys = refl

or_true : (a b : Bool) → b ≡ true → (a || b) ≡ true
or_true true b is = refl
or_true false b is = is

and_true : (a b : Bool) → a ≡ true → b ≡ true → (a && b) ≡ true
and_true true b one two = two
and_true false b one two = absurd (false≢true one)

-- what stands above a path is a path, is shorter, and what stands above it stands above the path
pub ancestor_path : (path a : List ℕ) → is_path path ≡ true → Contains (ancestors path) a → (is_path a ≡ true) × (length a < length path) × ((P : List ℕ → Type 0) → All P (ancestors path) → All P (ancestors a))
ancestor_path [] a named h = absurd (omega (arith, h.1))
ancestor_path (c ∷ rest) a named h =
    let f = above_fronts (c ∷ []) rest a h in
    let parts = and_of (is_slash c) (bytes_eq rest [] || list_all is_component (slice_split is_slash rest)) named in
    let whole : list_all is_component (slice_split is_slash (f.front ++ 47 ∷ f.back)) ≡ true =
    subst (λ (l : List ℕ). list_all is_component (slice_split is_slash l) ≡ true) f.cut (or_of (bytes_eq rest []) (list_all is_component (slice_split is_slash rest)) parts.1 (ap (λ (l : List ℕ). bytes_eq l []) f.cut ∙ some_not_nil f.front 47 f.back)) in
    let both : (list_all is_component (slice_split is_slash f.front) && list_all is_component (slice_split is_slash f.back)) ≡ true =
    sym (list_all-append is_component (slice_split is_slash f.front) (slice_split is_slash f.back)) ∙ ap (list_all is_component) (sym (split_append is_slash f.front 47 f.back refl)) ∙ whole in
    let front = (and_of (list_all is_component (slice_split is_slash f.front)) (list_all is_component (slice_split is_slash f.back)) both).0 in
    let same : c ∷ f.front ≡ a = sym f.is in (
      subst (λ (l : List ℕ). is_path l ≡ true) same (and_true (is_slash c) (bytes_eq f.front [] || list_all is_component (slice_split is_slash f.front)) parts.0 (or_true (bytes_eq f.front []) (list_all is_component (slice_split is_slash f.front)) front)),
      omega (arith, ap length same, ap length f.cut, length-append f.front (47 ∷ f.back)),
      λ P all. subst (λ (l : List ℕ). All P (ancestors l)) same (front_of P (above_from (c ∷ []) f.front) (above_from (c ∷ f.front) (47 ∷ f.back)) (subst (All P) (ap (above_from (c ∷ [])) f.cut ∙ above_join (c ∷ []) f.front (47 ∷ f.back)) all)),
    )
  where
    front_of : (P : List ℕ → Type 0) (xs ys : List (List ℕ)) → All P (xs ++ ys) → All P xs
    front_of P xs ys all k d lt = subst P (get_or_append_left xs ys d k lt) (all k d (omega (arith, lt, length-append xs ys)))

any_from : (paths : List (List ℕ)) (q : List ℕ) → Contains paths q → list_any (bytes_eq q) paths ≡ true
any_from [] q h = absurd (omega (arith, h.1))
any_from (p ∷ paths) q (zero, lt, is) = ap (λ (b : Bool). b || list_any (bytes_eq q) paths) ((bytes_eq-Decides q p).1 (sym is))
any_from (p ∷ paths) q (suc k, lt, is) = or_true (bytes_eq q p) (list_any (bytes_eq q) paths) (any_from paths q (k, omega (arith, lt), is))

any_cases : (b : Bool) (paths : List (List ℕ)) (p q : List ℕ) → (b ≡ true → q ≡ p) → (b || list_any (bytes_eq q) paths) ≡ true → (list_any (bytes_eq q) paths ≡ true → Contains paths q) → Contains (p ∷ paths) q
any_cases true paths p q same any rest = (0, omega arith, sym (same refl))
any_cases false paths p q same any rest = (let h = rest any in (suc h.0, omega (arith, h.1), h.2))

pub any_contains : (paths : List (List ℕ)) (q : List ℕ) → list_any (bytes_eq q) paths ≡ true → Contains paths q
any_contains [] q is = absurd (false≢true is)
any_contains (p ∷ paths) q is = any_cases (bytes_eq q p) paths p q (bytes_eq-Decides q p).0 is (any_contains paths q)

-- no file stands above, and where a directory is at the path it is put there
module _ (kinds kinds' : List ℕ → Option Kind) (path : List ℕ) (new : Kind) (tree : IsTree kinds) (named : is_path path ≡ true) (clear : (a : List ℕ) → Contains (ancestors path) a → (kinds a ≡ None) ⊎ (kinds a ≡ Some Directory)) (free : kinds path ≡ Some Directory → new ≡ Directory)
    (now : (q : List ℕ) → kinds' q ≡ with_parents kinds Directory path new q) where
  -- what stands at a path: the new one; above it a directory; else what stood there
  cases : (q : List ℕ) → ((path ≡ q) × (kinds' q ≡ Some new)) ⊎ ((q ≢ path) × Contains (ancestors path) q × (kinds' q ≡ Some Directory)) ⊎ ((q ≢ path) × (kinds' q ≡ kinds q) × (Contains (ancestors path) q → ⊥))
  cases q = by_path (bytes_eq path q) refl
    where
      is_dir : (o : Option Kind) → (o ≡ None) ⊎ (o ≡ Some Directory) → Some (unwrap_or o Directory) ≡ Some Directory
      is_dir o (inl none) = ap (λ (x : Option Kind). Some (unwrap_or x Directory)) none
      is_dir o (inr there) = ap (λ (x : Option Kind). Some (unwrap_or x Directory)) there

      by_above : (b : Bool) → list_any (bytes_eq q) (ancestors path) ≡ b → q ≢ path → kinds' q ≡ cond b (Some (unwrap_or (kinds q) Directory)) (kinds q)
          → ((path ≡ q) × (kinds' q ≡ Some new)) ⊎ ((q ≢ path) × Contains (ancestors path) q × (kinds' q ≡ Some Directory)) ⊎ ((q ≢ path) × (kinds' q ≡ kinds q) × (Contains (ancestors path) q → ⊥))
      by_above true is apart h = (let there = any_contains (ancestors path) q is in inr (inl (apart, there, h ∙ is_dir (kinds q) (clear q there))))
      by_above false is apart h = inr (inr (apart, h, λ there. false≢true (sym is ∙ any_from (ancestors path) q there)))

      by_path : (b : Bool) → bytes_eq path q ≡ b → ((path ≡ q) × (kinds' q ≡ Some new)) ⊎ ((q ≢ path) × Contains (ancestors path) q × (kinds' q ≡ Some Directory)) ⊎ ((q ≢ path) × (kinds' q ≡ kinds q) × (Contains (ancestors path) q → ⊥))
      by_path true is =
          inl ((bytes_eq-Decides path q).0 is, now q ∙ ap (λ (b : Bool). cond b (Some new) (cond (list_any (bytes_eq q) (ancestors path)) (Some (unwrap_or (kinds q) Directory)) (kinds q))) is)
      by_path false is =
          by_above (list_any (bytes_eq q) (ancestors path)) refl (λ same. false≢true (sym is ∙ (bytes_eq-Decides path q).1 (sym same)))
          (now q ∙ ap (λ (b : Bool). cond b (Some new) (cond (list_any (bytes_eq q) (ancestors path)) (Some (unwrap_or (kinds q) Directory)) (kinds q))) is)

  -- a directory is one still
  dirs_stay : (q : List ℕ) → kinds q ≡ Some Directory → kinds' q ≡ Some Directory
  dirs_stay q there = ⊎_elim (λ same. same.1 ∙ ap Some (free (ap kinds same.0 ∙ there))) (λ other. ⊎_elim (λ above. above.2) (λ away. away.1 ∙ there) other) (cases q)

  -- what stands above the path is one now
  above_dirs : All (λ a. kinds' a ≡ Some Directory) (ancestors path)
  above_dirs k d lt =
      let a = slice_index_or (ancestors path) k d in
      let there : Contains (ancestors path) a = (k, lt, get_or_default (ancestors path) k a d lt) in
      let facts = ancestor_path path a named there in
      ⊎_elim (λ same. absurd (omega (arith, facts.1, ap length same.0))) (λ other. ⊎_elim (λ above. above.2) (λ away. absurd (away.2 there)) other) (cases a)

  pub tree_with_new : IsTree kinds'
  tree_with_new = record {
    root = dirs_stay root tree.root;
    above = λ q some. ⊎_elim
        (λ same. subst (λ (p : List ℕ). All (λ a. kinds' a ≡ Some Directory) (ancestors p)) same.0 above_dirs)
        (λ other. ⊎_elim
        (λ above. (ancestor_path path q named above.1).2 (λ a. kinds' a ≡ Some Directory) above_dirs)
        (λ away. (λ k d lt. dirs_stay (slice_index_or (ancestors q) k d) (tree.above q (subst IsSome away.1 some) k d lt)))
        other)
        (cases q);
    named = λ q some. ⊎_elim
        (λ same. subst (λ (p : List ℕ). is_path p ≡ true) same.0 named)
        (λ other. ⊎_elim (λ above. (ancestor_path path q named above.1).0) (λ away. tree.named q (subst IsSome away.1 some)) other)
        (cases q);
  }

pub kind_clear : (k : Option Kind) → is_file k ≡ false → (k ≡ None) ⊎ (k ≡ Some Directory)
kind_clear None is = inl refl
kind_clear (Some Directory) is = inr refl
kind_clear (Some ClosedFile) is = absurd (false≢true (sym is))
kind_clear (Some OpenFile) is = absurd (false≢true (sym is))

or_false : (a b : Bool) → (a || b) ≡ false → (a ≡ false) × (b ≡ false)
or_false true b is = absurd (false≢true (sym is))
or_false false b is = (refl, is)

pub none_is_file : (kinds : List ℕ → Option Kind) (paths : List (List ℕ)) (a : List ℕ) → list_any (λ p. is_file (kinds p)) paths ≡ false → Contains paths a → is_file (kinds a) ≡ false
none_is_file kinds [] a none h = absurd (omega (arith, h.1))
none_is_file kinds (p ∷ paths) a none (zero, lt, is) = ap (λ (q : List ℕ). is_file (kinds q)) (sym is) ∙ (or_false (is_file (kinds p)) (list_any (λ q. is_file (kinds q)) paths) none).0
none_is_file kinds (p ∷ paths) a none (suc k, lt, is) = none_is_file kinds paths a (or_false (is_file (kinds p)) (list_any (λ q. is_file (kinds q)) paths) none).1 (k, omega (arith, lt), is)
