-- What is taken away is what stands at a path and below it: that is what begins with the path and a slash.
use Rattle.std.proofs.Common.{◌≡◌, ◌≢◌, ℕ, zero, suc, ◌<◌, Bool, true, false, cond, not, ◌||◌, ◌&&◌, eqb, List, [], ◌∷◌, ◌++◌, length, take, drop, get_or, Option, Some, None, is_some, is_none, IsSome, append_assoc, length-append, refl, sym, ◌∙◌, ap, subst, arith}
use Rattle.std.proofs.lemmas.Bool.{false≢true, eqb-true, eq-eqb}
use Rattle.std.proofs.lemmas.Bool.Decides.{nat_tests}
use Rattle.std.proofs.lemmas.List.{take-append-drop}
use Rattle.std.proofs.Math.Seq.{take-append_seam}
use Rattle.std.proofs.lemmas.List.Elements.{All-cons, All-head, All-nil, All-tail}
use Rattle.std.proofs.lemmas.List.Folds.{list_any-append}
use Rattle.std.proofs.lemmas.Slice.Eq.{bytes_eq-Decides}
use Rattle.std.specs.List.{All, Contains, list_all, list_any}
use Rattle.std.specs.Str.{bytes_eq}
use Rattle.hdfs_cluster.specs.declared.picture.BlockEntry.{BlockEntry}
use Rattle.hdfs_cluster.specs.declared.picture.Entry.{Entry}
use Rattle.hdfs_cluster.specs.Deleting.{DeletesFrom, IsBlockWithin}
use Rattle.hdfs_cluster.specs.Effects.{blocks_at}
use Rattle.hdfs_cluster.specs.Names.{HasBelow, is_below, is_within}
use Rattle.hdfs_names.specs.Paths.{root, ancestors, above_from, is_path, is_slash}
use Rattle.hdfs_mem_namenode.specs.Changing.{IsClosed, frees}
use Rattle.hdfs_mem_namenode.specs.Memory.{is_dir, is_placed}
use Rattle.hdfs_cluster.proofs.Loads.{and_parts}
use Rattle.hdfs_mem_namenode.proofs.Below.{IsInFront}

pub below_from : (dir x : List ℕ) → is_below dir ((dir ++ 47 ∷ []) ++ x) ≡ true
below_from dir x = (bytes_eq-Decides (dir ++ 47 ∷ []) (take (length (dir ++ 47 ∷ [])) ((dir ++ 47 ∷ []) ++ x))).1 (sym (take-append_seam (dir ++ 47 ∷ []) x))

pub below_to : (dir path : List ℕ) → is_below dir path ≡ true → (x : List ℕ) × (path ≡ (dir ++ 47 ∷ []) ++ x)
below_to dir path is =
    let front = (bytes_eq-Decides (dir ++ 47 ∷ []) (take (length (dir ++ 47 ∷ [])) path)).0 is in
    (drop (length (dir ++ 47 ∷ [])) path, sym (take-append-drop (length (dir ++ 47 ∷ [])) path) ∙ ap (λ (l : List ℕ). l ++ drop (length (dir ++ 47 ∷ [])) path) (sym front))

or_left : (a b : Bool) → a ≡ true → (a || b) ≡ true
or_left a b is = ap (λ (x : Bool). x || b) is

or_right : (a b : Bool) → b ≡ true → (a || b) ≡ true
or_right true b is = refl
or_right false b is = is

-- what stands above a path is what it begins with, before a slash
above_all : (before rest : List ℕ) → All (λ a. (r : List ℕ) × (before ++ rest ≡ a ++ 47 ∷ r)) (above_from before rest)
above_all before [] = All-nil (λ a. (r : List ℕ) × (before ++ [] ≡ a ++ 47 ∷ r))
above_all before (c ∷ rest) =
    by (is_slash c) refl (subst (λ (l : List ℕ). All (λ a. (r : List ℕ) × (l ≡ a ++ 47 ∷ r)) (above_from (before ++ c ∷ []) rest)) (append_assoc before (c ∷ []) rest) (above_all (before ++ c ∷ []) rest))
  where
    by : (b : Bool) → is_slash c ≡ b → All (λ a. (r : List ℕ) × (before ++ c ∷ rest ≡ a ++ 47 ∷ r)) (above_from (before ++ c ∷ []) rest)
        → All (λ a. (r : List ℕ) × (before ++ c ∷ rest ≡ a ++ 47 ∷ r)) (cond b (before ∷ above_from (before ++ c ∷ []) rest) (above_from (before ++ c ∷ []) rest))
    by true is tail = All-cons (λ a. (r : List ℕ) × (before ++ c ∷ rest ≡ a ++ 47 ∷ r)) before (above_from (before ++ c ∷ []) rest) (rest, ap (λ (n : ℕ). before ++ n ∷ rest) (eqb-true c 47 is)) tail
    by false is tail = tail

all_above : (path : List ℕ) → All (λ a. (r : List ℕ) × (path ≡ a ++ 47 ∷ r)) (ancestors path)
all_above [] = All-nil (λ a. (r : List ℕ) × ([] ≡ a ++ 47 ∷ r))
all_above (c ∷ rest) = above_all (c ∷ []) rest

-- one of a list passes a test
any_with : (test : List ℕ → Bool) (P : List ℕ → Type 0) (paths : List (List ℕ)) → list_any test paths ≡ true → All P paths → (a : List ℕ) × (test a ≡ true) × P a
any_with test P [] is all = absurd (false≢true is)
any_with test P (a ∷ paths) is all = by (test a) refl (λ any. any_with test P paths any (All-tail P a paths all))
  where
    by : (b : Bool) → test a ≡ b → (list_any test paths ≡ true → (x : List ℕ) × (test x ≡ true) × P x) → (x : List ℕ) × (test x ≡ true) × P x
    by true here more = (a, here, All-head P a paths all)
    by false here more = more (sym (ap (λ (x : Bool). x || list_any test paths) here) ∙ is)

-- one of them is a member
any_member : (test : List ℕ → Bool) (paths : List (List ℕ)) → list_any test paths ≡ true → (a : List ℕ) × (list_any (bytes_eq a) paths ≡ true) × (test a ≡ true)
any_member test [] is = absurd (false≢true is)
any_member test (a ∷ paths) is = by (test a) refl (any_member test paths)
  where
    by : (b : Bool) → test a ≡ b → (list_any test paths ≡ true → (x : List ℕ) × (list_any (bytes_eq x) paths ≡ true) × (test x ≡ true)) → (x : List ℕ) × (list_any (bytes_eq x) (a ∷ paths) ≡ true) × (test x ≡ true)
    by true here more = (a, or_left (bytes_eq a a) (list_any (bytes_eq a) paths) ((bytes_eq-Decides a a).1 refl), here)
    by false here more = (let rest = more (sym (ap (λ (x : Bool). x || list_any test paths) here) ∙ is) in (rest.0, or_right (bytes_eq rest.0 a) (list_any (bytes_eq rest.0) paths) rest.1, rest.2))

member_any : (test : List ℕ → Bool) (paths : List (List ℕ)) (a : List ℕ) → list_any (bytes_eq a) paths ≡ true → test a ≡ true → list_any test paths ≡ true
member_any test [] a among is = absurd (false≢true among)
member_any test (p ∷ paths) a among is = by (bytes_eq a p) refl (λ rest. member_any test paths a rest is)
  where
    by : (b : Bool) → bytes_eq a p ≡ b → (list_any (bytes_eq a) paths ≡ true → list_any test paths ≡ true) → (test p || list_any test paths) ≡ true
    by true same more = or_left (test p) (list_any test paths) (subst (λ (x : List ℕ). test x ≡ true) ((bytes_eq-Decides a p).0 same) is)
    by false same more = or_right (test p) (list_any test paths) (more (sym (ap (λ (x : Bool). x || list_any (bytes_eq a) paths) same) ∙ among))

contains_path : (paths : List (List ℕ)) (a : List ℕ) → Contains paths a → list_any (bytes_eq a) paths ≡ true
contains_path [] a is = absurd (omega (arith, is.1))
contains_path (p ∷ paths) a is = by is.0 is.1 is.2 (contains_path paths a)
  where
    by : (k : ℕ) → k < length (p ∷ paths) → get_or (p ∷ paths) k a ≡ a → (Contains paths a → list_any (bytes_eq a) paths ≡ true) → (bytes_eq a p || list_any (bytes_eq a) paths) ≡ true
    by zero lt same more = or_left (bytes_eq a p) (list_any (bytes_eq a) paths) ((bytes_eq-Decides a p).1 (sym same))
    by (suc k) lt same more = or_right (bytes_eq a p) (list_any (bytes_eq a) paths) (more (k, omega (arith, lt), same))

contains_id : (ids : List ℕ) (id : ℕ) → Contains ids id → list_any (λ o. eqb o id) ids ≡ true
contains_id [] id is = absurd (omega (arith, is.1))
contains_id (o ∷ ids) id is = by is.0 is.1 is.2 (contains_id ids id)
  where
    by : (k : ℕ) → k < length (o ∷ ids) → get_or (o ∷ ids) k id ≡ id → (Contains ids id → list_any (λ o. eqb o id) ids ≡ true) → (eqb o id || list_any (λ o. eqb o id) ids) ≡ true
    by zero lt same more = or_left (eqb o id) (list_any (λ o. eqb o id) ids) (eq-eqb o id same)
    by (suc k) lt same more = or_right (eqb o id) (list_any (λ o. eqb o id) ids) (more (k, omega (arith, lt), same))

id_contained : (ids : List ℕ) (id : ℕ) → list_any (λ o. eqb o id) ids ≡ true → Contains ids id
id_contained [] id is = absurd (false≢true is)
id_contained (o ∷ ids) id is = by (eqb o id) refl (id_contained ids id)
  where
    by : (b : Bool) → eqb o id ≡ b → (list_any (λ o. eqb o id) ids ≡ true → Contains ids id) → Contains (o ∷ ids) id
    by true same more = (0, omega arith, eqb-true o id same)
    by false same more = (let h = more (sym (ap (λ (x : Bool). x || list_any (λ o. eqb o id) ids) same) ∙ is) in (suc h.0, omega (arith, h.1), h.2))

or_end : (a b : Bool) → (a || (b || false)) ≡ true → (a ≡ false) → b ≡ true
or_end true b is none = absurd (false≢true (sym none))
or_end false true is none = refl
or_end false false is none = is

-- the path, and what was found below it
module _ (names : List ℕ → Option Entry) (src : List ℕ) (ks : List (List ℕ)) (fronts : All (IsInFront names (src ++ 47 ∷ [])) ks) (all : (x : List ℕ) → IsSome (names ((src ++ 47 ∷ []) ++ x)) → Contains ks ((src ++ 47 ∷ []) ++ x)) where
  abbrev pub keys : List (List ℕ)
  keys = ks ++ src ∷ []

  abbrev gone : List ℕ → Bool
  gone q = list_any (bytes_eq q) keys

  -- what goes is within
  gone_within : (q : List ℕ) → gone q ≡ true → is_within src q ≡ true
  gone_within q is = by (list_any (bytes_eq q) ks) refl
    where
      by : (b : Bool) → list_any (bytes_eq q) ks ≡ b → is_within src q ≡ true
      by true found =
          let h = any_with (bytes_eq q) (IsInFront names (src ++ 47 ∷ [])) ks found fronts in
          let same : q ≡ (src ++ 47 ∷ []) ++ h.2.0.0 = (bytes_eq-Decides q h.0).0 h.1 ∙ h.2.0.1 in
          or_right (bytes_eq src q) (is_below src q) (subst (λ (p : List ℕ). is_below src p ≡ true) (sym same) (below_from src h.2.0.0))
      by false none =
          or_left (bytes_eq src q) (is_below src q)
          ((bytes_eq-Decides src q).1 (sym ((bytes_eq-Decides q src).0 (or_end (list_any (bytes_eq q) ks) (bytes_eq q src) (sym (list_any-append (bytes_eq q) ks (src ∷ [])) ∙ is) none))))

  -- what is within and there goes
  within_gone : (q : List ℕ) → IsSome (names q) → is_within src q ≡ true → gone q ≡ true
  within_gone q some is = list_any-append (bytes_eq q) ks (src ∷ []) ∙ by (bytes_eq src q) refl
    where
      by : (b : Bool) → bytes_eq src q ≡ b → (list_any (bytes_eq q) ks || (bytes_eq q src || false)) ≡ true
      by true same = or_right (list_any (bytes_eq q) ks) (bytes_eq q src || false) (or_left (bytes_eq q src) false ((bytes_eq-Decides q src).1 (sym ((bytes_eq-Decides src q).0 same))))
      by false apart =
          let below = below_to src q (sym (ap (λ (x : Bool). x || is_below src q) apart) ∙ is) in
          or_left (list_any (bytes_eq q) ks) (bytes_eq q src || false)
          (contains_path ks q (subst (Contains ks) (sym below.1) (all below.0 (subst (λ (p : List ℕ). IsSome (names p)) below.1 some))))

  -- what is above a path within is within, or the path is below it
  within_below : (a q r : List ℕ) → q ≡ a ++ 47 ∷ r → is_within src a ≡ true → is_within src q ≡ true
  within_below a q r is within = or_right (bytes_eq src q) (is_below src q) (by (bytes_eq src a) refl)
    where
      by : (b : Bool) → bytes_eq src a ≡ b → is_below src q ≡ true
      by true same =
          let q_is : q ≡ (src ++ 47 ∷ []) ++ r = is ∙ ap (λ (l : List ℕ). l ++ 47 ∷ r) (sym ((bytes_eq-Decides src a).0 same)) ∙ sym (append_assoc src (47 ∷ []) r) in
          subst (λ (p : List ℕ). is_below src p ≡ true) (sym q_is) (below_from src r)
      by false apart =
          let below = below_to src a (sym (ap (λ (x : Bool). x || is_below src a) apart) ∙ within) in
          let q_is : q ≡ (src ++ 47 ∷ []) ++ (below.0 ++ 47 ∷ r) = is ∙ ap (λ (l : List ℕ). l ++ 47 ∷ r) below.1 ∙ append_assoc (src ++ 47 ∷ []) below.0 (47 ∷ r) in
          subst (λ (p : List ℕ). is_below src p ≡ true) (sym q_is) (below_from src (below.0 ++ 47 ∷ r))

  pub keys_closed : IsClosed names keys
  keys_closed q some any =
      let h = any_with gone (λ a. (r : List ℕ) × (q ≡ a ++ 47 ∷ r)) (ancestors q) any (all_above q) in
      within_gone q some (within_below h.0 q h.2.0 h.2.1 (gone_within h.0 h.1))

  pub keys_not_root : src ≢ root → src ≢ [] → list_any (bytes_eq root) keys ≡ false
  keys_not_root apart some = by (gone root) refl
    where
      within : is_within src root ≡ true → ⊥
      within is = by_same (bytes_eq src root) refl
        where
          by_same : (b : Bool) → bytes_eq src root ≡ b → ⊥
          by_same true same = apart ((bytes_eq-Decides src root).0 same)
          by_same false other =
              let below = below_to src root (sym (ap (λ (x : Bool). x || is_below src root) other) ∙ is) in
              some (empty src (omega (arith, ap length below.1, length-append (src ++ 47 ∷ []) below.0, length-append src (47 ∷ []))))
            where
              empty : (l : List ℕ) → length l ≡ 0 → l ≡ []
              empty [] is = refl
              empty (c ∷ l) is = absurd (omega (arith, is))

      by : (b : Bool) → gone root ≡ b → b ≡ false
      by true is = absurd (within (gone_within root is))
      by false is = refl

  module _ (table : ℕ → Option BlockEntry) (names' : List ℕ → Option Entry) (table' : ℕ → Option BlockEntry) (now : (q : List ℕ) → names' q ≡ cond (gone q) None (names q)) (freed : (id : ℕ) → table' id ≡ cond (frees names keys id) None (table id)) where
    named_at : (q : List ℕ) (o : Option Entry) → names q ≡ o → cond (gone q) None o ≡ cond (is_within src q) None o
    named_at q None is = nothing (gone q) None refl ∙ sym (nothing (is_within src q) None refl)
      where
        nothing : (a : Bool) (o : Option Entry) → o ≡ None → cond a None o ≡ None
        nothing true o none = refl
        nothing false o none = none
    named_at q (Some entry) is = ap (λ (b : Bool). cond b None (Some entry)) (alike (gone q) (is_within src q) (gone_within q) (within_gone q (ap is_some is)))
      where
        alike : (a b : Bool) → (a ≡ true → b ≡ true) → (b ≡ true → a ≡ true) → a ≡ b
        alike true b f g = sym (f refl)
        alike false true f g = g refl
        alike false false f g = refl

    some_blocks : (o : Option Entry) (id : ℕ) → Contains (blocks_at o) id → IsSome o
    some_blocks None id has = absurd (omega (arith, has.1))
    some_blocks (Some entry) id has = refl

    freed_within : (id : ℕ) → IsBlockWithin names src id → frees names keys id ≡ true
    freed_within id has =
        member_any (λ key. list_any (λ o. eqb o id) (blocks_at (names key))) keys has.path (within_gone has.path (some_blocks (names has.path) id has.has) has.within) (contains_id (blocks_at (names has.path)) id has.has)

    kept_else : (id : ℕ) → (IsBlockWithin names src id → ⊥) → frees names keys id ≡ false
    kept_else id none = by (frees names keys id) refl
      where
        by : (b : Bool) → frees names keys id ≡ b → b ≡ false
        by true is =
            let h = any_member (λ key. list_any (λ o. eqb o id) (blocks_at (names key))) keys is in
            absurd (none (record { path = h.0; within = gone_within h.0 h.1; has = id_contained (blocks_at (names h.0)) id h.2 }))
        by false is = refl

    pub deletes : (recursive : Bool) → IsSome (names src) → src ≢ root → (recursive ≡ false → ks ≡ []) → DeletesFrom names table src recursive names' table'
    deletes recursive there apart alone = record {
      there = there;
      not_root = apart;
      alone = λ only below. (let h = below_to src below.path below.below in
          nothing_in ks (alone only) ((src ++ 47 ∷ []) ++ h.0) (all h.0 (subst (λ (p : List ℕ). IsSome (names p)) h.1 below.there)));
      named = λ q. now q ∙ named_at q (names q) refl;
      gone = λ id has. freed id ∙ ap (λ (b : Bool). cond b None (table id)) (freed_within id has);
      stay = λ id none. freed id ∙ ap (λ (b : Bool). cond b None (table id)) (kept_else id none);
    }
      where
        nothing_in : (l : List (List ℕ)) → l ≡ [] → (x : List ℕ) → Contains l x → ⊥
        nothing_in l none x has = (let h = subst (λ (l : List (List ℕ)). Contains l x) none has in omega (arith, h.1))

  -- a path that was found is below
  pub found_below : (ks ≡ [] → ⊥) → HasBelow names src
  found_below some = by ks fronts some
    where
      by : (l : List (List ℕ)) → All (IsInFront names (src ++ 47 ∷ [])) l → (l ≡ [] → ⊥) → HasBelow names src
      by [] f some = absurd (some refl)
      by (k ∷ l) f some =
          let h = All-head (IsInFront names (src ++ 47 ∷ [])) k l f in
          record { path = k; below = subst (λ (p : List ℕ). is_below src p ≡ true) (sym h.0.1) (below_from src h.0.0); there = h.1 }

pub named_path : (names : List ℕ → Option Entry) (src : List ℕ) → is_placed names src ≡ true → IsSome (names src) → src ≢ []
named_path names src placed some empty = by (names src) some placed empty
  where
    by : (o : Option Entry) → IsSome o → (is_none o || (is_path src && list_all (λ a. is_dir (names a)) (ancestors src))) ≡ true → src ≡ [] → ⊥
    by None some placed empty = false≢true some
    by (Some entry) some placed empty = false≢true (sym (ap is_path empty) ∙ (and_parts (is_path src) (list_all (λ a. is_dir (names a)) (ancestors src)) placed).0)

pub none_kept : (recursive : Bool) (ks : List (List ℕ)) → (not recursive && not (eqb (length ks) 0)) ≡ false → recursive ≡ false → ks ≡ []
none_kept true ks is only = absurd (false≢true (sym only))
none_kept false [] is only = refl
none_kept false (k ∷ ks) is only = absurd (false≢true (sym is ∙ ap not (apart (length ks))))
  where
    apart : (n : ℕ) → eqb (suc n) 0 ≡ false
    apart n = grind (arith, nat_tests)

pub some_kept : (recursive : Bool) (ks : List (List ℕ)) → (not recursive && not (eqb (length ks) 0)) ≡ true → (recursive ≡ false) × (ks ≡ [] → ⊥)
some_kept true ks is = absurd (false≢true is)
some_kept false [] is = absurd (false≢true is)
some_kept false (k ∷ ks) is = (refl, λ none. cc)
