-- Datanodes by their places.
use Rattle.std.proofs.Common.{◌≡◌, ℕ, ◌+◌, ◌<◌, ◌≤◌, true, false, ◌==◌, List, [], ◌∷◌, ◌++◌, length, drop, Option, refl, sym, ◌∙◌, ap, subst, arith, append_assoc, append-nil, get_or}
use Rattle.std.proofs.lemmas.Bool.{cond-true, cond-false}
use Rattle.std.proofs.lemmas.List.{drop_all, drop_more, length_push}
use Rattle.std.specs.List.{All, enumerate_from, list_any}
use Rattle.std.proofs.lemmas.List.FromFn.{get_or-enumerate_from, length-enumerate_from}
use Rattle.std.proofs.lemmas.Option.{slice_get_read}
use Rattle.hdfs_cluster.specs.declared.messages.DatanodeInfo.{DatanodeInfo}
use Rattle.hdfs_rebuild.specs.Plans.{nodes_at, one_before, without}
use Rattle.hdfs_rebuild.specs.Replacing.{place_of}

none_behind : (others : List DatanodeInfo) → place_of others [] ≡ 0
none_behind [] = refl
none_behind (other ∷ others) = refl

-- Behind the end of the longer list nothing differs.
pub ends_short : (others nodes : List DatanodeInfo) (k : ℕ) → length nodes ≤ k → place_of others (drop k nodes) ≡ 0
ends_short others nodes k past = ap (place_of others) (drop_all k nodes past) ∙ none_behind others

-- One place more was picked: its datanode stands behind those of the places before.
pub picked_one : (nodes : List DatanodeInfo) (places : List ℕ) (k : ℕ) (node : DatanodeInfo) (copied before : List DatanodeInfo)
    → k < length places → All (λ place. place < length nodes) places → node ≡ get_or nodes (get_or places k 0) node
    → before ++ nodes_at nodes (drop k places) ≡ nodes_at nodes places → copied ≡ before ++ node ∷ []
    → copied ++ nodes_at nodes (drop (k + 1) places) ≡ nodes_at nodes places
picked_one nodes places k node copied before lt within is so_far now =
    let got = slice_get_read nodes (length nodes) (get_or places k 0) node refl (within k 0 lt) is in
    let here = ap (nodes_at nodes) (drop_more places k 0 lt)
    ∙ ap (λ (o : Option DatanodeInfo). one_before o (nodes_at nodes (drop (k + 1) places))) got in
    ap (λ (xs : List DatanodeInfo). xs ++ nodes_at nodes (drop (k + 1) places)) now
    ∙ append_assoc before (node ∷ []) (nodes_at nodes (drop (k + 1) places))
    ∙ ap (λ (xs : List DatanodeInfo). before ++ xs) (sym here)
    ∙ so_far

skipped : {T : Type 0} (places : List ℕ) (items : List T) (n next : ℕ) (item : T) → n < length items → next ≡ n + 1
    → list_any (λ place. place == n) places ≡ true → without n places (drop n items) ≡ without next places (drop next items)
skipped places items n next item lt is any =
    ap (without n places) (drop_more items n item lt)
    ∙ cond-true (list_any (λ place. place == n) places) (without (n + 1) places (drop (n + 1) items))
    (get_or items n item ∷ without (n + 1) places (drop (n + 1) items)) any
    ∙ ap (λ (k : ℕ). without k places (drop k items)) (sym is)

kept : {T : Type 0} (places : List ℕ) (items : List T) (n next : ℕ) (item : T) → n < length items → next ≡ n + 1 → item ≡ get_or items n item
    → list_any (λ place. place == n) places ≡ false → without n places (drop n items) ≡ item ∷ without next places (drop next items)
kept {T} places items n next item lt is here any =
    ap (without n places) (drop_more items n item lt)
    ∙ cond-false (list_any (λ place. place == n) places) (without (n + 1) places (drop (n + 1) items))
    (get_or items n item ∷ without (n + 1) places (drop (n + 1) items)) any
    ∙ ap (λ (x : T). x ∷ without (n + 1) places (drop (n + 1) items)) (sym here)
    ∙ ap (λ (k : ℕ). item ∷ without k places (drop k items)) (sym is)

-- One item more was looked at: it is left out where its place is among those, and else it stands behind the ones before.
module _ {T : Type 0} (places : List ℕ) (items : List T) (yielded : List (ℕ × T)) (at : ℕ) (item : T) (before : List T)
    (turn : (length yielded < length (enumerate_from 0 items))
    × ◌≡◌ {A = ℕ × T} (at, item) (get_or (enumerate_from 0 items) (length yielded) (at, item)))
    (so_far : before ++ without (length yielded) places (drop (length yielded) items) ≡ without 0 places items) where
  lt : length yielded < length items
  lt = omega (arith, turn.0, length-enumerate_from 0 items)

  here : ◌≡◌ {A = ℕ × T} (at, item) (length yielded, get_or items (length yielded) item)
  here =
      turn.1 ∙ get_or-enumerate_from 0 items (length yielded) (at, item) lt
      ∙ ap (λ (k : ℕ). (k, get_or items (length yielded) item)) (omega arith)

  place : at ≡ length yielded
  place = ap (λ (p : ℕ × T). p.0) here

  next : length (yielded ++ (at, item) ∷ []) ≡ length yielded + 1
  next = length_push yielded (at, item)

  pub gone : list_any (λ place. place == at) places ≡ true
      → before ++ without (length (yielded ++ (at, item) ∷ [])) places (drop (length (yielded ++ (at, item) ∷ [])) items)
      ≡ without 0 places items
  gone any =
      ap (λ (xs : List T). before ++ xs)
      (sym (skipped places items (length yielded) (length (yielded ++ (at, item) ∷ [])) item lt next
      (subst (λ (k : ℕ). list_any (λ place. place == k) places ≡ true) place any)))
      ∙ so_far

  pub stays : list_any (λ place. place == at) places ≡ false → (left : List T) → left ≡ before ++ item ∷ []
      → left ++ without (length (yielded ++ (at, item) ∷ [])) places (drop (length (yielded ++ (at, item) ∷ [])) items)
      ≡ without 0 places items
  stays any left is =
      let rest = without (length (yielded ++ (at, item) ∷ [])) places (drop (length (yielded ++ (at, item) ∷ [])) items) in
      ap (λ (xs : List T). xs ++ rest) is
      ∙ append_assoc before (item ∷ []) rest
      ∙ ap (λ (xs : List T). before ++ xs)
      (sym (kept places items (length yielded) (length (yielded ++ (at, item) ∷ [])) item lt next (ap (λ (p : ℕ × T). p.1) here)
      (subst (λ (k : ℕ). list_any (λ place. place == k) places ≡ false) place any)))
      ∙ so_far

-- All items were looked at.
pub looked : {T : Type 0} (places : List ℕ) (items left : List T) (n : ℕ) → length items ≤ n
    → left ++ without n places (drop n items) ≡ without 0 places items → left ≡ without 0 places items
looked {T} places items left n past so_far =
    sym (append-nil left) ∙ ap (λ (xs : List T). left ++ xs) (sym (ap (without n places) (drop_all n items past))) ∙ so_far
