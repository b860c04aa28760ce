-- The places of failed nodes: there are some, they rise, and each is that of a node.
use Rattle.std.proofs.Common.{◌≡◌, ℕ, zero, suc, ◌+◌, ◌<◌, ◌≤◌, false, List, [], ◌∷◌, length, arith, inl, inr, suc-add}
use Rattle.std.specs.Prelude.{◌==◌, slice_index}
use Rattle.std.specs.List.{AllByRecursion}
use Rattle.std.specs.List.Sorted.{IsStrictlyIncreasing}
use Rattle.std.proofs.lemmas.Bool.{cases_Bool}
use Rattle.std.proofs.lemmas.List.Elements.{All-from_recursion}
use Rattle.hdfs_pipeline.specs.Places.{are_fine, failed_from, ArePlaces}

some_failed : (k : ℕ) (statuses : List ℕ) → are_fine statuses ≡ false → 0 < length (failed_from k statuses)
some_failed k [] bad = absurd (cc)
some_failed k (status ∷ statuses) bad = elim (cases_Bool (status == 0)) [
  | inl fine ↦ rw fine (some_failed (k + 1) statuses (rw fine at bad))
  | inr failed ↦ rw failed (omega arith)
]

weaker : (P Q : ℕ → Type 0) → ((x : ℕ) → P x → Q x) → (xs : List ℕ) → AllByRecursion P xs → AllByRecursion Q xs
weaker P Q h [] all = tt
weaker P Q h (x ∷ xs) all = (h x all.0, weaker P Q h xs all.1)

-- each place lies between the first one and the number of nodes
abbrev Between : ℕ → ℕ → ℕ → Type 0
Between k n place = (k ≤ place) × (place < k + n)

between_more : (k n : ℕ) (places : List ℕ) → AllByRecursion (Between (k + 1) n) places → AllByRecursion (Between k (suc n)) places
between_more k n places all = weaker (Between (k + 1) n) (Between k (suc n)) (λ place h. (omega (arith, h.0), omega (arith, h.1))) places all

between : (k : ℕ) (statuses : List ℕ) → AllByRecursion (Between k (length statuses)) (failed_from k statuses)
between k [] = tt
between k (status ∷ statuses) =
    let more = between_more k (length statuses) (failed_from (k + 1) statuses) (between (k + 1) statuses) in
    elim (cases_Bool (status == 0)) [
      | inl fine ↦ rw fine more
      | inr failed ↦ rw failed ((omega arith, omega arith), more)
    ]

first_one : (P : ℕ → Type 0) (xs : List ℕ) → AllByRecursion P xs → 0 < length xs → P (slice_index xs 0)
first_one P [] all some = absurd (omega arith)
first_one P (x ∷ xs) all some = all.0

rising_cons : (x : ℕ) (xs : List ℕ) → (0 < length xs → x < slice_index xs 0) → IsStrictlyIncreasing xs → IsStrictlyIncreasing (x ∷ xs)
rising_cons x xs first rises zero lt = first (omega arith)
rising_cons x xs first rises (suc k) lt = rw (suc-add k 1) (rises k (omega arith))

rising : (k : ℕ) (statuses : List ℕ) → IsStrictlyIncreasing (failed_from k statuses)
rising k [] = λ i lt. absurd (omega arith)
rising k (status ∷ statuses) =
    let places = failed_from (k + 1) statuses in
    elim (cases_Bool (status == 0)) [
      | inl fine ↦ rw fine (rising (k + 1) statuses)
      | inr failed ↦ rw failed (rising_cons k places (λ some. omega (arith, (first_one (Between (k + 1) (length statuses)) places (between (k + 1) statuses) some).0)) (rising (k + 1) statuses))
    ]

-- the places of statuses that aren't all 0
pub are_places : (nodes : ℕ) (statuses : List ℕ) → length statuses ≡ nodes → are_fine statuses ≡ false → ArePlaces nodes (failed_from 0 statuses)
are_places nodes statuses each bad = record {
  some = some_failed 0 statuses bad;
  rising = rising 0 statuses;
  within = All-from_recursion (λ place. place < nodes) (failed_from 0 statuses) (weaker (Between 0 (length statuses)) (λ place. place < nodes) (λ place h. omega (arith, h.1)) (failed_from 0 statuses) (between 0 statuses));
}
