-- Places that may hold a shard: their numbers, and the shards in them.
use Rattle.std.proofs.Common.{◌≡◌, ◌≢◌, ℕ, zero, suc, ◌+◌, ◌<◌, ◌≤◌, ◌⊎◌, Bool, true, false, cond, List, [], ◌∷◌, ◌++◌, length, get_or, set, take, Option, Some, None, inl, inr, refl, sym, ap, subst, ◌∙◌, arith}
use Rattle.std.specs.Prelude.{is_some}
use Rattle.std.specs.List.Sorted.{IsStrictlyIncreasing}
use Rattle.std.proofs.lemmas.Bool.{cases_eq}
use Rattle.std.specs.List.{zip}
use Rattle.std.proofs.lemmas.Slice.Zip.{length-zip, get_or-zip}
use Rattle.std.proofs.lemmas.List.Kept.{AllPairs-from_increasing}
use Rattle.std.proofs.lemmas.List.{length-set, get_or-set_same, get_or-set_other, get_or_read, take_more, length-take-le, append-nil}
use Rattle.hdfs_ec.specs.Coding.{place, held_before, empty_from, empty_places}
use Rattle.hdfs_ec.specs.Places.{held_from, held_shards, ArePut}

abbrev pub Places : Type 0
Places = List (Option (List ℕ))

-- ---- one more place

pub held_push : (s : ℕ) (xs : Places) (x : Option (List ℕ)) → held_from s (xs ++ x ∷ []) ≡ held_from s xs ++ cond (is_some x) ((s + length xs) ∷ []) []
unfolding held_from
held_push s [] None = refl
held_push s [] (Some shard) = ap (λ (k : ℕ). k ∷ []) (let e : s ≡ s + 0 = omega arith in e)
held_push s (None ∷ xs) x = held_push (suc s) xs x ∙ ap (λ (k : ℕ). held_from (suc s) xs ++ cond (is_some x) (k ∷ []) []) (let e : suc s + length xs ≡ s + suc (length xs) = omega arith in e)
held_push s (Some shard ∷ xs) x =
    ap (λ (ys : List ℕ). s ∷ ys)
    (held_push (suc s) xs x ∙ ap (λ (k : ℕ). held_from (suc s) xs ++ cond (is_some x) (k ∷ []) []) (let e : suc s + length xs ≡ s + suc (length xs) = omega arith in e))

pub empty_push : (s : ℕ) (xs : Places) (x : Option (List ℕ)) → empty_from s (xs ++ x ∷ []) ≡ empty_from s xs ++ cond (is_some x) [] ((s + length xs) ∷ [])
unfolding empty_from
empty_push s [] None = ap (λ (k : ℕ). k ∷ []) (let e : s ≡ s + 0 = omega arith in e)
empty_push s [] (Some shard) = refl
empty_push s (None ∷ xs) x =
    ap (λ (ys : List ℕ). s ∷ ys)
    (empty_push (suc s) xs x ∙ ap (λ (k : ℕ). empty_from (suc s) xs ++ cond (is_some x) [] (k ∷ [])) (let e : suc s + length xs ≡ s + suc (length xs) = omega arith in e))
empty_push s (Some shard ∷ xs) x = empty_push (suc s) xs x ∙ ap (λ (k : ℕ). empty_from (suc s) xs ++ cond (is_some x) [] (k ∷ [])) (let e : suc s + length xs ≡ s + suc (length xs) = omega arith in e)

-- the shard of a place as a list
abbrev pub at_most_one : Option (List ℕ) → List (List ℕ)
at_most_one None = []
at_most_one (Some shard) = shard ∷ []

pub shards_push : (xs : Places) (x : Option (List ℕ)) → held_shards (xs ++ x ∷ []) ≡ held_shards xs ++ at_most_one x
unfolding held_shards
shards_push [] None = refl
shards_push [] (Some shard) = refl
shards_push (None ∷ xs) x = shards_push xs x
shards_push (Some shard ∷ xs) x = ap (λ (ys : List (List ℕ)). shard ∷ ys) (shards_push xs x)

module _ (places : Places) (i : ℕ) (lt : i < length places) where
  size_is : 0 + length (take i places) ≡ i
  size_is = omega (arith, length-take-le i places (omega arith))

  pub held_more : held_from 0 (take (i + 1) places) ≡ held_from 0 (take i places) ++ cond (is_some (place places i)) (i ∷ []) []
  held_more =
      ap (held_from 0) (take_more places i None lt) ∙ held_push 0 (take i places) (place places i)
      ∙ ap (λ (k : ℕ). held_from 0 (take i places) ++ cond (is_some (place places i)) (k ∷ []) []) size_is

  pub empty_more : empty_places (take (i + 1) places) ≡ empty_places (take i places) ++ cond (is_some (place places i)) [] (i ∷ [])
  empty_more =
      ap (empty_from 0) (take_more places i None lt) ∙ empty_push 0 (take i places) (place places i)
      ∙ ap (λ (k : ℕ). empty_from 0 (take i places) ++ cond (is_some (place places i)) [] (k ∷ [])) size_is

  pub shards_more : held_shards (take (i + 1) places) ≡ held_shards (take i places) ++ at_most_one (place places i)
  shards_more = ap held_shards (take_more places i None lt) ∙ shards_push (take i places) (place places i)

  -- what a list that is made up to place i becomes, where the place holds a shard and where it is empty
  pub held_taken : (numbers numbers' : List ℕ) → is_some (place places i) ≡ true → numbers ≡ held_from 0 (take i places) → numbers' ≡ numbers ++ i ∷ [] → numbers' ≡ held_from 0 (take (i + 1) places)
  held_taken numbers numbers' some so more =
      more ∙ ap (λ (xs : List ℕ). xs ++ i ∷ []) so ∙ ap (λ (b : Bool). held_from 0 (take i places) ++ cond b (i ∷ []) []) (sym some) ∙ sym held_more

  pub held_skipped : (numbers numbers' : List ℕ) → is_some (place places i) ≡ false → numbers ≡ held_from 0 (take i places) → numbers' ≡ numbers → numbers' ≡ held_from 0 (take (i + 1) places)
  held_skipped numbers numbers' none so same =
      same ∙ so ∙ sym (append-nil (held_from 0 (take i places))) ∙ ap (λ (b : Bool). held_from 0 (take i places) ++ cond b (i ∷ []) []) (sym none) ∙ sym held_more

  pub empty_taken : (numbers numbers' : List ℕ) → is_some (place places i) ≡ false → numbers ≡ empty_places (take i places) → numbers' ≡ numbers ++ i ∷ [] → numbers' ≡ empty_places (take (i + 1) places)
  empty_taken numbers numbers' none so more =
      more ∙ ap (λ (xs : List ℕ). xs ++ i ∷ []) so ∙ ap (λ (b : Bool). empty_places (take i places) ++ cond b [] (i ∷ [])) (sym none) ∙ sym empty_more

  pub empty_skipped : (numbers numbers' : List ℕ) → is_some (place places i) ≡ true → numbers ≡ empty_places (take i places) → numbers' ≡ numbers → numbers' ≡ empty_places (take (i + 1) places)
  empty_skipped numbers numbers' some so same =
      same ∙ so ∙ sym (append-nil (empty_places (take i places))) ∙ ap (λ (b : Bool). empty_places (take i places) ++ cond b [] (i ∷ [])) (sym some) ∙ sym empty_more

  pub shard_taken : (shards shards' : List (List ℕ)) (shard : List ℕ) → place places i ≡ Some shard → shards ≡ held_shards (take i places) → shards' ≡ shards ++ shard ∷ [] → shards' ≡ held_shards (take (i + 1) places)
  shard_taken shards shards' shard some so more =
      more ∙ ap (λ (xs : List (List ℕ)). xs ++ shard ∷ []) so ∙ ap (λ (o : Option (List ℕ)). held_shards (take i places) ++ at_most_one o) (sym some) ∙ sym shards_more

  pub shard_skipped : (shards shards' : List (List ℕ)) → place places i ≡ None → shards ≡ held_shards (take i places) → shards' ≡ shards → shards' ≡ held_shards (take (i + 1) places)
  shard_skipped shards shards' none so same =
      same ∙ so ∙ sym (append-nil (held_shards (take i places))) ∙ ap (λ (o : Option (List ℕ)). held_shards (take i places) ++ at_most_one o) (sym none) ∙ sym shards_more

-- before the first place
pub held_none : held_from 0 [] ≡ []
unfolding held_from
held_none = refl

pub empty_none : empty_places [] ≡ []
unfolding empty_from
empty_none = refl

pub shards_none : held_shards [] ≡ []
unfolding held_shards
shards_none = refl

-- shards that are put into their places one after another
module _ (numbers : List ℕ) (shards : List (List ℕ)) (old : Places) where
  pub put_none : ArePut 0 numbers shards old old
  put_none = record { count = refl; put = λ j lt. absurd (omega arith); left = λ i off. refl }

  pub put_more : (n i : ℕ) (shard : List ℕ) (new : Places) → ArePut n numbers shards old new → IsStrictlyIncreasing numbers → n < length numbers → i ≡ get_or numbers n 0 → shard ≡ get_or shards n []
      → i < length old → ArePut (n + 1) numbers shards old (set new i (Some shard))
  put_more n i shard new h rising lt at is within =
      let count = h.count in
      let here : i < length new = omega arith in
      record {
        count = length-set new i (Some shard) ∙ count;
        put = λ j below. elim (cases_eq j n) [
          | inl e ↦
              ap (place (set new i (Some shard))) (ap (λ (k : ℕ). get_or numbers k 0) e ∙ sym at) ∙ get_or-set_same new i (Some shard) None here
              ∙ ap (λ (s : List ℕ). Some s) is ∙ ap (λ (k : ℕ). Some (get_or shards k [])) (sym e)
          | inr off ↦
              let before : get_or numbers j 0 < get_or numbers n 0 = AllPairs-from_increasing numbers rising j n 0 (omega arith) lt in
              get_or-set_other new i (get_or numbers j 0) (Some shard) None (omega arith) ∙ h.put j (omega arith)
        ];
        left = λ k off.
            let apart : k ≢ i = λ e. off n (omega arith) (sym at ∙ sym e) in
            get_or-set_other new i k (Some shard) None apart ∙ h.left k (λ j below. off j (omega arith));
      }

-- ---- what stands at the numbers

-- a place that holds a shard: where it stands, and how many do before it
pub record HeldAt (s : ℕ) (places : Places) (k number : ℕ) (shard : List ℕ) : Type 0 where
  pub at : ℕ
  pub within : at < length places
  pub is : number ≡ s + at
  pub holds : place places at ≡ Some shard
  pub before : held_before at places ≡ k

pub held_at : (s : ℕ) (places : Places) (k : ℕ) → k < length (held_from s places) → HeldAt s places k (get_or (held_from s places) k 0) (get_or (held_shards places) k [])
unfolding held_from held_shards held_before
held_at s [] k lt = absurd (omega arith)
held_at s (None ∷ places) k lt =
    let rest = held_at (suc s) places k lt in
    let within = rest.within in
    let is = rest.is in
    record { at = suc rest.at; within = omega arith; is = omega arith; holds = rest.holds; before = omega (arith, rest.before) }
held_at s (Some shard ∷ places) zero lt = record { at = 0; within = omega arith; is = omega arith; holds = refl; before = refl }
held_at s (Some shard ∷ places) (suc k) lt =
    let rest = held_at (suc s) places k (omega arith) in
    let within = rest.within in
    let is = rest.is in
    record { at = suc rest.at; within = omega arith; is = omega arith; holds = rest.holds; before = omega (arith, rest.before) }

pub held_rises : (s : ℕ) (places : Places) → IsStrictlyIncreasing (held_from s places)
unfolding held_from
held_rises s [] k lt = absurd (omega arith)
held_rises s (None ∷ places) k lt = held_rises (suc s) places k lt
held_rises s (Some shard ∷ places) zero lt =
    let next = held_at (suc s) places 0 (omega arith) in
    let is = next.is in
    omega arith
held_rises s (Some shard ∷ places) (suc k) lt =
    let P : ℕ → Type 0 = λ x. get_or (held_from (suc s) places) k 0 < get_or (s ∷ held_from (suc s) places) x 0 in
    let e : suc (k + 1) ≡ suc k + 1 = omega arith in
    subst P e (held_rises (suc s) places k (omega arith))

pub shards_count : (s : ℕ) (places : Places) → length (held_shards places) ≡ length (held_from s places)
unfolding held_from held_shards
shards_count s [] = refl
shards_count s (None ∷ places) = shards_count (suc s) places
shards_count s (Some shard ∷ places) = ap suc (shards_count (suc s) places)

pub held_count : (s : ℕ) (places : Places) → length (held_from s places) ≡ held_before (length places) places
unfolding held_from held_before
held_count s [] = refl
held_count s (None ∷ places) = omega (arith, held_count (suc s) places)
held_count s (Some shard ∷ places) = omega (arith, held_count (suc s) places)

-- a place that is empty
pub record EmptyAt (s : ℕ) (places : Places) (number : ℕ) : Type 0 where
  pub at : ℕ
  pub within : at < length places
  pub is : number ≡ s + at
  pub none : place places at ≡ None

pub empty_at : (s : ℕ) (places : Places) (k : ℕ) → k < length (empty_from s places) → EmptyAt s places (get_or (empty_from s places) k 0)
unfolding empty_from
empty_at s [] k lt = absurd (omega arith)
empty_at s (Some shard ∷ places) k lt =
    let rest = empty_at (suc s) places k lt in
    let within = rest.within in
    let is = rest.is in
    record { at = suc rest.at; within = omega arith; is = omega arith; none = rest.none }
empty_at s (None ∷ places) zero lt = record { at = 0; within = omega arith; is = omega arith; none = refl }
empty_at s (None ∷ places) (suc k) lt =
    let rest = empty_at (suc s) places k (omega arith) in
    let within = rest.within in
    let is = rest.is in
    record { at = suc rest.at; within = omega arith; is = omega arith; none = rest.none }

pub empty_rises : (s : ℕ) (places : Places) → IsStrictlyIncreasing (empty_from s places)
unfolding empty_from
empty_rises s [] k lt = absurd (omega arith)
empty_rises s (Some shard ∷ places) k lt = empty_rises (suc s) places k lt
empty_rises s (None ∷ places) zero lt =
    let next = empty_at (suc s) places 0 (omega arith) in
    let is = next.is in
    omega arith
empty_rises s (None ∷ places) (suc k) lt =
    let P : ℕ → Type 0 = λ x. get_or (empty_from (suc s) places) k 0 < get_or (s ∷ empty_from (suc s) places) x 0 in
    let e : suc (k + 1) ≡ suc k + 1 = omega arith in
    subst P e (empty_rises (suc s) places k (omega arith))

-- an empty place's number is among those of the empty places
pub is_empty_number : (s : ℕ) (places : Places) (i : ℕ) → i < length places → place places i ≡ None → (j : ℕ) × (j < length (empty_from s places)) × (get_or (empty_from s places) j 0 ≡ s + i)
unfolding empty_from
is_empty_number s [] i lt none = absurd (omega arith)
is_empty_number s (Some shard ∷ places) zero lt none = absurd cc
is_empty_number s (Some shard ∷ places) (suc i) lt none =
    let rest = is_empty_number (suc s) places i (omega arith) none in
    let is = rest.2 in
    (rest.0, rest.1, omega arith)
is_empty_number s (None ∷ places) zero lt none = (0, omega arith, omega arith)
is_empty_number s (None ∷ places) (suc i) lt none =
    let rest = is_empty_number (suc s) places i (omega arith) none in
    let in_rest = rest.1 in
    let is = rest.2 in
    (suc rest.0, omega arith, omega arith)

-- of the first places, those that hold a shard and the empty ones are all
pub both_count : (s n : ℕ) (places : Places) → n ≤ length places → held_before n places + length (empty_from s (take n places)) ≡ n
unfolding held_before empty_from
both_count s zero places le = refl
both_count s (suc n) [] le = absurd (omega arith)
both_count s (suc n) (None ∷ places) le = omega (arith, both_count (suc s) n places (omega arith))
both_count s (suc n) (Some shard ∷ places) le = omega (arith, both_count (suc s) n places (omega arith))

pub held_most : (n : ℕ) (places : Places) → held_before n places ≤ n
unfolding held_before
held_most zero places = omega arith
held_most (suc n) [] = omega arith
held_most (suc n) (None ∷ places) = omega (arith, held_most n places)
held_most (suc n) (Some shard ∷ places) = omega (arith, held_most n places)

-- what stands in a place
pub what_stands : (o : Option (List ℕ)) → (o ≡ None) ⊎ ((shard : List ℕ) × (o ≡ Some shard))
what_stands None = inl refl
what_stands (Some shard) = inr (shard, refl)

-- the number and the shard that stand at one place of two lists
pub record PairAt (numbers : List ℕ) (shards : List (List ℕ)) (n i : ℕ) (shard : List ℕ) : Type 0 where
  pub within : n < length numbers
  pub number : i ≡ get_or numbers n 0
  pub item : shard ≡ get_or shards n []

pub pair_at : (numbers : List ℕ) (shards : List (List ℕ)) (n i : ℕ) (shard : List ℕ) → n < length (zip numbers shards) → (i, shard) ≡ get_or (zip numbers shards) n (i, shard) → PairAt numbers shards n i shard
pair_at numbers shards n i shard lt is =
    let size = length-zip numbers shards in
    let left : n < length numbers = omega arith in
    let right : n < length shards = omega arith in
    let both = is ∙ get_or-zip numbers shards n (i, shard) left right in
    record {
      within = left;
      number = get_or_read numbers n i left (ap (λ (p : ℕ × List ℕ). p.0) both) 0;
      item = get_or_read shards n shard right (ap (λ (p : ℕ × List ℕ). p.1) both) [];
    }
