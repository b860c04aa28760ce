-- How the shards that are there and the empty places split the data shards.
use Rattle.std.proofs.Common.{◌≡◌, ◌≢◌, ℕ, zero, suc, ◌+◌, ◌-◌, ◌<◌, ◌≤◌, List, [], ◌∷◌, length, get_or, take, Option, Some, None, inl, inr, sym, ap, ◌∙◌, arith}
use Rattle.std.proofs.lemmas.Bool.{cases_lt}
use Rattle.std.proofs.lemmas.List.{get_or-take}
use Rattle.hdfs_ec.specs.Coding.{IsCode, ArePlaces, place, held_before, empty_places}
use Rattle.hdfs_ec.specs.Places.{held_from, held_shards}
use Rattle.hdfs_ec.specs.Restoring.{AreSplit}
use Rattle.hdfs_ec.proofs.Occupancy.{what_stands}
use Rattle.hdfs_ec.proofs.Filling.{missing_rise, missing_below, missing_none, found, both}
use Rattle.hdfs_ec.proofs.Decoding.{numbers_count, numbers_rise, numbers_within, first_at}

-- more places hold no fewer shards
more_held : (a b : ℕ) (places : List (Option (List ℕ))) → a ≤ b → held_before a places ≤ held_before b places
unfolding held_before
more_held zero b places le = omega arith
more_held (suc a) zero places le = absurd (omega arith)
more_held (suc a) (suc b) [] le = omega arith
more_held (suc a) (suc b) (None ∷ places) le = omega (arith, more_held a b places (omega arith))
more_held (suc a) (suc b) (Some shard ∷ places) le = omega (arith, more_held a b places (omega arith))

-- a shard counts
one_held : (i : ℕ) (places : List (Option (List ℕ))) (shard : List ℕ) → place places i ≡ Some shard → held_before (suc i) places ≡ suc (held_before i places)
unfolding held_before
one_held zero [] shard e = absurd cc
one_held zero (None ∷ places) shard e = absurd cc
one_held zero (Some other ∷ places) shard e = omega arith
one_held (suc i) [] shard e = absurd cc
one_held (suc i) (None ∷ places) shard e = omega (arith, one_held i places shard e)
one_held (suc i) (Some other ∷ places) shard e = omega (arith, one_held i places shard e)

-- the number of a shard stands behind those of the shards before it
is_held_number : (s : ℕ) (places : List (Option (List ℕ))) (i : ℕ) (shard : List ℕ) → place places i ≡ Some shard → get_or (held_from s places) (held_before i places) 0 ≡ s + i
unfolding held_from held_before
is_held_number s [] i shard e = absurd cc
is_held_number s (None ∷ places) zero shard e = absurd cc
is_held_number s (None ∷ places) (suc i) shard e =
    ap (λ (k : ℕ). get_or (held_from (suc s) places) k 0) (let z : 0 + held_before i places ≡ held_before i places = omega arith in z)
    ∙ is_held_number (suc s) places i shard e ∙ (let z : suc s + i ≡ s + suc i = omega arith in z)
is_held_number s (Some other ∷ places) zero shard e = omega arith
is_held_number s (Some other ∷ places) (suc i) shard e =
    ap (λ (k : ℕ). get_or (s ∷ held_from (suc s) places) k 0) (let z : 1 + held_before i places ≡ suc (held_before i places) = omega arith in z)
    ∙ is_held_number (suc s) places i shard e ∙ (let z : suc s + i ≡ s + suc i = omega arith in z)

module _ (units parity : ℕ) (code : IsCode units parity) (places : List (Option (List ℕ))) (are : ArePlaces (units + parity) places) (enough : units ≤ length (held_from 0 places))
    (missing : List ℕ) (some : 0 < length missing) (is : missing ≡ empty_places (take units places)) where
  abbrev numbers : List ℕ
  numbers = take units (held_from 0 places)

  few : units ≤ units + parity
  few = omega arith

  counted : held_before units places + length missing ≡ units
  counted = both units (units + parity) places are.count few missing is

  in_front : (i : ℕ) → i < units - length missing → get_or numbers i 0 < units
  in_front i lt =
      let all = counted in
      let at = first_at units parity code places are enough i (omega arith) in
      let number = at.is in
      let before = at.before in
      elim (cases_lt at.at units) [
        | inl below ↦ omega arith
        | inr above ↦ let more = more_held units at.at places above in absurd (omega arith)
      ]

  behind : (i : ℕ) → units - length missing ≤ i → i < units → units ≤ get_or numbers i 0
  behind i le lt =
      let all = counted in
      let at = first_at units parity code places are enough i lt in
      let number = at.is in
      let before = at.before in
      let one = one_held at.at places (get_or (take units (held_shards places)) i []) at.holds in
      elim (cases_lt at.at units) [
        | inl below ↦ let more = more_held (suc at.at) units places (omega arith) in absurd (omega arith)
        | inr above ↦ omega arith
      ]

  apart : (i j : ℕ) → i < units - length missing → j < length missing → get_or numbers i 0 ≢ get_or missing j 0
  apart i j lt in_missing same =
      let at = first_at units parity code places are enough i (omega arith) in
      let number : get_or numbers i 0 ≡ at.at = let e = at.is in omega arith in
      clash (get_or (take units (held_shards places)) i [])
      (sym (missing_none units (units + parity) places are.count few missing is j in_missing) ∙ ap (place places) (sym same ∙ number) ∙ at.holds)
    where
      clash : (shard : List ℕ) → None ≡ Some shard → ⊥
      clash shard e = cc

  stands : (c : ℕ) (shard : List ℕ) → c < units → place places c ≡ Some shard → (i : ℕ) × (i < units - length missing) × (get_or numbers i 0 ≡ c)
  stands c shard lt holds =
      let all = counted in
      let one = one_held c places shard holds in
      let more = more_held (suc c) units places (omega arith) in
      let before : held_before c places < units = omega arith in (
        held_before c places,
        omega arith,
        get_or-take units (held_from 0 places) (held_before c places) 0 before ∙ is_held_number 0 places c shard holds ∙ (let z : 0 + c ≡ c = omega arith in z),
      )

  pub places_split : AreSplit units parity (take units (held_from 0 places)) (units - length missing) missing
  places_split =
      let all = counted in
      let count = numbers_count units parity code places are enough in
      record {
        code = code;
        count = count;
        size = omega arith;
        some = some;
        held_rise = numbers_rise units parity code places are enough;
        missing_rise = missing_rise units (units + parity) places are.count few missing is;
        in_data = in_front;
        in_parity = λ i le lt. (behind i le lt, numbers_within units parity code places are enough i 0 (omega arith));
        lost = missing_below units (units + parity) places are.count few missing is;
        apart = apart;
        whole = λ c lt. elim (what_stands (place places c)) [
          | inl none ↦ inr (found units (units + parity) places are.count few missing is c lt none)
          | inr held ↦ inl (stands c held.0 lt held.1)
        ];
      }
