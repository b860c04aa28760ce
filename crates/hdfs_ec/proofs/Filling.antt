-- Places whose missing data shards are filled.
use Rattle.std.proofs.Common.{◌≡◌, ℕ, ◌+◌, ◌<◌, ◌≤◌, List, [], length, get_or, take, All, Option, Some, None, inl, inr, refl, sym, ap, subst, ◌∙◌, arith}
use Rattle.std.specs.List.Sorted.{IsStrictlyIncreasing}
use Rattle.std.proofs.lemmas.List.{get_or-take, length-take-le}
use Rattle.std.proofs.lemmas.List.Elements.{All-from_get_or}
use Rattle.hdfs_ec.specs.Coding.{AreDataShards, place, held_before, held, empty_places, AllHeld, HoldShardsOf, AreFilled, HoldData}
use Rattle.hdfs_ec.specs.Places.{IsRestored, ArePut}
use Rattle.hdfs_ec.proofs.Occupancy.{EmptyAt, empty_at, empty_rises, is_empty_number, both_count, held_most, what_stands}

-- the empty places among the first ones
module _ (units n : ℕ) (places : List (Option (List ℕ))) (count : length places ≡ n) (few : units ≤ n) (missing : List ℕ) (is : missing ≡ empty_places (take units places)) where
  pub missing_rise : IsStrictlyIncreasing missing
  missing_rise = subst IsStrictlyIncreasing (sym is) (empty_rises 0 (take units places))

  size : length (take units places) ≡ units
  size = length-take-le units places (omega arith)

  missing_at : (j : ℕ) → j < length missing → EmptyAt 0 (take units places) (get_or missing j 0)
  missing_at j lt =
      let same = ap length is in
      subst (λ (xs : List ℕ). EmptyAt 0 (take units places) (get_or xs j 0)) (sym is) (empty_at 0 (take units places) j (omega arith))

  pub missing_below : (j : ℕ) → j < length missing → get_or missing j 0 < units
  missing_below j lt =
      let at = missing_at j lt in
      let within = at.within in
      let number = at.is in
      let all = size in
      omega arith

  pub missing_within : All (λ i. i < units) missing
  missing_within = All-from_get_or (λ i. i < units) missing 0 missing_below

  pub missing_none : (j : ℕ) → j < length missing → place places (get_or missing j 0) ≡ None
  missing_none j lt =
      let at = missing_at j lt in
      let within = at.within in
      let all = size in
      let number : get_or missing j 0 ≡ at.at = let e = at.is in omega arith in
      ap (place places) number ∙ sym (get_or-take units places at.at None (omega arith)) ∙ at.none

  -- an empty place among the first ones is one of them
  pub found : (i : ℕ) → i < units → place places i ≡ None → (j : ℕ) × (j < length missing) × (get_or missing j 0 ≡ i)
  found i lt none =
      let all = size in
      let at = is_empty_number 0 (take units places) i (omega arith) (get_or-take units places i None lt ∙ none) in
      let within = at.1 in
      let number = at.2 in
      let same = ap length is in
      (at.0, omega arith, ap (λ (xs : List ℕ). get_or xs at.0 0) is ∙ number ∙ (let z : 0 + i ≡ i = omega arith in z))

  pub both : held_before units places + length missing ≡ units
  both = let all = both_count 0 units places (omega arith) in let same = ap length is in omega arith

  pub all_held : length missing ≡ 0 → AllHeld units places
  all_held none = let all = both in omega arith

  pub not_all_held : 0 < length missing → AllHeld units places → ⊥
  not_all_held some held = let all = both in absurd (omega arith)

  -- ---- the data shards

  module _ (originals : List (List ℕ)) (data_shards : AreDataShards units originals) (hold : HoldShardsOf originals places) where
    kept_data : (i : ℕ) (shard : List ℕ) → i < units → place places i ≡ Some shard → shard ≡ get_or originals i []
    kept_data i shard lt holds =
        let count = data_shards.even.size in
        let most = held_most i places in
        let of = hold i shard holds (omega arith) in
        of.given (omega arith)

    pub data_as_it_is : length missing ≡ 0 → HoldData originals places
    data_as_it_is none i lt =
        let count = data_shards.even.size in
        elim (what_stands (place places i)) [
          | inl empty ↦ let at = found i (omega arith) empty in let in_missing = at.1 in absurd (omega arith)
          | inr holds ↦ holds.1 ∙ ap (λ (s : List ℕ). Some s) (kept_data i holds.0 (omega arith) holds.1)
        ]

  pub filled_as_it_is : length missing ≡ 0 → AreFilled units places places
  filled_as_it_is none = record {
    count = refl;
    kept = λ i shard holds. holds;
    parity = λ i le. refl;
    filled = λ size i all lt. elim (what_stands (place places i)) [
      | inl empty ↦ let at = found i lt empty in let in_missing = at.1 in absurd (omega arith)
      | inr holds ↦ (holds.0, holds.1, all i holds.0 holds.1)
    ];
  }

  -- ---- after the missing ones were put

  module _ (restored : List (List ℕ)) (new : List (Option (List ℕ))) (are_put : ArePut (length missing) missing restored places new) (are : IsRestored units places missing restored) where
    kept_place : (i : ℕ) (shard : List ℕ) → place places i ≡ Some shard → place new i ≡ place places i
    kept_place i shard holds = are_put.left i (λ j lt e. absurd (clash (sym (missing_none j lt) ∙ ap (place places) e ∙ holds)))
      where
        clash : None ≡ Some shard → ⊥
        clash e = cc

    filled_place : (i j : ℕ) → j < length missing → get_or missing j 0 ≡ i → place new i ≡ Some (get_or restored j [])
    filled_place i j lt number = ap (place new) (sym number) ∙ are_put.put j lt

    pub data_is_put : (originals : List (List ℕ)) → AreDataShards units originals → HoldShardsOf originals places → HoldData originals new
    data_is_put originals data_shards hold i lt =
        let count = data_shards.even.size in
        elim (what_stands (place places i)) [
          | inl empty ↦
              let at = found i (omega arith) empty in
              filled_place i at.0 at.1 at.2 ∙ ap (λ (s : List ℕ). Some s) (are.data_shards originals data_shards hold at.0 at.1 ∙ ap (λ (k : ℕ). get_or originals k []) at.2)
          | inr holds ↦ kept_place i holds.0 holds.1 ∙ holds.1 ∙ ap (λ (s : List ℕ). Some s) (kept_data originals data_shards hold i holds.0 (omega arith) holds.1)
        ]

    pub filled_is_put : AreFilled units places new
    filled_is_put = record {
      count = are_put.count;
      kept = λ i shard holds. kept_place i shard holds ∙ holds;
      parity = λ i le. are_put.left i (λ j lt e. let below = missing_below j lt in absurd (omega arith));
      filled = λ size i all lt. elim (what_stands (place places i)) [
        | inl empty ↦ let at = found i lt empty in (get_or restored at.0 [], filled_place i at.0 at.1 at.2, are.long size all at.0 at.1)
        | inr holds ↦ (holds.0, kept_place i holds.0 holds.1 ∙ holds.1, all i holds.0 holds.1)
      ];
    }
