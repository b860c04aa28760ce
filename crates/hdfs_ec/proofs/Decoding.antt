-- Lost data shards from the shards that are there.
use Rattle.std.proofs.Common.{◌≡◌, ℕ, ◌+◌, ◌<◌, ◌≤◌, List, [], length, get_or, take, All, Option, inl, inr, sym, ap, subst, ◌∙◌, arith}
use Rattle.std.specs.List.Sorted.{IsStrictlyIncreasing}
use Rattle.std.proofs.lemmas.Bool.{cases_lt}
use Rattle.std.proofs.lemmas.List.{get_or-take, length-take-le}
use Rattle.std.proofs.lemmas.List.Elements.{All-from_get_or}
use Rattle.std.proofs.lemmas.Grind.{same_number_lists}
use Rattle.std.proofs.Math.Nat.{mod-eq_of_lt}
use Rattle.hdfs_field.specs.declared.gf256.GF256.{GF256}
use Rattle.hdfs_field.specs.Rings.{Operations, IsCommutativeRing}
use Rattle.hdfs_field.specs.Elements.{element, gf256}
use Rattle.hdfs_field.specs.FieldLaws.{gf256_lawful}
use Rattle.hdfs_field.specs.Matrices.{entry, total, unit_at}
use Rattle.hdfs_ec.specs.Coding.{coefficient, coding_at, IsCode, AreDataShards, IsShardOf, ArePlaces, HoldShardsOf}
use Rattle.hdfs_field.specs.Slices.{byte_at, AreCombined, AreEven}
use Rattle.hdfs_ec.specs.Restoring.{Restores}
use Rattle.hdfs_ec.specs.Places.{held_from, held_shards, IsRestored}
use Rattle.hdfs_field.proofs.Totals.{total_same, total_exchange, total_scaled, total_left_unit}
use Rattle.hdfs_ec.proofs.Codes.{coding_above, coding_below}
use Rattle.hdfs_field.proofs.Combining.{element_back}
use Rattle.hdfs_ec.proofs.Occupancy.{HeldAt, held_at, held_rises, shards_count}

-- a row times a matrix times a column
module _ {T : Type 0} (ring : Operations T) (laws : IsCommutativeRing ring) (n : ℕ) (x : ℕ → T) (y : ℕ → ℕ → T) (v : ℕ → T) where
  inner : (c : ℕ) → total ring n (λ i. ring.product (x i) (ring.product (y i c) (v c))) ≡ ring.product (total ring n (λ i. ring.product (x i) (y i c))) (v c)
  inner c =
      total_same ring laws n (λ i. ring.product (x i) (ring.product (y i c) (v c))) (λ i. ring.product (v c) (ring.product (x i) (y i c)))
      (λ i lt. sym (laws.product_assoc (x i) (y i c) (v c)) ∙ laws.product_comm (ring.product (x i) (y i c)) (v c))
      ∙ total_scaled ring laws n (v c) (λ i. ring.product (x i) (y i c)) ∙ laws.product_comm (v c) (total ring n (λ i. ring.product (x i) (y i c)))

  pub row_times_rows : total ring n (λ i. ring.product (x i) (total ring n (λ c. ring.product (y i c) (v c)))) ≡ total ring n (λ c. ring.product (total ring n (λ i. ring.product (x i) (y i c))) (v c))
  row_times_rows =
      total_same ring laws n (λ i. ring.product (x i) (total ring n (λ c. ring.product (y i c) (v c)))) (λ i. total ring n (λ c. ring.product (x i) (ring.product (y i c) (v c))))
      (λ i lt. sym (total_scaled ring laws n (x i) (λ c. ring.product (y i c) (v c))))
      ∙ total_exchange ring laws n n (λ i c. ring.product (x i) (ring.product (y i c) (v c)))
      ∙ total_same ring laws n (λ c. total ring n (λ i. ring.product (x i) (ring.product (y i c) (v c)))) (λ c. ring.product (total ring n (λ i. ring.product (x i) (y i c))) (v c))
      (λ c lt. inner c)

-- the first shards that are there, as many as there are data shards
module _ (units parity : ℕ) (code : IsCode units parity) (places : List (Option (List ℕ))) (are : ArePlaces (units + parity) places) (enough : units ≤ length (held_from 0 places)) where
  abbrev numbers : List ℕ
  numbers = take units (held_from 0 places)

  abbrev shards : List (List ℕ)
  shards = take units (held_shards places)

  pub numbers_count : length (take units (held_from 0 places)) ≡ units
  numbers_count = length-take-le units (held_from 0 places) enough

  pub shards_size : length (take units (held_shards places)) ≡ units
  shards_size = let same = shards_count 0 places in length-take-le units (held_shards places) (omega arith)

  pub first_at : (k : ℕ) → k < units → HeldAt 0 places k (get_or numbers k 0) (get_or shards k [])
  first_at k lt =
      let same = shards_count 0 places in
      let left = get_or-take units (held_from 0 places) k 0 lt in
      let right = get_or-take units (held_shards places) k [] lt in
      subst (λ (s : List ℕ). HeldAt 0 places k (get_or numbers k 0) s) (sym right)
      (subst (λ (r : ℕ). HeldAt 0 places k r (get_or (held_shards places) k [])) (sym left) (held_at 0 places k (omega arith)))

  pub numbers_rise : IsStrictlyIncreasing (take units (held_from 0 places))
  numbers_rise k lt =
      let count = numbers_count in
      let here = get_or-take units (held_from 0 places) k 0 (omega arith) in
      let next = get_or-take units (held_from 0 places) (k + 1) 0 (omega arith) in
      let rise = held_rises 0 places k (omega arith) in
      omega arith

  pub numbers_within : All (λ r. r < units + parity) (take units (held_from 0 places))
  numbers_within = All-from_get_or (λ r. r < units + parity) numbers 0
      (λ k lt.
      let count = numbers_count in
      let at = first_at k (omega arith) in
      let within = at.within in
      let is = at.is in
      let all = are.count in
      omega arith)

  first_long : (k : ℕ) → k < units → length (get_or shards k []) ≡ are.size
  first_long k lt =
      let at = first_at k lt in
      are.even at.at (get_or shards k []) at.holds

  pub shards_even : AreEven units (take units (held_shards places))
  shards_even = let some = code.some_units in record { size = shards_size; even = λ i lt. first_long i lt ∙ sym (first_long 0 (omega arith)) }

  -- where they are those of some data shards
  module _ (originals : List (List ℕ)) (data_shards : AreDataShards units originals) (hold : HoldShardsOf originals places) where
    of : (k : ℕ) → (lt : k < units) → IsShardOf originals (first_at k lt).at (get_or shards k [])
    of k lt =
        let at = first_at k lt in
        let size = data_shards.even.size in
        let before = at.before in
        hold at.at (get_or shards k []) at.holds (omega arith)

    long_as : length (get_or shards 0 []) ≡ length (get_or originals 0 [])
    long_as =
        let some = code.some_units in
        let lt : 0 < units = omega arith in
        let at = (first_at 0 lt).at in
        let is = of 0 lt in
        let size = data_shards.even.size in
        elim (cases_lt at units) [
          | inl below ↦ ap length (is.given (omega arith)) ∙ data_shards.even.even at below
          | inr above ↦ let parities = is.parity (omega arith) in parities.long
        ]

    -- a byte of a shard as a row of the coding matrix times the bytes of the data shards
    byte_of : (k q : ℕ) → k < units → q < length (get_or shards 0 []) → element (byte_at shards k q) ≡ total gf256 units (λ c. gf256.product (coding_at units (get_or numbers k 0) c) (element (byte_at originals c q)))
    byte_of k q lt below =
        let some = code.some_units in
        let at = first_at k lt in
        let n = at.at in
        let is = of k lt in
        let size = data_shards.even.size in
        let number : get_or numbers k 0 ≡ n = let e = at.is in omega arith in
        let d : ℕ → GF256 = λ c. element (byte_at originals c q) in
        let long = first_long k lt ∙ sym (first_long 0 (omega arith)) in
        let moved = ap (λ (r : ℕ). total gf256 units (λ c. gf256.product (coding_at units r c) (d c))) number in
        elim (cases_lt n units) [
          | inl before ↦
              ap (λ (s : List ℕ). element (get_or s q 0)) (is.given (omega arith))
              ∙ sym (total_left_unit gf256 gf256_lawful units n d before)
              ∙ total_same gf256 gf256_lawful units (λ c. gf256.product (unit_at gf256 n c) (d c)) (λ c. gf256.product (coding_at units n c) (d c))
              (λ c in_c. ap (λ (x : GF256). gf256.product x (d c)) (sym (coding_below units n c before)))
              ∙ sym moved
          | inr after ↦
              let parities = is.parity (omega arith) in
              ap element (parities.bytes q (omega arith)) ∙ element_back (total gf256 (length originals) (λ c. gf256.product (coefficient n c) (d c)))
              ∙ ap (λ (k : ℕ). total gf256 k (λ c. gf256.product (coefficient n c) (d c))) size
              ∙ total_same gf256 gf256_lawful units (λ c. gf256.product (coefficient n c) (d c)) (λ c. gf256.product (coding_at units n c) (d c))
              (λ c in_c. ap (λ (x : GF256). gf256.product x (d c)) (sym (coding_above units n c after)))
              ∙ sym moved
        ]

    module _ (missing : List ℕ) (lost : (j : ℕ) → j < length missing → get_or missing j 0 < units) (rows : List (List GF256)) (restores : Restores units numbers missing rows) where
      -- row j times the shards is the missing data shard at place j
      given_back : (j q : ℕ) → j < length missing → q < length (get_or shards 0 []) → total gf256 units (λ i. gf256.product (entry gf256 rows j i) (element (byte_at shards i q))) ≡ element (byte_at originals (get_or missing j 0) q)
      given_back j q lt below =
          let d : ℕ → GF256 = λ c. element (byte_at originals c q) in
          let y : ℕ → ℕ → GF256 = λ i c. coding_at units (get_or numbers i 0) c in
          total_same gf256 gf256_lawful units (λ i. gf256.product (entry gf256 rows j i) (element (byte_at shards i q))) (λ i. gf256.product (entry gf256 rows j i) (total gf256 units (λ c. gf256.product (y i c) (d c))))
          (λ i in_i. ap (gf256.product (entry gf256 rows j i)) (byte_of i q in_i below))
          ∙ row_times_rows gf256 gf256_lawful units (entry gf256 rows j) y d
          ∙ total_same gf256 gf256_lawful units (λ c. gf256.product (total gf256 units (λ i. gf256.product (entry gf256 rows j i) (y i c))) (d c)) (λ c. gf256.product (unit_at gf256 (get_or missing j 0) c) (d c))
          (λ c in_c. ap (λ (x : GF256). gf256.product x (d c)) (restores.back j c lt in_c))
          ∙ total_left_unit gf256 gf256_lawful units (get_or missing j 0) d (lost j lt)

  -- the rows that restore, times the shards
  module _ (missing : List ℕ) (lost : (j : ℕ) → j < length missing → get_or missing j 0 < units) (rows : List (List GF256)) (restores : Restores units numbers missing rows)
      (others : List (List ℕ)) (combined : AreCombined rows shards others) where
    long_is : (j : ℕ) → j < length missing → length (get_or others j []) ≡ length (get_or shards 0 [])
    long_is j lt = let count = restores.rows in combined.long j (omega arith)

    back : (originals : List (List ℕ)) → AreDataShards units originals → HoldShardsOf originals places → (j : ℕ) → j < length missing → get_or others j [] ≡ get_or originals (get_or missing j 0) []
    back originals data_shards hold j lt =
        let m = get_or missing j 0 in
        let in_m : m < units = lost j lt in
        let count = restores.rows in
        let size = shards_size in
        let long = long_is j lt in
        let whole = long_as originals data_shards hold in
        let even = data_shards.even.even m in_m in
        same_number_lists (get_or others j []) (get_or originals m []) (long ∙ whole ∙ sym even)
        (λ q in_q.
        let in_first : q < length (get_or shards 0 []) = omega arith in
        combined.bytes j q (omega arith) in_first
        ∙ ap (λ (x : GF256). x.value)
        (ap (λ (k : ℕ). total gf256 k (λ i. gf256.product (entry gf256 rows j i) (element (byte_at shards i q)))) size
        ∙ given_back originals data_shards hold missing lost rows restores j q lt in_first)
        ∙ mod-eq_of_lt (data_shards.bytes m q))

    pub restored_from : IsRestored units places missing others
    restored_from = record {
      count = combined.count ∙ restores.rows;
      long = λ size all j lt.
          let some = code.some_units in
          let at = first_at 0 (omega arith) in
          long_is j lt ∙ all at.at (get_or shards 0 []) at.holds;
      data_shards = back;
    }
