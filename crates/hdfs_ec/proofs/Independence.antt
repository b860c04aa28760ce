-- Any rows of a coding matrix, as many as it has columns, are independent.
use Rattle.std.proofs.Common.{◌≡◌, ℕ, suc, ◌+◌, ◌<◌, ◌≤◌, ◌⊎◌, Bool, true, false, cond, ltb, List, [], ◌∷◌, map, length, get_or, All, inl, inr, sym, ap, subst, ◌∙◌, arith}
use Rattle.std.specs.List.Sorted.{IsStrictlyIncreasing}
use Rattle.std.proofs.lemmas.Bool.{cases_lt, lt-ltb, le-ltb}
use Rattle.std.proofs.lemmas.List.{length-map}
use Rattle.hdfs_field.specs.declared.gf256.GF256.{GF256}
use Rattle.hdfs_field.specs.Elements.{element, gf256, gf256_quotient}
use Rattle.hdfs_field.specs.FieldLaws.{gf256_lawful, gf256_field}
use Rattle.hdfs_field.specs.Matrices.{entry, total, unit_at, IsGrid, IsSingular, selected_rows}
use Rattle.hdfs_ec.specs.Coding.{coefficient, coding_at, IsCode, IsCodingMatrix}
use Rattle.hdfs_field.proofs.Totals.{total_same, total_left_unit}
use Rattle.hdfs_ec.proofs.Cauchy.{IsAmong, IsNoneOf, AreDistinct, VanishIn, columns_vanish}
use Rattle.hdfs_field.proofs.Selection.{RiseFrom, rise_from, rise_tail, length-selected_rows, width-selected_rows, entry-selected_rows}
use Rattle.hdfs_ec.proofs.Codes.{elements_apart, sum_some, coding_above, coding_below}
use Rattle.hdfs_ec.proofs.Gaps.{gaps, from_on, gap_within, stands_or_gap, gap_count}

-- ---- the rows of parity shards

none_of : (e n : ℕ) (numbers : List ℕ) → n < 256 → ((i : ℕ) → i < length numbers → n < get_or numbers i 0) → ((i : ℕ) → i < length numbers → get_or numbers i 0 < 256)
    → IsNoneOf (element n) (map element (from_on e numbers))
unfolding from_on
none_of e n [] small above below = tt
none_of e n (m ∷ numbers) small above below =
    let rest = none_of e n numbers small (λ i lt. above (suc i) (omega arith)) (λ i lt. below (suc i) (omega arith)) in
    let over : n < m = above 0 (omega arith) in
    let here = elements_apart m n (below 0 (omega arith)) small (omega arith) in
    elim (ltb m e) as (λ b. IsNoneOf (element n) (map element (cond b (from_on e numbers) (m ∷ from_on e numbers)))) [ true ↦ rest | false ↦ (here, rest) ]

distinct : (e s : ℕ) (numbers : List ℕ) → RiseFrom s 256 numbers → AreDistinct (map element (from_on e numbers))
unfolding from_on
distinct e s [] h = tt
distinct e s (n ∷ numbers) h =
    let tail = rise_tail s 256 n numbers h in
    let rest = distinct e (suc n) numbers tail in
    let none = none_of e n numbers (h.below 0 (omega arith)) (λ i lt. let least = tail.from i lt in omega arith) tail.below in
    elim (ltb n e) as (λ b. AreDistinct (map element (cond b (from_on e numbers) (n ∷ from_on e numbers)))) [ true ↦ rest | false ↦ (none, rest) ]

module _ (units : ℕ) (v : ℕ → GF256) where
  -- row r of the coding matrix times the weights
  abbrev pub row_sum : ℕ → GF256
  row_sum r = total gf256 units (λ c. gf256.product (coding_at units r c) (v c))

  unit_row : (r : ℕ) → r < units → row_sum r ≡ v r
  unit_row r lt =
      total_same gf256 gf256_lawful units (λ c. gf256.product (coding_at units r c) (v c)) (λ c. gf256.product (unit_at gf256 r c) (v c))
      (λ c below. ap (λ (x : GF256). gf256.product x (v c)) (coding_below units r c lt))
      ∙ total_left_unit gf256 gf256_lawful units r v lt

  parity_row : (r : ℕ) → units ≤ r → row_sum r ≡ total gf256 units (λ c. gf256.product (coefficient r c) (v c))
  parity_row r le =
      total_same gf256 gf256_lawful units (λ c. gf256.product (coding_at units r c) (v c)) (λ c. gf256.product (coefficient r c) (v c))
      (λ c below. ap (λ (x : GF256). gf256.product x (v c)) (coding_above units r c le))

  vanish : (numbers : List ℕ) → ((i : ℕ) → i < length numbers → get_or numbers i 0 < 256) → ((i : ℕ) → i < length numbers → row_sum (get_or numbers i 0) ≡ gf256.zero)
      → VanishIn gf256 gf256_lawful gf256_quotient gf256_field units element (map element (from_on units numbers)) v
  unfolding from_on
  vanish [] below zeros = tt
  vanish (n ∷ numbers) below zeros =
      let rest = vanish numbers (λ i lt. below (suc i) (omega arith)) (λ i lt. zeros (suc i) (omega arith)) in
      let P : Bool → Type 0 = λ b. VanishIn gf256 gf256_lawful gf256_quotient gf256_field units element (map element (cond b (from_on units numbers) (n ∷ from_on units numbers))) v in
      let small : n < 256 = below 0 (omega arith) in
      elim (cases_lt n units) [
        | inl lt ↦ subst P (sym (lt-ltb n units lt)) rest
        | inr le ↦ subst P (sym (le-ltb n units le))
            (λ c col. sum_some n c small (omega arith) (omega arith), sym (parity_row n le) ∙ zeros 0 (omega arith), rest)
      ]

-- weights that vanish in these rows are zero
module _ (units parity : ℕ) (code : IsCode units parity) (numbers : List ℕ) (count : length numbers ≡ units) (rise : RiseFrom 0 (units + parity) numbers) (v : ℕ → GF256)
    (zeros : (i : ℕ) → i < length numbers → row_sum units v (get_or numbers i 0) ≡ gf256.zero) where
  small : (i : ℕ) → i < length numbers → get_or numbers i 0 < 256
  small i lt =
      let below = rise.below i lt in
      let fits = code.fits in
      omega arith

  known : (c : ℕ) → c < units → (v c ≡ gf256.zero) ⊎ IsAmong (gaps units 0 numbers) c
  known c lt = elim (stands_or_gap units 0 c numbers (omega arith) (omega arith)) [
    | inl at ↦ inl (sym (unit_row units v c lt) ∙ sym (ap (row_sum units v) at.2) ∙ zeros at.0 at.1)
    | inr gap ↦ inr gap
  ]

  few : length (gaps units 0 numbers) ≤ length (map element (from_on units numbers))
  few =
      let all = gap_count units 0 (units + parity) numbers rise in
      let from = ap (λ (k : ℕ). length (from_on k numbers)) (let z : 0 + units ≡ units = omega arith in z) in
      let same = length-map (from_on units numbers) element in
      omega arith

  pub weights_vanish : (c : ℕ) → c < units → v c ≡ gf256.zero
  weights_vanish c lt =
      let fits = code.fits in
      let parities = code.some_parity in
      let rise' : RiseFrom 0 256 numbers = record { from = rise.from; below = small; rise = rise.rise } in
      columns_vanish gf256 gf256_lawful gf256_quotient gf256_field units element (gaps units 0 numbers) (map element (from_on units numbers)) v
      (λ c b in_c in_b apart. elements_apart c b (omega arith) (omega arith) apart) (distinct units 0 numbers rise') few (vanish units v numbers small zeros)
      (λ c among. let within = gap_within units 0 c numbers among in omega arith) known c lt

module _ (units parity : ℕ) (m : List (List GF256)) (numbers : List ℕ) (code : IsCode units parity) (coding : IsCodingMatrix units parity m) (grid : IsGrid m)
    (count : length numbers ≡ units) (rising : IsStrictlyIncreasing numbers) (within : All (λ r. r < units + parity) numbers) where
  pub independent : IsSingular gf256 (selected_rows numbers m) → ⊥
  independent s =
      let rows = coding.rows in
      let cols = coding.cols in
      let some = code.some_units in
      let below : (k : ℕ) → k < length numbers → get_or numbers k 0 < length m = λ k lt. let r = within k 0 lt in omega arith in
      let size = length-selected_rows numbers m rising below in
      let wide = width-selected_rows numbers m rising below grid (omega arith) in
      let v = s.times in
      let in_some = s.within in
      let rise = rise_from (units + parity) numbers rising (λ k lt. within k 0 lt) in
      let zeros : (i : ℕ) → i < length numbers → row_sum units v (get_or numbers i 0) ≡ gf256.zero
      = λ i lt.
      total_same gf256 gf256_lawful units (λ c. gf256.product (coding_at units (get_or numbers i 0) c) (v c)) (λ c. gf256.product (entry gf256 (selected_rows numbers m) i c) (v c))
      (λ c col. ap (λ (x : GF256). gf256.product x (v c))
      (sym (entry-selected_rows numbers m rising below gf256 i c lt ∙ coding.entries (get_or numbers i 0) c (within i 0 lt) col)))
      ∙ sym (ap (λ (k : ℕ). total gf256 k (λ c. gf256.product (entry gf256 (selected_rows numbers m) i c) (v c))) (wide ∙ cols))
      ∙ s.vanishes i (omega arith) in
      s.taken (weights_vanish units parity code numbers count rise v zeros s.some (omega arith))
