-- How many bytes of a group lie in a share.
use Rattle.std.proofs.Common.{◌≡◌, ◌≢◌, ℕ, zero, suc, ◌+◌, ◌-◌, ◌*◌, ◌/◌, ◌%◌, ◌<◌, ◌≤◌, ◌==◌, min, Bool, cond, inl, inr, sym, ap, ◌∙◌, eq-eqb, arith}
use Rattle.std.proofs.Math.Nat.{add-mul-div_right, add-mul-mod_self_right, mod-eq_of_lt, div-mul-le_self, lt-div-mul-add, mul-le-mul, mul-le-mul_left, mul-le-mul_right, mul_assoc, div-lt_iff_lt-mul, mod-lt}
use Rattle.std.proofs.lemmas.Nat.{div-add-mod'}
use Rattle.std.proofs.lemmas.Bool.{ne_eqb, cases_eq, cases_lt}
use Rattle.hdfs_ec.specs.Striping.{share_of, share_length}

-- one where the share is i
abbrev pub mark : ℕ → ℕ → ℕ
mark i k = cond (k == i) 1 0

mark_same : (i k : ℕ) → k ≡ i → mark i k ≡ 1
mark_same i k e = ap (λ (b : Bool). cond b 1 0) (eq-eqb k i e)

mark_other : (i k : ℕ) → k ≢ i → mark i k ≡ 0
mark_other i k apart = ap (λ (b : Bool). cond b 1 0) (ne_eqb k i apart)

module _ (cell units : ℕ) (some : 0 < cell) where
  -- the share of a place in a row
  share_in_row : (q r : ℕ) → r / cell < units → share_of cell units (q * (units * cell) + r) ≡ r / cell
  share_in_row q r lt =
      let e : q * (units * cell) + r ≡ r + q * units * cell = ap (λ (x : ℕ). x + r) (sym (mul_assoc q units cell)) ∙ omega arith in
      ap (λ (x : ℕ). x / cell % units) e ∙ ap (λ (x : ℕ). x % units) (add-mul-div_right r (q * units) some)
      ∙ add-mul-mod_self_right (r / cell) q units ∙ mod-eq_of_lt lt

  below_units : (r : ℕ) → r < units * cell → r / cell < units
  below_units r lt = (div-lt_iff_lt-mul some).1 lt

  row_some : 0 < units → 0 < units * cell
  row_some lt = let more : 1 * 1 ≤ units * cell = mul-le-mul lt some in omega arith

  module _ (i : ℕ) where
    -- what of the first r bytes of a row lies in the share
    abbrev pub part : ℕ → ℕ
    part r = min cell (r - i * cell)

    part_step : (k r : ℕ) → k * cell ≤ r → r < k * cell + cell → part r + mark i k ≡ part (suc r)
    part_step k r low high = elim (cases_eq k i) [
      | inl e ↦
          let here : k * cell ≡ i * cell = ap (λ (x : ℕ). x * cell) e in
          omega (arith, mark_same i k e)
      | inr apart ↦ elim (cases_lt k i) [
        | inl lt ↦
            let more : cell * suc k ≤ cell * i = mul-le-mul_left cell lt in
            let more' : k * cell + cell ≤ i * cell = omega arith in
            omega (arith, mark_other i k apart)
        | inr ge ↦
            let above : suc i ≤ k = omega arith in
            let more : cell * suc i ≤ cell * k = mul-le-mul_left cell above in
            let more' : i * cell + cell ≤ k * cell = omega arith in
            omega (arith, mark_other i k apart)
      ]
    ]

    row_part : (q r : ℕ) → r ≤ units * cell → share_length cell units i (q * (units * cell) + r) ≡ share_length cell units i (q * (units * cell)) + part r
    unfolding share_length
    row_part q zero le =
        let e : q * (units * cell) + 0 ≡ q * (units * cell) = omega arith in
        ap (share_length cell units i) e ∙ omega arith
    row_part q (suc r) le =
        let e : q * (units * cell) + suc r ≡ suc (q * (units * cell) + r) = omega arith in
        let low = div-mul-le_self r cell in
        let high = lt-div-mul-add {a = r} some in
        let share : r / cell < units = below_units r (omega arith) in
        ap (share_length cell units i) e
        ∙ ap (λ (x : ℕ). share_length cell units i (q * (units * cell) + r) + cond (x == i) 1 0) (share_in_row q r share)
        ∙ ap (λ (x : ℕ). x + mark i (r / cell)) (row_part q r (omega arith))
        ∙ omega (arith, part_step (r / cell) r low high)

    pub rows_part : i < units → (q : ℕ) → share_length cell units i (q * (units * cell)) ≡ q * cell
    unfolding share_length
    rows_part within zero =
        let none : 0 * (units * cell) ≡ 0 = omega arith in
        let zeros : 0 * cell ≡ 0 = omega arith in
        ap (share_length cell units i) none ∙ sym zeros
    rows_part within (suc q) =
        let e : suc q * (units * cell) ≡ q * (units * cell) + units * cell = omega arith in
        let more : cell * suc i ≤ cell * units = mul-le-mul_left cell within in
        let whole : part (units * cell) ≡ cell = omega arith in
        let next : suc q * cell ≡ q * cell + cell = omega arith in
        ap (share_length cell units i) e ∙ row_part q (units * cell) (omega arith) ∙ ap (λ (x : ℕ). x + part (units * cell)) (rows_part within q)
        ∙ ap (λ (x : ℕ). q * cell + x) whole ∙ sym next

    -- the length of share i of n bytes: the cells of the whole rows, and what of the last row lies in it
    pub share_length_is : i < units → (n : ℕ) → share_length cell units i n ≡ n / (units * cell) * cell + part (n % (units * cell))
    share_length_is within n =
        let row : 0 < units * cell = row_some (omega arith) in
        let e = div-add-mod' n (units * cell) in
        let lt : n % (units * cell) < units * cell = mod-lt n row in
        ap (share_length cell units i) (sym e) ∙ row_part (n / (units * cell)) (n % (units * cell)) (omega arith)
        ∙ ap (λ (x : ℕ). x + part (n % (units * cell))) (rows_part within (n / (units * cell)))

-- the cells of the whole rows are no more than all bytes
pub rows_within : (cell units n : ℕ) → 0 < units → n / (units * cell) * cell ≤ n
rows_within cell units n some =
    let wide : 1 * cell ≤ units * cell = mul-le-mul_right cell some in
    let rows = mul-le-mul_left (n / (units * cell)) wide in
    let within = div-mul-le_self n (units * cell) in
    let one : n / (units * cell) * (1 * cell) ≡ n / (units * cell) * cell = ap (λ (x : ℕ). n / (units * cell) * x) (omega arith) in
    omega arith
