-- The bytes of a group in its shares.
use Rattle.std.proofs.Common.{◌≡◌, ◌≢◌, ℕ, zero, suc, ◌+◌, ◌*◌, ◌/◌, ◌%◌, ◌<◌, ◌≤◌, Bool, cond, List, [], ◌∷◌, ◌++◌, length, take, drop, inl, inr, refl, sym, ap, ◌∙◌, eq-eqb, arith}
use Rattle.std.proofs.Math.Nat.{mod-lt, add-mul-div_right, add-mul-mod_self_right, mod-eq_of_lt}
use Rattle.std.proofs.lemmas.Nat.{div-mul-add}
use Rattle.std.proofs.Math.Seq.{take-add}
use Rattle.std.proofs.lemmas.List.{append-nil, length-take, length-take-le}
use Rattle.std.proofs.lemmas.Bool.{ne_eqb, cases_eq}
use Rattle.hdfs_ec.specs.Striping.{share_of, share_from, share, share_length, lengths_together}
use Rattle.hdfs_ec.proofs.ShareLengths.{mark}

-- ---- lengths

-- a byte that lies in none of the first shares lengthens none of them
none_together : (cell units n count : ℕ) → count ≤ share_of cell units n → lengths_together cell units (suc n) count ≡ lengths_together cell units n count
unfolding lengths_together share_length
none_together cell units n zero le = refl
none_together cell units n (suc count) le =
    let other : mark count (share_of cell units n) ≡ 0 = ap (λ (b : Bool). cond b 1 0) (ne_eqb (share_of cell units n) count (omega arith)) in
    omega (arith, none_together cell units n count (omega arith), other)

-- a byte that lies in one of them lengthens that one
one_together : (cell units n count : ℕ) → share_of cell units n < count → lengths_together cell units (suc n) count ≡ suc (lengths_together cell units n count)
unfolding lengths_together share_length
one_together cell units n zero lt = absurd (omega arith)
one_together cell units n (suc count) lt = elim (cases_eq (share_of cell units n) count) [
  | inl e ↦
      let here : mark count (share_of cell units n) ≡ 1 = ap (λ (b : Bool). cond b 1 0) (eq-eqb (share_of cell units n) count e) in
      omega (arith, none_together cell units n count (omega arith), here)
  | inr apart ↦
      let other : mark count (share_of cell units n) ≡ 0 = ap (λ (b : Bool). cond b 1 0) (ne_eqb (share_of cell units n) count apart) in
      omega (arith, one_together cell units n count (omega arith), other)
]

no_bytes : (cell units count : ℕ) → lengths_together cell units 0 count ≡ 0
unfolding lengths_together share_length
no_bytes cell units zero = refl
no_bytes cell units (suc count) = omega (arith, no_bytes cell units count)

-- the lengths of the data shares add up to the group
pub lengths_make_up : (cell units n : ℕ) → 0 < units → lengths_together cell units n units ≡ n
lengths_make_up cell units zero some = no_bytes cell units units
lengths_make_up cell units (suc n) some =
    one_together cell units n units (mod-lt (n / cell) some) ∙ ap suc (lengths_make_up cell units n some)

-- ---- bytes

-- what the byte at position p brings to share i, before what the bytes behind it bring
pub take_in : (cell units i p byte : ℕ) (group : List ℕ) → share_of cell units p ≡ i → share_from cell units i p (byte ∷ group) ≡ byte ∷ share_from cell units i (suc p) group
unfolding share_from
take_in cell units i p byte group e =
    ap (λ (b : Bool). cond b (byte ∷ share_from cell units i (suc p) group) (share_from cell units i (suc p) group)) (eq-eqb (share_of cell units p) i e)

pass_by : (cell units i p byte : ℕ) (group : List ℕ) → share_of cell units p ≢ i → share_from cell units i p (byte ∷ group) ≡ share_from cell units i (suc p) group
unfolding share_from
pass_by cell units i p byte group apart =
    ap (λ (b : Bool). cond b (byte ∷ share_from cell units i (suc p) group) (share_from cell units i (suc p) group)) (ne_eqb (share_of cell units p) i apart)

share_from-nil : (cell units i p : ℕ) → share_from cell units i p [] ≡ []
unfolding share_from
share_from-nil cell units i p = refl

length_here : (cell units i p : ℕ) → share_of cell units p ≡ i → share_length cell units i (suc p) ≡ share_length cell units i p + 1
unfolding share_length
length_here cell units i p e = ap (λ (b : Bool). share_length cell units i p + cond b 1 0) (eq-eqb (share_of cell units p) i e)

length_elsewhere : (cell units i p : ℕ) → share_of cell units p ≢ i → share_length cell units i (suc p) ≡ share_length cell units i p
unfolding share_length
length_elsewhere cell units i p apart =
    ap (λ (b : Bool). share_length cell units i p + cond b 1 0) (ne_eqb (share_of cell units p) i apart) ∙ omega arith

length_from : (cell units i p : ℕ) (group : List ℕ) → share_length cell units i p + length (share_from cell units i p group) ≡ share_length cell units i (p + length group)
length_from cell units i p [] =
    let none = ap length (share_from-nil cell units i p) in
    let e : p + 0 ≡ p = omega arith in
    let same = ap (share_length cell units i) e in
    omega arith
length_from cell units i p (byte ∷ group) =
    let e : p + suc (length group) ≡ suc p + length group = omega arith in
    let same = ap (share_length cell units i) e in
    let rest = length_from cell units i (suc p) group in
    elim (cases_eq (share_of cell units p) i) [
      | inl here ↦ omega (arith, ap length (take_in cell units i p byte group here), length_here cell units i p here)
      | inr apart ↦ omega (arith, ap length (pass_by cell units i p byte group apart), length_elsewhere cell units i p apart)
    ]

-- a share is as long as the positions that lie in it are many
pub share_is_long : (cell units i : ℕ) (group : List ℕ) → length (share cell units i group) ≡ share_length cell units i (length group)
unfolding share_length
share_is_long cell units i group =
    let e : 0 + length group ≡ length group = omega arith in
    let whole = length_from cell units i 0 group in
    let same = ap (share_length cell units i) e in
    omega arith

pub share_from-append : (cell units i p : ℕ) (a b : List ℕ) → share_from cell units i p (a ++ b) ≡ share_from cell units i p a ++ share_from cell units i (p + length a) b
share_from-append cell units i p [] b =
    let e : p + 0 ≡ p = omega arith in
    ap (λ (x : ℕ). share_from cell units i x b) (sym e) ∙ sym (ap (λ (xs : List ℕ). xs ++ share_from cell units i (p + 0) b) (share_from-nil cell units i p))
share_from-append cell units i p (byte ∷ a) b =
    let e : suc p + length a ≡ p + suc (length a) = omega arith in
    let rest = share_from-append cell units i (suc p) a b ∙ ap (λ (x : ℕ). share_from cell units i (suc p) a ++ share_from cell units i x b) e in
    elim (cases_eq (share_of cell units p) i) [
      | inl here ↦
          take_in cell units i p byte (a ++ b) here ∙ ap (λ (xs : List ℕ). byte ∷ xs) rest
          ∙ sym (ap (λ (xs : List ℕ). xs ++ share_from cell units i (p + suc (length a)) b) (take_in cell units i p byte a here))
      | inr apart ↦
          pass_by cell units i p byte (a ++ b) apart ∙ rest
          ∙ sym (ap (λ (xs : List ℕ). xs ++ share_from cell units i (p + suc (length a)) b) (pass_by cell units i p byte a apart))
    ]

module _ (cell units : ℕ) (some : 0 < cell) where
  -- a row further the shares are the same again
  share_of_row : (p : ℕ) → share_of cell units (p + units * cell) ≡ share_of cell units p
  share_of_row p =
      let one : units ≡ 1 * units = omega arith in
      ap (λ (x : ℕ). x % units) (add-mul-div_right p units some) ∙ ap (λ (x : ℕ). (p / cell + x) % units) one ∙ add-mul-mod_self_right (p / cell) 1 units

  share_from_row : (i p : ℕ) (group : List ℕ) → share_from cell units i (p + units * cell) group ≡ share_from cell units i p group
  share_from_row i p [] = share_from-nil cell units i (p + units * cell) ∙ sym (share_from-nil cell units i p)
  share_from_row i p (byte ∷ group) =
      let next : suc (p + units * cell) ≡ suc p + units * cell = omega arith in
      let rest = ap (λ (x : ℕ). share_from cell units i x group) next ∙ share_from_row i (suc p) group in
      elim (cases_eq (share_of cell units p) i) [
        | inl here ↦
            take_in cell units i (p + units * cell) byte group (share_of_row p ∙ here) ∙ ap (λ (xs : List ℕ). byte ∷ xs) rest
            ∙ sym (take_in cell units i p byte group here)
        | inr apart ↦
            pass_by cell units i (p + units * cell) byte group (λ e. apart (sym (share_of_row p) ∙ e)) ∙ rest
            ∙ sym (pass_by cell units i p byte group apart)
      ]

  pub share_from_rows : (i rows : ℕ) (group : List ℕ) → share_from cell units i (rows * (units * cell)) group ≡ share cell units i group
  share_from_rows i zero group = let e : 0 * (units * cell) ≡ 0 = omega arith in ap (λ (x : ℕ). share_from cell units i x group) e
  share_from_rows i (suc rows) group =
      let e : suc rows * (units * cell) ≡ rows * (units * cell) + units * cell = omega arith in
      ap (λ (x : ℕ). share_from cell units i x group) e ∙ share_from_row i (rows * (units * cell)) group ∙ share_from_rows i rows group

  -- bytes of one cell, from place t of it on
  in_cell : (i j t : ℕ) (bytes : List ℕ) → j < units → t + length bytes ≤ cell → j ≡ i → share_from cell units i (j * cell + t) bytes ≡ bytes
  in_cell i j t [] lt fits e = share_from-nil cell units i (j * cell + t)
  in_cell i j t (byte ∷ bytes) lt fits e =
      let at : (j * cell + t) / cell ≡ j = div-mul-add j cell t (omega arith) in
      let here : share_of cell units (j * cell + t) ≡ i = ap (λ (x : ℕ). x % units) at ∙ mod-eq_of_lt lt ∙ e in
      let next : suc (j * cell + t) ≡ j * cell + suc t = omega arith in
      take_in cell units i (j * cell + t) byte bytes here ∙ ap (λ (x : ℕ). byte ∷ share_from cell units i x bytes) next
      ∙ ap (λ (xs : List ℕ). byte ∷ xs) (in_cell i j (suc t) bytes lt (omega arith) e)

  off_cell : (i j t : ℕ) (bytes : List ℕ) → j < units → t + length bytes ≤ cell → j ≢ i → share_from cell units i (j * cell + t) bytes ≡ []
  off_cell i j t [] lt fits apart = share_from-nil cell units i (j * cell + t)
  off_cell i j t (byte ∷ bytes) lt fits apart =
      let at : (j * cell + t) / cell ≡ j = div-mul-add j cell t (omega arith) in
      let off : share_of cell units (j * cell + t) ≢ i = λ (e : share_of cell units (j * cell + t) ≡ i). apart (sym (ap (λ (x : ℕ). x % units) at ∙ mod-eq_of_lt lt) ∙ e) in
      let next : suc (j * cell + t) ≡ j * cell + suc t = omega arith in
      pass_by cell units i (j * cell + t) byte bytes off ∙ ap (λ (x : ℕ). share_from cell units i x bytes) next ∙ off_cell i j (suc t) bytes lt (omega arith) apart

  -- the share of the first cells of a row
  pub cells_share : (i j : ℕ) (row : List ℕ) → j ≤ units → j * cell ≤ length row → (j ≤ i → share cell units i (take (j * cell) row) ≡ []) × (i < j → share cell units i (take (j * cell) row) ≡ take cell (drop (i * cell) row))
  cells_share i zero row le long =
      let e : 0 * cell ≡ 0 = omega arith in
      ((λ below. ap (λ (x : ℕ). share cell units i (take x row)) e ∙ share_from-nil cell units i 0), (λ lt. absurd (omega arith)))
  cells_share i (suc j) row le long =
      let before = cells_share i j row (omega arith) (omega arith) in
      let bytes = take cell (drop (j * cell) row) in
      let e : suc j * cell ≡ j * cell + cell = omega arith in
      let first : length (take (j * cell) row) ≡ j * cell = length-take-le (j * cell) row (omega arith) in
      let few : length bytes ≤ cell = omega (arith, length-take cell (drop (j * cell) row)) in
      let zero_more : j * cell + 0 ≡ j * cell = omega arith in
      let split : share cell units i (take (suc j * cell) row) ≡ share cell units i (take (j * cell) row) ++ share_from cell units i (j * cell + 0) bytes =
      ap (λ (x : ℕ). share cell units i (take x row)) e ∙ ap (share cell units i) (take-add (j * cell) cell row)
      ∙ share_from-append cell units i 0 (take (j * cell) row) bytes
      ∙ ap (λ (x : ℕ). share cell units i (take (j * cell) row) ++ share_from cell units i x bytes) (omega arith) in
      let none : j ≢ i → share_from cell units i (j * cell + 0) bytes ≡ [] = λ (apart : j ≢ i). off_cell i j 0 bytes (omega arith) (omega arith) apart in (
        (λ below. split ∙ ap (λ (xs : List ℕ). xs ++ share_from cell units i (j * cell + 0) bytes) (before.0 (omega arith)) ∙ none (omega arith)),
        (λ lt. elim (cases_eq j i) [
          | inl same ↦
              split ∙ ap (λ (xs : List ℕ). xs ++ share_from cell units i (j * cell + 0) bytes) (before.0 (omega arith))
              ∙ in_cell i j 0 bytes (omega arith) (omega arith) same ∙ ap (λ (x : ℕ). take cell (drop (x * cell) row)) same
          | inr apart ↦
              split ∙ ap (λ (xs : List ℕ). share cell units i (take (j * cell) row) ++ xs) (none apart) ∙ append-nil (share cell units i (take (j * cell) row))
              ∙ before.1 (omega arith)
        ]),
      )
