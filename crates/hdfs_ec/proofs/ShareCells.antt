-- The cells of the shares, row by row, are the group again.
use Rattle.std.proofs.Common.{◌≡◌, ℕ, zero, suc, ◌+◌, ◌*◌, ◌<◌, ◌≤◌, List, [], ◌∷◌, ◌++◌, map, length, take, drop, refl, sym, ap, ◌∙◌, arith}
use Rattle.std.proofs.Math.Nat.{mul-le-mul_right}
use Rattle.std.proofs.Math.Seq.{take-add, take-length, take-append_seam, drop-append_seam}
use Rattle.std.proofs.lemmas.List.{append-nil, length-take-le, length-drop, take-take, take-append-drop, append_assoc, map-append}
use Rattle.hdfs_ec.specs.Striping.{share_from, share, share_length, row_cells, cells, first_shares, joined}
use Rattle.hdfs_ec.proofs.ShareLengths.{rows_part}
use Rattle.hdfs_ec.proofs.ShareBytes.{share_is_long, share_from-append, share_from_rows, cells_share}

joined-append : (a b : List (List ℕ)) → joined (a ++ b) ≡ joined a ++ joined b
unfolding joined
joined-append [] b = refl
joined-append (piece ∷ a) b = ap (λ (xs : List ℕ). piece ++ xs) (joined-append a b) ∙ sym (append_assoc piece (joined a) (joined b))

joined-one : (piece : List ℕ) → joined (piece ∷ []) ≡ piece
unfolding joined
joined-one piece = append-nil piece

drop_seam : (a b : List ℕ) (n : ℕ) → length a ≡ n → drop n (a ++ b) ≡ b
drop_seam a b n e = ap (λ (x : ℕ). drop x (a ++ b)) (sym e) ∙ drop-append_seam a b

take_seam : (a b : List ℕ) (n : ℕ) → length a ≡ n → take n (a ++ b) ≡ a
take_seam a b n e = ap (λ (x : ℕ). take x (a ++ b)) (sym e) ∙ take-append_seam a b

module _ (cell units : ℕ) (some : 0 < cell) where
  -- behind some rows a share goes on as that of the bytes behind them
  share_behind : (i rows : ℕ) (group : List ℕ) → i < units → rows * (units * cell) ≤ length group
      → drop (rows * cell) (share cell units i group) ≡ share cell units i (drop (rows * (units * cell)) group)
  share_behind i rows group within long =
      let n = rows * (units * cell) in
      let front = take n group in
      let back = drop n group in
      let size : length front ≡ n = length-take-le n group long in
      let first : length (share cell units i front) ≡ rows * cell =
      share_is_long cell units i front ∙ ap (share_length cell units i) size ∙ rows_part cell units some i within rows in
      let at : 0 + length front ≡ n = omega arith in
      ap (λ (xs : List ℕ). drop (rows * cell) (share cell units i xs)) (sym (take-append-drop n group))
      ∙ ap (drop (rows * cell)) (share_from-append cell units i 0 front back)
      ∙ drop_seam (share cell units i front) (share_from cell units i (0 + length front) back) (rows * cell) first
      ∙ ap (λ (x : ℕ). share_from cell units i x back) at ∙ share_from_rows cell units some i rows back

  -- the first cell of a share is one of the first row
  first_cell : (i : ℕ) (group : List ℕ) → i < units → units * cell ≤ length group → take cell (share cell units i group) ≡ take cell (drop (i * cell) (take (units * cell) group))
  first_cell i group within long =
      let n = units * cell in
      let row = take n group in
      let size : length row ≡ n = length-take-le n group long in
      let upto : suc i * cell ≤ units * cell = mul-le-mul_right cell within in
      let room : cell ≤ length (drop (i * cell) row) = omega (arith, length-drop (i * cell) row) in
      let same : take n row ≡ row = take-take n n group (omega arith) in
      let own : share cell units i row ≡ take cell (drop (i * cell) row) =
      ap (share cell units i) (sym same) ∙ (cells_share cell units some i units row (omega arith) (omega arith)).1 within in
      let wide : length (share cell units i row) ≡ cell = ap length own ∙ length-take-le cell (drop (i * cell) row) room in
      ap (λ (xs : List ℕ). take cell (share cell units i xs)) (sym (take-append-drop n group))
      ∙ ap (take cell) (share_from-append cell units i 0 row (drop n group))
      ∙ take_seam (share cell units i row) (share_from cell units i (0 + length row) (drop n group)) cell wide ∙ own

  -- the cell of a share in a row
  cell_is : (i rows : ℕ) (group : List ℕ) → i < units → suc rows * (units * cell) ≤ length group
      → take cell (drop (rows * cell) (share cell units i group)) ≡ take cell (drop (i * cell) (take (units * cell) (drop (rows * (units * cell)) group)))
  cell_is i rows group within long =
      let e : suc rows * (units * cell) ≡ rows * (units * cell) + units * cell = omega arith in
      let room : units * cell ≤ length (drop (rows * (units * cell)) group) = omega (arith, length-drop (rows * (units * cell)) group) in
      ap (take cell) (share_behind i rows group within (omega arith)) ∙ first_cell i (drop (rows * (units * cell)) group) within room

  -- the cells of the first shares in a row are its first bytes
  row_joined : (rows count : ℕ) (group : List ℕ) → count ≤ units → suc rows * (units * cell) ≤ length group
      → joined (row_cells cell (first_shares cell units group count) rows) ≡ take (count * cell) (take (units * cell) (drop (rows * (units * cell)) group))
  unfolding first_shares joined
  row_joined rows zero group within long =
      let row = take (units * cell) (drop (rows * (units * cell)) group) in
      let e : 0 * cell ≡ 0 = omega arith in
      sym (ap (λ (x : ℕ). take x row) e)
  row_joined rows (suc count) group within long =
      let row = take (units * cell) (drop (rows * (units * cell)) group) in
      let e : suc count * cell ≡ count * cell + cell = omega arith in
      let f = λ (s : List ℕ). take cell (drop (rows * cell) s) in
      let last = share cell units count group in
      ap joined (map-append f (first_shares cell units group count) (last ∷ []))
      ∙ joined-append (map f (first_shares cell units group count)) (f last ∷ []) ∙ ap (λ (xs : List ℕ). joined (map f (first_shares cell units group count)) ++ xs) (joined-one (f last))
      ∙ ap (λ (xs : List ℕ). xs ++ f last) (row_joined rows count group (omega arith) long)
      ∙ ap (λ (xs : List ℕ). take (count * cell) row ++ xs) (cell_is count rows group within long)
      ∙ sym (take-add (count * cell) cell row) ∙ sym (ap (λ (x : ℕ). take x row) e)

  rows_joined : (rows : ℕ) (group : List ℕ) → rows * (units * cell) ≤ length group → joined (cells cell (first_shares cell units group units) rows) ≡ take (rows * (units * cell)) group
  unfolding cells joined
  rows_joined zero group long = let e : 0 * (units * cell) ≡ 0 = omega arith in sym (ap (λ (x : ℕ). take x group) e)
  rows_joined (suc rows) group long =
      let e : suc rows * (units * cell) ≡ rows * (units * cell) + units * cell = omega arith in
      let shares = first_shares cell units group units in
      joined-append (cells cell shares rows) (row_cells cell shares rows)
      ∙ ap (λ (xs : List ℕ). xs ++ joined (row_cells cell shares rows)) (rows_joined rows group (omega arith))
      ∙ ap (λ (xs : List ℕ). take (rows * (units * cell)) group ++ xs)
      (row_joined rows units group (omega arith) long ∙ take-take (units * cell) (units * cell) (drop (rows * (units * cell)) group) (omega arith))
      ∙ sym (take-add (rows * (units * cell)) (units * cell) group) ∙ sym (ap (λ (x : ℕ). take x group) e)

  -- the cells of a group's shares, row by row, are the group
  pub cells_make_up : (rows : ℕ) (group : List ℕ) → length group ≡ rows * (units * cell) → joined (cells cell (first_shares cell units group units) rows) ≡ group
  cells_make_up rows group e =
      rows_joined rows group (omega arith) ∙ ap (λ (x : ℕ). take x group) (sym e) ∙ take-length group
