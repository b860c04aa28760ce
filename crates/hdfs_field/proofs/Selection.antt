-- The rows of a matrix whose numbers are in a list.
use Rattle.std.proofs.Common.{◌≡◌, ◌≢◌, ℕ, zero, suc, ◌+◌, ◌<◌, ◌≤◌, ◌==◌, Bool, true, false, cond, ◌||◌, List, [], ◌∷◌, ◌++◌, length, get_or, set, take, drop, inl, inr, refl, sym, ap, subst, ◌∙◌, eq-eqb, arith}
use Rattle.std.specs.List.{swap, Contains, list_any}
use Rattle.std.specs.List.Sorted.{IsStrictlyIncreasing}
use Rattle.std.proofs.lemmas.Bool.{cases_eq, ne_eqb}
use Rattle.std.proofs.lemmas.List.{take_more, take-set-le, drop-set-lt, get_or-drop, take_all, append-nil, drop-drop, length-take-le}
use Rattle.std.proofs.lemmas.List.Edits.{swap_is, length-swap}
use Rattle.std.proofs.lemmas.List.Kept.{AllPairs-from_increasing}
use Rattle.hdfs_field.specs.Rings.{Operations}
use Rattle.hdfs_field.specs.Matrices.{width, IsGrid, entry, is_listed, rows_from, selected_rows}
use Rattle.hdfs_field.proofs.Grids.{row-swap, row_width, grid_from}

-- whether a number is in a list, as `contains` answers it
pub listed_any : (numbers : List ℕ) (n : ℕ) → list_any (λ y. y == n) numbers ≡ is_listed numbers n
unfolding is_listed
listed_any [] n = refl
listed_any (m ∷ numbers) n = ap (λ (b : Bool). (m == n) || b) (listed_any numbers n)

or_true : (b : Bool) → (b || true) ≡ true
or_true true = refl
or_true false = refl

pub listed_at : (numbers : List ℕ) (k n : ℕ) → k < length numbers → get_or numbers k n ≡ n → is_listed numbers n ≡ true
unfolding is_listed
listed_at [] k n lt e = absurd (omega arith)
listed_at (m ∷ numbers) zero n lt e = ap (λ (b : Bool). b || is_listed numbers n) (eq-eqb m n e)
listed_at (m ∷ numbers) (suc k) n lt e = ap (λ (b : Bool). (m == n) || b) (listed_at numbers k n (omega arith) e) ∙ or_true (m == n)

-- a number that is below all of a list is not in it
pub not_listed : (numbers : List ℕ) (n : ℕ) → ((k : ℕ) → k < length numbers → n < get_or numbers k 0) → is_listed numbers n ≡ false
unfolding is_listed
not_listed [] n all = refl
not_listed (m ∷ numbers) n all =
    let above : n < m = all 0 (omega arith) in
    ap (λ (b : Bool). b || is_listed numbers n) (ne_eqb m n (omega arith)) ∙ not_listed numbers n (λ k lt. all (suc k) (omega arith))

module _ {T : Type 0} (numbers : List ℕ) where
  -- one more row
  pub rows_from_push : (s : ℕ) (xs : List (List T)) (row : List T) → rows_from s numbers (xs ++ row ∷ []) ≡ rows_from s numbers xs ++ cond (is_listed numbers (s + length xs)) (row ∷ []) []
  unfolding rows_from
  rows_from_push s [] row =
      ap (λ (k : ℕ). cond (is_listed numbers k) (row ∷ []) []) (let e : s ≡ s + 0 = omega arith in e)
  rows_from_push s (x ∷ xs) row =
      let shift : suc s + length xs ≡ s + suc (length xs) = omega arith in
      let rest = rows_from_push (suc s) xs row ∙ ap (λ (k : ℕ). rows_from (suc s) numbers xs ++ cond (is_listed numbers k) (row ∷ []) []) shift in
      let tail = cond (is_listed numbers (s + suc (length xs))) (row ∷ []) [] in
      elim (is_listed numbers s) as (λ b. cond b (x ∷ rows_from (suc s) numbers (xs ++ row ∷ [])) (rows_from (suc s) numbers (xs ++ row ∷ [])) ≡ cond b (x ∷ rows_from (suc s) numbers xs) (rows_from (suc s) numbers xs) ++ tail) [
        | true ↦ ap (λ (ys : List (List T)). x ∷ ys) rest
        | false ↦ rest
      ]

  pub some_rows : (s k : ℕ) (xs : List (List T)) → k < length xs → is_listed numbers (s + k) ≡ true → 0 < length (rows_from s numbers xs)
  unfolding rows_from
  some_rows s k [] lt e = absurd (omega arith)
  some_rows s zero (x ∷ xs) lt e =
      let here : is_listed numbers s ≡ true = ap (is_listed numbers) (let z : s ≡ s + 0 = omega arith in z) ∙ e in
      subst (λ (b : Bool). 0 < length (cond b (x ∷ rows_from (suc s) numbers xs) (rows_from (suc s) numbers xs))) (sym here) (omega arith)
  some_rows s (suc k) (x ∷ xs) lt e =
      let shift : suc s + k ≡ s + suc k = omega arith in
      let rest = some_rows (suc s) k xs (omega arith) (ap (is_listed numbers) shift ∙ e) in
      elim (is_listed numbers s) as (λ b. 0 < length (cond b (x ∷ rows_from (suc s) numbers xs) (rows_from (suc s) numbers xs))) [ true ↦ omega arith | false ↦ rest ]

-- the first `kept` rows of m are those among the first r of a, and its rows from r on are those of a
pub record KeepsBelow {T : Type 0} (numbers : List ℕ) (r kept : ℕ) (a m : List (List T)) : Type 0 where
  pub rows : length m ≡ length a
  pub before : kept ≤ r
  pub front : take kept m ≡ rows_from 0 numbers (take r a)
  pub rest : drop r m ≡ drop r a

module _ {T : Type 0} (numbers : List ℕ) (a : List (List T)) where
  pub keeps_none : KeepsBelow numbers 0 0 a a
  unfolding rows_from
  keeps_none = record { rows = refl; before = omega arith; front = refl; rest = refl }

  front_more : (r : ℕ) → r < length a → rows_from 0 numbers (take (r + 1) a) ≡ rows_from 0 numbers (take r a) ++ cond (is_listed numbers r) (get_or a r [] ∷ []) []
  front_more r lt =
      let size : 0 + length (take r a) ≡ r = omega (arith, length-take-le r a (omega arith)) in
      ap (rows_from 0 numbers) (take_more a r [] lt) ∙ rows_from_push numbers 0 (take r a) (get_or a r [])
      ∙ ap (λ (k : ℕ). rows_from 0 numbers (take r a) ++ cond (is_listed numbers k) (get_or a r [] ∷ []) []) size

  rest_more : (r : ℕ) (m : List (List T)) → drop r m ≡ drop r a → drop (r + 1) m ≡ drop (r + 1) a
  rest_more r m e = sym (drop-drop 1 r m) ∙ ap (drop 1) e ∙ drop-drop 1 r a

  same_row : (r : ℕ) (m : List (List T)) → drop r m ≡ drop r a → get_or m r [] ≡ get_or a r []
  same_row r m e =
      let z : r ≡ r + 0 = omega arith in
      ap (λ (k : ℕ). get_or m k []) z ∙ sym (get_or-drop r m 0 []) ∙ ap (λ (xs : List (List T)). get_or xs 0 []) e ∙ get_or-drop r a 0 []
      ∙ ap (λ (k : ℕ). get_or a k []) (sym z)

  pub keeps_skip : (r kept : ℕ) (m : List (List T)) → KeepsBelow numbers r kept a m → r < length a → is_listed numbers r ≡ false → KeepsBelow numbers (r + 1) kept a m
  keeps_skip r kept m h lt not =
      let before = h.before in
      record {
        rows = h.rows;
        before = omega arith;
        front =
            h.front ∙ sym (append-nil (rows_from 0 numbers (take r a)))
            ∙ ap (λ (b : Bool). rows_from 0 numbers (take r a) ++ cond b (get_or a r [] ∷ []) []) (sym not) ∙ sym (front_more r lt);
        rest = rest_more r m h.rest;
      }

  pub keeps_take : (r kept : ℕ) (m : List (List T)) → KeepsBelow numbers r kept a m → r < length a → is_listed numbers r ≡ true → KeepsBelow numbers (r + 1) (kept + 1) a (swap m kept r)
  keeps_take r kept m h lt here =
      let rows = h.rows in
      let before = h.before in
      let in_kept : kept < length m = omega arith in
      let in_r : r < length m = omega arith in
      let is = swap_is m kept r [] in_kept in_r in
      let w = get_or m r [] in
      let u = get_or m kept [] in
      let size = length-swap m kept r in
      let front : take kept (swap m kept r) ≡ take kept m
      = ap (take kept) (sym is) ∙ take-set-le kept (set m kept w) r u h.before ∙ take-set-le kept m kept w (omega arith) in
      let moved = (row-swap m kept r 0 in_kept in_r).0 ∙ same_row r m h.rest in
      let back : drop (r + 1) (swap m kept r) ≡ drop (r + 1) m
      = ap (drop (r + 1)) (sym is) ∙ drop-set-lt (r + 1) (set m kept w) r u (omega arith) ∙ drop-set-lt (r + 1) m kept w (omega arith) in
      record {
        rows = size ∙ rows;
        before = omega arith;
        front =
            take_more (swap m kept r) kept [] (omega arith) ∙ ap (λ (xs : List (List T)). xs ++ get_or (swap m kept r) kept [] ∷ []) (front ∙ h.front)
            ∙ ap (λ (row : List T). rows_from 0 numbers (take r a) ++ row ∷ []) moved
            ∙ ap (λ (b : Bool). rows_from 0 numbers (take r a) ++ cond b (get_or a r [] ∷ []) []) (sym here) ∙ sym (front_more r lt);
        rest = back ∙ rest_more r m h.rest;
      }

  pub keeps_taken : (r kept kept' : ℕ) (m m' : List (List T)) → KeepsBelow numbers r kept a m → r < length a → is_listed numbers r ≡ true → kept' ≡ kept + 1 → m' ≡ swap m kept r → KeepsBelow numbers (r + 1) kept' a m'
  keeps_taken r kept kept' m m' h lt here more is =
      subst (λ (k : ℕ). KeepsBelow numbers (r + 1) k a m') (sym more) (subst (KeepsBelow numbers (r + 1) (kept + 1) a) (sym is) (keeps_take r kept m h lt here))

  pub keeps_skipped : (r kept kept' : ℕ) (m m' : List (List T)) → KeepsBelow numbers r kept a m → r < length a → is_listed numbers r ≡ false → kept' ≡ kept → m' ≡ m → KeepsBelow numbers (r + 1) kept' a m'
  keeps_skipped r kept kept' m m' h lt not same is =
      subst (λ (k : ℕ). KeepsBelow numbers (r + 1) k a m') (sym same) (subst (KeepsBelow numbers (r + 1) kept a) (sym is) (keeps_skip r kept m h lt not))

  pub keeps_all : (r kept : ℕ) (m : List (List T)) → KeepsBelow numbers r kept a m → length a ≤ r → take kept m ≡ selected_rows numbers a
  keeps_all r kept m h all = h.front ∙ ap (rows_from 0 numbers) (take_all r a all)

  pub keeps_some : (r kept n : ℕ) (m : List (List T)) → KeepsBelow numbers r kept a m → r ≡ length a → Contains numbers n → n < length a → 0 < kept
  keeps_some r kept n m h end has lt =
      let listed = listed_at numbers has.0 n has.1 has.2 in
      let same = ap (is_listed numbers) (let z : 0 + n ≡ n = omega arith in z) in
      let some = some_rows numbers 0 n a lt (same ∙ listed) in
      let size = ap length (keeps_all r kept m h (omega arith)) in
      let rows = h.rows in
      let before = h.before in
      omega (arith, length-take-le kept m (omega arith))

-- a selection by numbers that rise
module _ {T : Type 0} where
  pub no_rows : (s : ℕ) (rows : List (List T)) → rows_from s [] rows ≡ []
  unfolding rows_from is_listed
  no_rows s [] = refl
  no_rows s (row ∷ rows) = no_rows (suc s) rows

  -- a number below the first row's changes nothing
  pub rows_past : (n s : ℕ) (numbers : List ℕ) (rows : List (List T)) → n < s → rows_from s (n ∷ numbers) rows ≡ rows_from s numbers rows
  unfolding rows_from is_listed
  rows_past n s numbers [] lt = refl
  rows_past n s numbers (row ∷ rows) lt =
      let rest = rows_past n (suc s) numbers rows (omega arith) in
      ap (λ (b : Bool). cond (b || is_listed numbers s) (row ∷ rows_from (suc s) (n ∷ numbers) rows) (rows_from (suc s) (n ∷ numbers) rows)) (ne_eqb n s (omega arith))
      ∙ ap (λ (xs : List (List T)). cond (is_listed numbers s) (row ∷ xs) xs) rest

-- numbers that rise, from s on and below e
pub record RiseFrom (s e : ℕ) (numbers : List ℕ) : Type 0 where
  pub from : (k : ℕ) → k < length numbers → s ≤ get_or numbers k 0
  pub below : (k : ℕ) → k < length numbers → get_or numbers k 0 < e
  pub rise : (i j : ℕ) → i < j → j < length numbers → get_or numbers i 0 < get_or numbers j 0

-- what a selection by rising numbers gives
pub record Selects {T : Type 0} (s : ℕ) (numbers : List ℕ) (rows selected : List (List T)) : Type 0 where
  pub size : length selected ≡ length numbers
  pub row : (i : ℕ) → i < length numbers → (k : ℕ) → s + k ≡ get_or numbers i 0 → get_or selected i [] ≡ get_or rows k []

pub rise_tail : (s e n : ℕ) (numbers : List ℕ) → RiseFrom s e (n ∷ numbers) → RiseFrom (suc n) e numbers
rise_tail s e n numbers h = record {
  from = λ k lt. let above : n < get_or numbers k 0 = h.rise 0 (suc k) (omega arith) (omega arith) in omega arith;
  below = λ k lt. h.below (suc k) (omega arith);
  rise = λ i j lt in_j. h.rise (suc i) (suc j) (omega arith) (omega arith);
}

pub rise_later : (s e : ℕ) (numbers : List ℕ) → RiseFrom s e numbers → ((k : ℕ) → k < length numbers → s < get_or numbers k 0) → RiseFrom (suc s) e numbers
rise_later s e numbers h all = record { from = λ k lt. let a = all k lt in omega arith; below = h.below; rise = h.rise }

pub rise_above : (s e n : ℕ) (numbers : List ℕ) → RiseFrom s e (n ∷ numbers) → n ≢ s → (k : ℕ) → k < length (n ∷ numbers) → s < get_or (n ∷ numbers) k 0
rise_above s e n numbers h apart zero lt = let least : s ≤ n = h.from 0 lt in omega arith
rise_above s e n numbers h apart (suc k) lt =
    let least : s ≤ n = h.from 0 (omega arith) in
    let above : n < get_or numbers k 0 = h.rise 0 (suc k) (omega arith) lt in
    omega arith

module _ {T : Type 0} where
  selects_cons : (s n : ℕ) (numbers : List ℕ) (row : List T) (rows selected : List (List T)) → n ≡ s → RiseFrom (suc s) (suc s + length rows) numbers → Selects (suc s) numbers rows selected → Selects s (n ∷ numbers) (row ∷ rows) (row ∷ selected)
  selects_cons s n numbers row rows selected here rise h = record { size = ap suc h.size; row = at }
    where
      at : (i : ℕ) → i < length (n ∷ numbers) → (k : ℕ) → s + k ≡ get_or (n ∷ numbers) i 0 → get_or (row ∷ selected) i [] ≡ get_or (row ∷ rows) k []
      at zero lt zero e = refl
      at zero lt (suc k) e = absurd (omega arith)
      at (suc i) lt zero e = let least = rise.from i (omega arith) in absurd (omega arith)
      at (suc i) lt (suc k) e = h.row i (omega arith) k (omega arith)

  selects_skip : (s : ℕ) (numbers : List ℕ) (row : List T) (rows selected : List (List T)) → RiseFrom (suc s) (suc s + length rows) numbers → Selects (suc s) numbers rows selected → Selects s numbers (row ∷ rows) selected
  selects_skip s numbers row rows selected rise h = record { size = h.size; row = at }
    where
      at : (i : ℕ) → i < length numbers → (k : ℕ) → s + k ≡ get_or numbers i 0 → get_or selected i [] ≡ get_or (row ∷ rows) k []
      at i lt zero e = let least = rise.from i lt in absurd (omega arith)
      at i lt (suc k) e = h.row i lt k (omega arith)

  pub selects_from : (s : ℕ) (numbers : List ℕ) (rows : List (List T)) → RiseFrom s (s + length rows) numbers → Selects s numbers rows (rows_from s numbers rows)
  unfolding rows_from is_listed
  selects_from s [] rows h = record { size = ap length (no_rows s rows); row = λ i lt k e. absurd (omega arith) }
  selects_from s (n ∷ numbers) [] h = absurd (let a = h.from 0 (omega arith) in let b = h.below 0 (omega arith) in omega arith)
  selects_from s (n ∷ numbers) (row ∷ rows) h =
      let end : s + length (row ∷ rows) ≡ suc s + length rows = omega arith in
      let R = rows_from (suc s) (n ∷ numbers) rows in
      let P : Bool → Type 0 = λ b. Selects s (n ∷ numbers) (row ∷ rows) (cond b (row ∷ R) R) in
      elim (cases_eq n s) [
        | inl e ↦
            let listed : ((n == s) || is_listed numbers s) ≡ true = ap (λ (b : Bool). b || is_listed numbers s) (eq-eqb n s e) in
            let rise = subst (λ (k : ℕ). RiseFrom (suc k) (suc s + length rows) numbers) e (subst (λ (k : ℕ). RiseFrom (suc n) k numbers) end (rise_tail s (s + length (row ∷ rows)) n numbers h)) in
            let past = rows_past n (suc s) numbers rows (omega arith) in
            let rest = subst (Selects (suc s) numbers rows) (sym past) (selects_from (suc s) numbers rows rise) in
            subst P (sym listed) (selects_cons s n numbers row rows R e rise rest)
        | inr apart ↦
            let above = rise_above s (s + length (row ∷ rows)) n numbers h apart in
            let none : ((n == s) || is_listed numbers s) ≡ false = not_listed (n ∷ numbers) s above in
            let rise = subst (λ (k : ℕ). RiseFrom (suc s) k (n ∷ numbers)) end (rise_later s (s + length (row ∷ rows)) (n ∷ numbers) h above) in
            subst P (sym none) (selects_skip s (n ∷ numbers) row rows R rise (selects_from (suc s) (n ∷ numbers) rows rise))
      ]

-- numbers that rise and are below e
pub rise_from : (e : ℕ) (numbers : List ℕ) → IsStrictlyIncreasing numbers → ((k : ℕ) → k < length numbers → get_or numbers k 0 < e) → RiseFrom 0 e numbers
rise_from e numbers rising below = record {
  from = λ k lt. omega arith;
  below = below;
  rise = λ i j lt in_j. AllPairs-from_increasing numbers rising i j 0 lt in_j;
}

-- A selection by rising numbers of rows that are there: as many rows as numbers, and each the row of its number.
module _ {T : Type 0} (numbers : List ℕ) (rows : List (List T)) (rising : IsStrictlyIncreasing numbers) (below : (k : ℕ) → k < length numbers → get_or numbers k 0 < length rows) where
  selects : Selects 0 numbers rows (selected_rows numbers rows)
  selects =
      let e : length rows ≡ 0 + length rows = omega arith in
      selects_from 0 numbers rows (subst (λ (k : ℕ). RiseFrom 0 k numbers) e (rise_from (length rows) numbers rising below))

  pub length-selected_rows : length (selected_rows numbers rows) ≡ length numbers
  length-selected_rows = selects.size

  pub row-selected_rows : (i : ℕ) → i < length numbers → get_or (selected_rows numbers rows) i [] ≡ get_or rows (get_or numbers i 0) []
  row-selected_rows i lt = selects.row i lt (get_or numbers i 0) (omega arith)

  pub grid-selected_rows : IsGrid rows → 0 < length numbers → IsGrid (selected_rows numbers rows)
  grid-selected_rows grid some =
      let size = length-selected_rows in
      grid_from (selected_rows numbers rows) (width rows) (omega arith) grid.cols
      (λ i lt. ap length (row-selected_rows i (omega arith)) ∙ row_width rows (get_or numbers i 0) grid (below i (omega arith)))

  pub width-selected_rows : IsGrid rows → 0 < length numbers → width (selected_rows numbers rows) ≡ width rows
  width-selected_rows grid some = ap length (row-selected_rows 0 some) ∙ row_width rows (get_or numbers 0 0) grid (below 0 some)

  pub entry-selected_rows : (ring : Operations T) (i c : ℕ) → i < length numbers → entry ring (selected_rows numbers rows) i c ≡ entry ring rows (get_or numbers i 0) c
  entry-selected_rows ring i c lt = ap (λ (row : List T). get_or row c ring.zero) (row-selected_rows i lt)
