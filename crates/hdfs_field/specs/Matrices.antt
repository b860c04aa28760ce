-- Matrices over a ring: a list of rows, each a list of entries.
use Rattle.std.specs.Prelude.{◌≡◌, ◌≢◌, ℕ, zero, suc, ◌<◌, ◌==◌, ◌||◌, Bool, false, List, [], ◌∷◌, length, slice_index_or, slice_set, All, if◌then◌else◌}
use Rattle.hdfs_field.specs.Rings.{Operations}

-- the number of columns
abbrev pub width : {T : Type 0} → List (List T) → ℕ
width grid = length (slice_index_or grid 0 [])

-- at least one row and one column, and rows of equal length
pub record IsGrid {T : Type 0} (grid : List (List T)) : Type 0 where
  pub rows : 0 < length grid
  pub cols : 0 < width grid
  pub even : All (λ row. length row ≡ width grid) grid

-- the entry in row r and column c
abbrev pub entry : {T : Type 0} → Operations T → List (List T) → ℕ → ℕ → T
entry ring grid r c = slice_index_or (slice_index_or grid r []) c ring.zero

-- the matrix with v in row r and column c
abbrev pub with_entry : {T : Type 0} → List (List T) → ℕ → ℕ → T → List (List T)
with_entry grid r c v = slice_set grid r (slice_set (slice_index_or grid r []) c v)

-- every entry of m is zero, in so many rows and columns
pub record IsZeroes {T : Type 0} (ring : Operations T) (rows cols : ℕ) (m : List (List T)) : Type 0 where
  pub height : length m ≡ rows
  pub wide : width m ≡ cols
  pub entries : (r c : ℕ) → r < rows → c < cols → entry ring m r c ≡ ring.zero

-- the sum of f 0, f 1 and so on, n of them
unfoldable pub total : {T : Type 0} → Operations T → ℕ → (ℕ → T) → T
total ring zero f = ring.zero
total ring (suc n) f = ring.sum (total ring n f) (f n)

-- row r of a times column c of b
abbrev pub product_at : {T : Type 0} → Operations T → List (List T) → List (List T) → ℕ → ℕ → T
product_at ring a b r c = total ring (length b) (λ i. ring.product (entry ring a r i) (entry ring b i c))

-- m is the product of a and b
pub record IsMatrixProduct {T : Type 0} (ring : Operations T) (a b m : List (List T)) : Type 0 where
  pub rows : length m ≡ length a
  pub cols : width m ≡ width b
  pub entries : (r c : ℕ) → r < length a → c < width b → entry ring m r c ≡ product_at ring a b r c

-- the entry of an identity: one on the diagonal, else zero
abbrev pub unit_at : {T : Type 0} → Operations T → ℕ → ℕ → T
unit_at ring r c = if r == c then ring.one else ring.zero

-- m is the identity with n rows
pub record IsIdentity {T : Type 0} (ring : Operations T) (n : ℕ) (m : List (List T)) : Type 0 where
  pub rows : length m ≡ n
  pub cols : width m ≡ n
  pub entries : (r c : ℕ) → r < n → c < n → entry ring m r c ≡ unit_at ring r c

-- b has the size of the square matrix a, and the products of a and b, in both orders, are the identity
pub record IsInverse {T : Type 0} (ring : Operations T) (a b : List (List T)) : Type 0 where
  pub rows : length b ≡ length a
  pub cols : width b ≡ length a
  pub right : (r c : ℕ) → r < length a → c < length a → product_at ring a b r c ≡ unit_at ring r c
  pub left : (r c : ℕ) → r < length a → c < length a → product_at ring b a r c ≡ unit_at ring r c

-- some columns, each taken so many times and at least one not zero times, add up to a column of zeros
pub record IsSingular {T : Type 0} (ring : Operations T) (a : List (List T)) : Type 0 where
  pub times : ℕ → T
  pub some : ℕ
  pub within : some < width a
  pub taken : times some ≢ ring.zero
  pub vanishes : (r : ℕ) → r < length a → total ring (width a) (λ c. ring.product (entry ring a r c) (times c)) ≡ ring.zero

-- whether the number is in the list
unfoldable pub is_listed : List ℕ → ℕ → Bool
is_listed [] n = false
is_listed (m ∷ numbers) n = (m == n) || is_listed numbers n

-- the rows whose numbers are in the list, in their order, where the first has the number r
unfoldable pub rows_from : {T : Type 0} → ℕ → List ℕ → List (List T) → List (List T)
rows_from r numbers [] = []
rows_from r numbers (row ∷ rows) = if is_listed numbers r then row ∷ rows_from (suc r) numbers rows else rows_from (suc r) numbers rows

-- the rows whose numbers are in the list, in their order
abbrev pub selected_rows : {T : Type 0} → List ℕ → List (List T) → List (List T)
selected_rows numbers rows = rows_from 0 numbers rows
