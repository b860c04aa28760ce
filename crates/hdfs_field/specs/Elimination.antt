-- Elimination on a pair of square matrices, whose rows are changed alike.
use Rattle.std.specs.Prelude.{◌≡◌, ℕ, ◌<◌, List, length}
use Rattle.hdfs_field.specs.Rings.{Operations}
use Rattle.hdfs_field.specs.Matrices.{width, entry, total, unit_at}

-- row r of m, of which n entries count, times the column v
abbrev pub row_times : {T : Type 0} → Operations T → ℕ → List (List T) → ℕ → (ℕ → T) → T
row_times ring n m r v = total ring n (λ c. ring.product (entry ring m r c) (v c))

-- row r of the pair times the column of v above u
abbrev pub pair_times : {T : Type 0} → Operations T → ℕ → List (List T) → List (List T) → ℕ → (ℕ → T) → (ℕ → T) → T
pair_times ring n left right r v u = ring.sum (row_times ring n left r v) (row_times ring n right r u)

-- each row of the pair takes the column of v above u to zero
abbrev pub Vanishes : {T : Type 0} → Operations T → ℕ → List (List T) → List (List T) → (ℕ → T) → (ℕ → T) → Type 0
Vanishes ring n left right v u = (r : ℕ) → r < n → pair_times ring n left right r v u ≡ ring.zero

-- both have n rows and n columns
pub record IsPair {T : Type 0} (n : ℕ) (left right : List (List T)) : Type 0 where
  pub rows : length left ≡ n
  pub cols : width left ≡ n
  pub right_rows : length right ≡ n
  pub right_cols : width right ≡ n

-- the later pair has the same size, and takes the same columns to zero
pub record Follows {T : Type 0} (ring : Operations T) (n : ℕ) (left right left' right' : List (List T)) : Type 0 where
  pub pair : IsPair n left' right'
  pub onward : (v u : ℕ → T) → Vanishes ring n left right v u → Vanishes ring n left' right' v u
  pub back : (v u : ℕ → T) → Vanishes ring n left' right' v u → Vanishes ring n left right v u

-- the first r columns are those of the identity
pub record HasUnits {T : Type 0} (ring : Operations T) (n r : ℕ) (m : List (List T)) : Type 0 where
  pub at : (i c : ℕ) → i < n → c < r → entry ring m i c ≡ unit_at ring i c
