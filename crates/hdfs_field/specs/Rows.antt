-- Steps on the rows of a matrix.
use Rattle.std.specs.Prelude.{◌≡◌, ◌≢◌, ℕ, ◌<◌, ◌≤◌, List, [], length, slice_index_or}
use Rattle.hdfs_field.specs.Rings.{Operations}
use Rattle.hdfs_field.specs.Matrices.{width, IsGrid, entry}

-- m is a, but for the row r, whose entries before column k are those of f
pub record SetsBelow {T : Type 0} (ring : Operations T) (r k : ℕ) (f : ℕ → T) (a m : List (List T)) : Type 0 where
  pub grid : IsGrid m
  pub rows : length m ≡ length a
  pub cols : width m ≡ width a
  pub set : (c : ℕ) → c < k → entry ring m r c ≡ f c
  pub left : (c : ℕ) → k ≤ c → entry ring m r c ≡ entry ring a r c
  pub others : (i : ℕ) → i ≢ r → slice_index_or m i [] ≡ slice_index_or a i []

-- m is a, but for the row r, whose entries are those of f
abbrev pub SetsRow : {T : Type 0} → Operations T → ℕ → (ℕ → T) → List (List T) → List (List T) → Type 0
SetsRow ring r f a m = SetsBelow ring r (width a) f a m
