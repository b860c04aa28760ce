-- Slices of bytes, whose bytes at one place are taken as elements of the field of 256 elements.
use Rattle.std.specs.Prelude.{◌≡◌, ℕ, ◌<◌, ◌≤◌, List, [], length, slice_index, slice_index_or}
use Rattle.hdfs_field.specs.declared.gf256.GF256.{GF256}
use Rattle.hdfs_field.specs.Elements.{element, gf256}
use Rattle.hdfs_field.specs.Matrices.{width, entry, total}

-- so many slices, all of one length
pub record AreEven (count : ℕ) (shards : List (List ℕ)) : Type 0 where
  pub size : length shards ≡ count
  pub even : (i : ℕ) → i < count → length (slice_index_or shards i []) ≡ length (slice_index_or shards 0 [])

-- byte q of a slice in a list of slices; past the end it is 0
abbrev pub byte_at : List (List ℕ) → ℕ → ℕ → ℕ
byte_at shards i q = slice_index (slice_index_or shards i []) q

-- row r of a matrix times the bytes at q of these slices
abbrev pub combined_at : List (List GF256) → List (List ℕ) → ℕ → ℕ → GF256
combined_at m shards r q = total gf256 (length shards) (λ i. gf256.product (entry gf256 m r i) (element (byte_at shards i q)))

-- each row of the matrix times these slices, byte by byte, is one of the others
pub record AreCombined (m : List (List GF256)) (shards others : List (List ℕ)) : Type 0 where
  pub count : length others ≡ length m
  pub long : (r : ℕ) → r < length m → length (slice_index_or others r []) ≡ length (slice_index_or shards 0 [])
  pub bytes : (r q : ℕ) → r < length m → q < length (slice_index_or shards 0 []) → byte_at others r q ≡ (combined_at m shards r q).value

-- each byte of the new slice is the old one's plus c times the input's
pub record IsAdded (c : GF256) (input old new : List ℕ) : Type 0 where
  pub long : length new ≡ length old
  pub bytes : (q : ℕ) → q < length old → slice_index new q ≡ (gf256.sum (element (slice_index old q)) (gf256.product c (element (slice_index input q)))).value

-- byte q of a slice with c times another added
abbrev pub added_at : GF256 → List ℕ → List ℕ → ℕ → ℕ
added_at c input old q = (gf256.sum (element (slice_index old q)) (gf256.product c (element (slice_index input q)))).value

-- the bytes before q are added up, the others are the old ones
pub record AddedBelow (c : GF256) (input old new : List ℕ) (q : ℕ) : Type 0 where
  pub long : length new ≡ length old
  pub done : (k : ℕ) → k < q → slice_index new k ≡ added_at c input old k
  pub left : (k : ℕ) → q ≤ k → slice_index new k ≡ slice_index old k

-- the first entries of row r of a matrix, n of them, times the bytes at q of these slices
abbrev pub combined_below : List (List GF256) → List (List ℕ) → ℕ → ℕ → ℕ → GF256
combined_below m shards r n q = total gf256 n (λ i. gf256.product (entry gf256 m r i) (element (byte_at shards i q)))

-- other is the first entries of row r of the matrix, n of them, times these slices, byte by byte
pub record IsCombined (m : List (List GF256)) (shards : List (List ℕ)) (r n : ℕ) (other : List ℕ) : Type 0 where
  pub long : length other ≡ length (slice_index_or shards 0 [])
  pub bytes : (q : ℕ) → q < length (slice_index_or shards 0 []) → slice_index other q ≡ (combined_below m shards r n q).value

-- so many slices, each of this length
pub record AreLong (count len : ℕ) (shards : List (List ℕ)) : Type 0 where
  pub size : length shards ≡ count
  pub even : (c : ℕ) → c < count → length (slice_index_or shards c []) ≡ len

-- the first bytes, so many, are the first entries of row r of the matrix, n of them, times these slices, byte by byte
pub record AreFirst (m : List (List GF256)) (shards : List (List ℕ)) (r n count : ℕ) (bytes : List ℕ) : Type 0 where
  pub each : (q : ℕ) → q < count → slice_index bytes q ≡ (combined_below m shards r n q).value

-- row r of the matrix times these slices, of this length, byte by byte
pub record IsRowProduct (m : List (List GF256)) (shards : List (List ℕ)) (r len : ℕ) (bytes : List ℕ) : Type 0 where
  pub long : length bytes ≡ len
  pub first : AreFirst m shards r (width m) len bytes
