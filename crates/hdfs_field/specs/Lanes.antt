-- Vectors of 32 bytes, lane by lane. No public clause cites this module.
use Rattle.std.specs.Prelude.{◌≡◌, ℕ, ◌%◌, ◌<◌, List, [], length, slice_index, slice_index_or}
use Rattle.hdfs_field.specs.declared.gf256.GF256.{GF256}
use Rattle.hdfs_field.specs.Elements.{product, gf256}
use Rattle.hdfs_field.specs.Matrices.{entry}

-- v has 32 lanes, and lane k holds f k
pub record HasLanes (v : List ℕ) (f : ℕ → ℕ) : Type 0 where
  pub long : length v ≡ 32
  pub each : (k : ℕ) → k < 32 → slice_index v k ≡ f k

-- the products of c with the first sixteen elements
abbrev pub AreEntries : ℕ → List ℕ → Type 0
AreEntries c table = (i : ℕ) → i < 16 → slice_index table i ≡ product c i

-- the products of c with the first sixteen elements, twice over
abbrev pub AreProducts : ℕ → List ℕ → Type 0
AreProducts c table = HasLanes table (λ k. product c (k % 16))

-- the tables of the first entries of row r of a matrix, n of them: of each its products with the low and with the high halves of bytes
pub record AreRowTables (m : List (List GF256)) (r n : ℕ) (tables : List (List ℕ × List ℕ)) : Type 0 where
  pub count : length tables ≡ n
  pub low : (c : ℕ) → c < n → AreEntries (entry gf256 m r c).value (slice_index_or tables c ([], [])).0
  pub high : (c : ℕ) → c < n → AreEntries (product (entry gf256 m r c).value 16) (slice_index_or tables c ([], [])).1
