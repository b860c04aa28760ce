-- Parts of the coder's work.
use Rattle.std.specs.Prelude.{◌≡◌, ℕ, ◌+◌, ◌<◌, List, length, slice_index}
use Rattle.hdfs_field.specs.declared.gf256.GF256.{GF256}
use Rattle.hdfs_field.specs.Elements.{gf256}
use Rattle.hdfs_field.specs.Matrices.{width, entry}
use Rattle.hdfs_ec.specs.Coding.{coefficient}

-- numbers one after another, count of them, from start on
pub record IsRange (start count : ℕ) (numbers : List ℕ) : Type 0 where
  pub size : length numbers ≡ count
  pub at : (k : ℕ) → k < count → slice_index numbers k ≡ start + k

-- the rows of the coding matrix below the identity
pub record AreParityRows (units parity : ℕ) (m : List (List GF256)) : Type 0 where
  pub rows : length m ≡ parity
  pub cols : width m ≡ units
  pub entries : (j c : ℕ) → j < parity → c < units → entry gf256 m j c ≡ coefficient (units + j) c
