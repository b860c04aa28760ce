-- Reed-Solomon coding: each byte of a parity shard is a sum of products with the bytes of the data shards at its place.
use Rattle.std.specs.Prelude.{◌≡◌, ℕ, zero, suc, ◌+◌, ◌<◌, ◌≤◌, nat_lt, List, [], ◌∷◌, length, slice_index, slice_index_or, Option, Some, None, is_some, bit_xor, if◌then◌else◌}
use Rattle.hdfs_ec.specs.declared.coder.TheConstants.{SHARD_LIMIT}
use Rattle.hdfs_field.specs.declared.gf256.GF256.{GF256}
use Rattle.hdfs_field.specs.Polynomials.{IsProductOf}
use Rattle.hdfs_field.specs.Elements.{element, gf256, gf256_quotient}
use Rattle.hdfs_field.specs.Matrices.{width, entry, total, unit_at, IsInverse, selected_rows}
use Rattle.hdfs_field.specs.Slices.{byte_at, AreEven}

-- how many data and parity shards there may be
pub record IsCode (units parity : ℕ) : Type 0 where
  pub some_units : 1 ≤ units
  pub some_parity : 1 ≤ parity
  pub fits : units + parity ≤ SHARD_LIMIT

-- a code, by the numbers of its data and parity shards
pub record Code : Type 0 where
  pub units : ℕ
  pub parity : ℕ

-- what data shard c is multiplied by in the shard of number r: one, divided by the sum of the two numbers
abbrev pub coefficient : ℕ → ℕ → GF256
coefficient r c = gf256_quotient gf256.one (gf256.sum (element r) (element c))

-- row r, column c of the coding matrix: the identity above, and below it a row of coefficients for each parity shard
abbrev pub coding_at : ℕ → ℕ → ℕ → GF256
coding_at units r c = if nat_lt r units then unit_at gf256 r c else coefficient r c

-- the coding matrix
pub record IsCodingMatrix (units parity : ℕ) (m : List (List GF256)) : Type 0 where
  pub rows : length m ≡ units + parity
  pub cols : width m ≡ units
  pub entries : (r c : ℕ) → r < units + parity → c < units → entry gf256 m r c ≡ coding_at units r c

-- below the identity, the entry in row r and column c is one over the polynomial r xor c
abbrev pub InvertsSums : ℕ → ℕ → List (List GF256) → Type 0
InvertsSums units parity m =
    (r c : ℕ) → units ≤ r → r < units + parity → c < units → IsProductOf (entry gf256 m r c).value (bit_xor r c) 1

-- m is the inverse of the rows of these numbers of the coding matrix
abbrev pub InvertsRows : ℕ → ℕ → List ℕ → List (List GF256) → Type 0
InvertsRows units parity numbers m =
    (coding : List (List GF256)) → IsCodingMatrix units parity coding → IsInverse gf256 (selected_rows numbers coding) m

-- byte q of the parity shard of number r, the data shards having the numbers before it
abbrev pub parity_byte : List (List ℕ) → ℕ → ℕ → ℕ
parity_byte shards r q = (total gf256 (length shards) (λ c. gf256.product (coefficient r c) (element (byte_at shards c q)))).value

-- the parity shard of number r of these data shards
pub record IsParity (shards : List (List ℕ)) (r : ℕ) (parity : List ℕ) : Type 0 where
  pub long : length parity ≡ length (slice_index_or shards 0 [])
  pub bytes : (q : ℕ) → q < length parity → slice_index parity q ≡ parity_byte shards r q

-- the parity shards of these data shards, so many, in the order of their numbers
pub record AreParityShards (count : ℕ) (shards parities : List (List ℕ)) : Type 0 where
  pub size : length parities ≡ count
  pub each : (j : ℕ) → j < count → IsParity shards (length shards + j) (slice_index_or parities j [])

-- so many data shards, all of one length, of bytes
pub record AreDataShards (units : ℕ) (shards : List (List ℕ)) : Type 0 where
  pub even : AreEven units shards
  pub bytes : (i q : ℕ) → byte_at shards i q < 256

-- the shard of number r: a data shard, or behind them a parity shard
pub record IsShardOf (shards : List (List ℕ)) (r : ℕ) (shard : List ℕ) : Type 0 where
  pub given : r < length shards → shard ≡ slice_index_or shards r []
  pub parity : length shards ≤ r → IsParity shards r shard

-- ---- places, each empty or with a shard

-- what stands at place i
abbrev pub place : List (Option (List ℕ)) → ℕ → Option (List ℕ)
place places i = slice_index_or places i None

-- so many places, whose shards have one length, not 0
pub record ArePlaces (n : ℕ) (places : List (Option (List ℕ))) : Type 0 where
  pub count : length places ≡ n
  pub size : ℕ
  pub some : 0 < size
  pub even : (i : ℕ) (shard : List ℕ) → place places i ≡ Some shard → length shard ≡ size

-- how many of the first i places hold a shard
unfoldable pub held_before : ℕ → List (Option (List ℕ)) → ℕ
held_before zero places = 0
held_before (suc i) [] = 0
held_before (suc i) (p ∷ places) = (if is_some p then 1 else 0) + held_before i places

-- how many places hold a shard
abbrev pub held : List (Option (List ℕ)) → ℕ
held places = held_before (length places) places

-- the numbers of the empty places, of which the first has the number i
unfoldable pub empty_from : ℕ → List (Option (List ℕ)) → List ℕ
empty_from i [] = []
empty_from i (None ∷ places) = i ∷ empty_from (suc i) places
empty_from i (Some shard ∷ places) = empty_from (suc i) places

-- the numbers of the empty places, rising
abbrev pub empty_places : List (Option (List ℕ)) → List ℕ
empty_places places = empty_from 0 places

-- all of the first places hold a shard
abbrev pub AllHeld : ℕ → List (Option (List ℕ)) → Type 0
AllHeld units places = held_before units places ≡ units

-- The first places that hold a shard, as many as there are data shards, hold those of these data shards.
abbrev pub HoldShardsOf : List (List ℕ) → List (Option (List ℕ)) → Type 0
HoldShardsOf shards places =
    (i : ℕ) (shard : List ℕ) → place places i ≡ Some shard → held_before i places < length shards → IsShardOf shards i shard

-- what becomes of the places: those with a shard and those behind the data shards stay as they are, and every other gets
-- a shard as long as the others
pub record AreFilled (units : ℕ) (old new : List (Option (List ℕ))) : Type 0 where
  pub count : length new ≡ length old
  pub kept : (i : ℕ) (shard : List ℕ) → place old i ≡ Some shard → place new i ≡ Some shard
  pub parity : (i : ℕ) → units ≤ i → place new i ≡ place old i
  pub filled : (size i : ℕ) → ((j : ℕ) (shard : List ℕ) → place old j ≡ Some shard → length shard ≡ size) → i < units
      → (shard : List ℕ) × (place new i ≡ Some shard) × (length shard ≡ size)

-- every data place holds its data shard
abbrev pub HoldData : List (List ℕ) → List (Option (List ℕ)) → Type 0
HoldData shards places = (i : ℕ) → i < length shards → place places i ≡ Some (slice_index_or shards i [])

-- Where the first places that hold a shard held those of some data shards, every data place now holds its data shard.
abbrev pub RestoresData : ℕ → List (Option (List ℕ)) → List (Option (List ℕ)) → Type 0
RestoresData units old new =
    (data_shards : List (List ℕ)) → AreDataShards units data_shards → HoldShardsOf data_shards old → HoldData data_shards new
