-- How the missing data shards come from the shards that are there. No public clause cites this module.
use Rattle.std.specs.Prelude.{◌≡◌, ◌≢◌, ℕ, ◌+◌, ◌-◌, ◌<◌, ◌≤◌, ◌⊎◌, nat_lt, List, length, slice_index, if◌then◌else◌}
use Rattle.std.specs.List.Sorted.{IsStrictlyIncreasing}
use Rattle.hdfs_field.specs.declared.gf256.GF256.{GF256}
use Rattle.hdfs_field.specs.Elements.{gf256}
use Rattle.hdfs_field.specs.Matrices.{width, entry, total, unit_at}
use Rattle.hdfs_ec.specs.Coding.{coefficient, coding_at, IsCode}

-- the number stands at one of the first places of the list
abbrev pub StandsBefore : ℕ → List ℕ → ℕ → Type 0
StandsBefore n numbers c = (i : ℕ) × (i < n) × (slice_index numbers i ≡ c)

-- The numbers of the shards that are there, as many as there are data shards: before the place first those of data shards, and from
-- it on those of parity shards, one for each missing data shard. The missing ones are the other data shards.
pub record AreSplit (units parity : ℕ) (held : List ℕ) (first : ℕ) (missing : List ℕ) : Type 0 where
  pub code : IsCode units parity
  pub count : length held ≡ units
  pub size : first + length missing ≡ units
  pub some : 0 < length missing
  pub held_rise : IsStrictlyIncreasing held
  pub missing_rise : IsStrictlyIncreasing missing
  pub in_data : (i : ℕ) → i < first → slice_index held i < units
  pub in_parity : (i : ℕ) → first ≤ i → i < units → (units ≤ slice_index held i) × (slice_index held i < units + parity)
  pub lost : (j : ℕ) → j < length missing → slice_index missing j < units
  pub apart : (i j : ℕ) → i < first → j < length missing → slice_index held i ≢ slice_index missing j
  pub whole : (c : ℕ) → c < units → StandsBefore first held c ⊎ StandsBefore (length missing) missing c

-- what the missing data shards are multiplied by in the parity shards that are there
pub record IsMinor (held : List ℕ) (first : ℕ) (missing : List ℕ) (m : List (List GF256)) : Type 0 where
  pub rows : length m ≡ length missing
  pub cols : width m ≡ length missing
  pub entries : (i j : ℕ) → i < length missing → j < length missing → entry gf256 m i j ≡ coefficient (slice_index held (first + i)) (slice_index missing j)

-- row j of a matrix times the parity shards that are there, n of them, as far as data shard c is in them
abbrev pub weight_in : List (List GF256) → List ℕ → ℕ → ℕ → ℕ → ℕ → GF256
weight_in m held first n j c = total gf256 n (λ t. gf256.product (entry gf256 m j t) (coefficient (slice_index held (first + t)) c))

-- the inverse of that matrix, from the left
pub record InvertsMinor (held : List ℕ) (first : ℕ) (missing : List ℕ) (m : List (List GF256)) : Type 0 where
  pub rows : length m ≡ length missing
  pub cols : width m ≡ length missing
  pub left : (j l : ℕ) → j < length missing → l < length missing → weight_in m held first (length missing) j (slice_index missing l) ≡ unit_at gf256 j l

-- how often the data shard at place i of those that are there is in row j of the inverse times the parity shards
abbrev pub taken_off : List (List GF256) → List ℕ → ℕ → ℕ → ℕ → ℕ → GF256
taken_off m held first n j i = weight_in m held first n j (slice_index held i)

-- what the shard at place i of those that are there is multiplied by in the missing data shard at place j
abbrev pub restoring_at : List (List GF256) → List ℕ → ℕ → ℕ → ℕ → ℕ → GF256
restoring_at m held first n j i =
    if nat_lt i first then gf256.difference gf256.zero (taken_off m held first n j i) else entry gf256 m j (i - first)

-- each row times the rows of the coding matrix of the shards that are there is that of a missing data shard
pub record Restores (units : ℕ) (held missing : List ℕ) (m : List (List GF256)) : Type 0 where
  pub rows : length m ≡ length missing
  pub cols : width m ≡ units
  pub back : (j c : ℕ) → j < length missing → c < units
      → total gf256 units (λ i. gf256.product (entry gf256 m j i) (coding_at units (slice_index held i) c)) ≡ unit_at gf256 (slice_index missing j) c
