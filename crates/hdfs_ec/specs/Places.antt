-- Places that may hold a shard.
use Rattle.std.specs.Prelude.{◌%◌, ◌≡◌, ◌≢◌, ℕ, suc, ◌<◌, List, [], ◌∷◌, length, slice_index, slice_index_or, Option, Some, None}
use Rattle.hdfs_ec.specs.Coding.{place, AreDataShards, HoldShardsOf}

-- each shard in the places has this length
abbrev pub AreLong : ℕ → List (Option (List ℕ)) → Type 0
AreLong size places = (i : ℕ) (shard : List ℕ) → place places i ≡ Some shard → length shard ≡ size

-- the length of each shard in the places is a multiple of this
abbrev pub AreWhole : ℕ → List (Option (List ℕ)) → Type 0
AreWhole cell places = (i : ℕ) (shard : List ℕ) → place places i ≡ Some shard → length shard % cell ≡ 0

-- the shards in the places have one length, not 0
abbrev pub HaveOneLength : List (Option (List ℕ)) → Type 0
HaveOneLength places = (size : ℕ) × (0 < size) × AreLong size places

-- the numbers of the places that hold a shard, of which the first place has the number i
unfoldable pub held_from : ℕ → List (Option (List ℕ)) → List ℕ
held_from i [] = []
held_from i (None ∷ places) = held_from (suc i) places
held_from i (Some shard ∷ places) = i ∷ held_from (suc i) places

-- the shards in their places
unfoldable pub held_shards : List (Option (List ℕ)) → List (List ℕ)
held_shards [] = []
held_shards (None ∷ places) = held_shards places
held_shards (Some shard ∷ places) = shard ∷ held_shards places

-- What the shards of these numbers are: as long as those in the places, and the data shards where the places hold theirs.
pub record IsRestored (units : ℕ) (places : List (Option (List ℕ))) (numbers : List ℕ) (shards : List (List ℕ)) : Type 0 where
  pub count : length shards ≡ length numbers
  pub long : (size : ℕ) → ((i : ℕ) (shard : List ℕ) → place places i ≡ Some shard → length shard ≡ size) → (j : ℕ) → j < length numbers → length (slice_index_or shards j []) ≡ size
  pub data_shards : (originals : List (List ℕ)) → AreDataShards units originals → HoldShardsOf originals places → (j : ℕ) → j < length numbers
      → slice_index_or shards j [] ≡ slice_index_or originals (slice_index numbers j) []

-- the first shards, n of them, are put into the places of these numbers, and every other place stays as it is
pub record ArePut (n : ℕ) (numbers : List ℕ) (shards : List (List ℕ)) (old new : List (Option (List ℕ))) : Type 0 where
  pub count : length new ≡ length old
  pub put : (j : ℕ) → j < n → place new (slice_index numbers j) ≡ Some (slice_index_or shards j [])
  pub left : (i : ℕ) → ((j : ℕ) → j < n → slice_index numbers j ≢ i) → place new i ≡ place old i
