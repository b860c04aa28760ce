-- The stripes of a group: a place for each shard.
use Rattle.std.specs.Prelude.{◌≡◌, ◌⊎◌, ℕ, ◌+◌, ◌/◌, ◌≤◌, List, [], length, slice_index_or, Option, codes}
use Rattle.hdfs_ec.specs.declared.schema.EcSchema.{EcSchema}
use Rattle.hdfs_ec.specs.Coding.{AreDataShards, ArePlaces, HoldShardsOf, AllHeld, held}
use Rattle.hdfs_ec.specs.Places.{AreWhole}
use Rattle.hdfs_ec.specs.Striping.{cells}

-- one place for each shard, whose shards have one length, not 0, of whole cells
abbrev pub AreStripes : EcSchema → List (Option (List ℕ)) → Type 0
AreStripes s places = ArePlaces (s.data_units + s.parity_units) places × AreWhole s.cell_size places

-- no data shard is missing, or the codec is `rs` and as many shards are there as data shards
abbrev pub HoldEnough : EcSchema → List (Option (List ℕ)) → Type 0
HoldEnough s places = AllHeld s.data_units places ⊎ ((s.codec_name ≡ codes "rs") × (s.data_units ≤ held places))

-- Where the first places that hold a shard hold those of some data shards, these are the cells of the data shards, row by row.
abbrev pub AreCellsOf : EcSchema → List (Option (List ℕ)) → List (List ℕ) → Type 0
AreCellsOf s places pieces =
    (data_shards : List (List ℕ)) → AreDataShards s.data_units data_shards → HoldShardsOf data_shards places
    → pieces ≡ cells s.cell_size data_shards (length (slice_index_or data_shards 0 []) / s.cell_size)
