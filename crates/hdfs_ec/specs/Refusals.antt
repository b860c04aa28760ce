-- What refuses a policy, or stripes.
use Rattle.std.specs.Prelude.{◌≡◌, ◌≢◌, ◌⊎◌, ◌<◌, ℕ, List, Option, Result, Err, codes}
use Rattle.hdfs_ec.specs.declared.fault.EcFault.{EcFault}
use Rattle.hdfs_ec.specs.declared.fault.EcFault.TheVariants.{NoMemory, ErasureCodingError, UnsupportedErasureCodingPolicy}
use Rattle.hdfs_ec.specs.declared.fault.EcRefusal.{EcRefusal}
use Rattle.hdfs_ec.specs.declared.fault.EcRefusal.TheVariants.{Codec}
use Rattle.hdfs_ec.specs.declared.schema.EcSchema.{EcSchema}
use Rattle.hdfs_ec.specs.Coding.{AllHeld, held, empty_places}

-- the fault is want of memory, or names why there is no schema
abbrev pub RefusesPolicy : Result EcSchema EcRefusal → EcFault → Type 0
RefusesPolicy schema e = (e ≡ NoMemory) ⊎ ((why : EcRefusal) × (e ≡ UnsupportedErasureCodingPolicy why) × (schema ≡ Err why))

-- The fault is want of memory. Or it names the empty places, a data shard is missing, and fewer shards are there than data shards.
abbrev pub RefusesPlaces : ℕ → List (Option (List ℕ)) → EcFault → Type 0
RefusesPlaces units places e =
    (e ≡ NoMemory) ⊎ ((e ≡ ErasureCodingError (record { missing = empty_places places })) × (¬ AllHeld units places) × (held places < units))

-- The fault is want of memory. Or a data shard is missing, and the codec isn't `rs`, or too few shards are there.
abbrev pub RefusesStripes : EcSchema → List (Option (List ℕ)) → EcFault → Type 0
RefusesStripes s places e =
    (e ≡ NoMemory)
    ⊎ ((¬ AllHeld s.data_units places × (s.codec_name ≢ codes "rs") × (e ≡ UnsupportedErasureCodingPolicy (Codec s.codec_name)))
    ⊎ (¬ AllHeld s.data_units places × (s.codec_name ≡ codes "rs") × (held places < s.data_units) × (e ≡ ErasureCodingError (record { missing = empty_places places }))))
