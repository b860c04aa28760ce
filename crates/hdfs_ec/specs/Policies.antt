-- Erasure coding policies: the schema that a message carries, or the one that an id stands for.
use Rattle.std.specs.Prelude.{ℕ, ◌+◌, ◌≤◌, nat_le, Bool, ◌&&◌, ◌==◌, List, Option, Some, None, Result, Ok, Err, if◌then◌else◌, codes}
use Rattle.hdfs_ec.specs.declared.fault.EcRefusal.{EcRefusal}
use Rattle.hdfs_ec.specs.declared.fault.EcRefusal.TheVariants.{Id, Range}
use Rattle.hdfs_ec.specs.declared.schema.EcSchema.{EcSchema}
use Rattle.hdfs_ec.specs.declared.policy.EcSchemaMsg.{EcSchemaMsg}
use Rattle.hdfs_ec.specs.declared.policy.TheConstants.{DEFAULT_CELL_SIZE}
use Rattle.hdfs_ec.specs.declared.coder.TheConstants.{SHARD_LIMIT}
use Rattle.hdfs_ec.specs.declared.schema.TheConstants.{CELL_LIMIT}
use Rattle.hdfs_ec.specs.Coding.{IsCode}

-- the schema is one that shards can be laid out by: a code, and cells of 1 to `CELL_LIMIT` bytes
pub record IsSchema (s : EcSchema) : Type 0 where
  pub code : IsCode s.data_units s.parity_units
  pub some : 1 ≤ s.cell_size
  pub small : s.cell_size ≤ CELL_LIMIT

-- whether these numbers are those of such a schema
abbrev pub is_schema : ℕ → ℕ → ℕ → Bool
is_schema units parity cell = nat_le 1 units && nat_le 1 parity && nat_le (units + parity) SHARD_LIMIT && nat_le 1 cell && nat_le cell CELL_LIMIT

-- a schema with the cells of one mebibyte that the numbered policies have
abbrev pub numbered : List ℕ → ℕ → ℕ → Result EcSchema EcRefusal
numbered codec units parity = Ok (record { codec_name = codec; data_units = units; parity_units = parity; cell_size = DEFAULT_CELL_SIZE })

-- the schema that an id stands for
abbrev pub schema_of_id : ℕ → Result EcSchema EcRefusal
schema_of_id id =
    if id == 1 then numbered (codes "rs") 6 3
    else if id == 2 then numbered (codes "rs") 3 2
    else if id == 3 then numbered (codes "rs-legacy") 6 3
    else if id == 4 then numbered (codes "xor") 2 1
    else if id == 5 then numbered (codes "rs") 10 4
    else Err (Id id)

-- the schema of a message, with this size of cells
abbrev pub schema_of_message : EcSchemaMsg → ℕ → Result EcSchema EcRefusal
schema_of_message s cell =
    if is_schema s.data_units s.parity_units cell
    then Ok (record { codec_name = s.codec_name; data_units = s.data_units; parity_units = s.parity_units; cell_size = cell })
    else Err Range

-- the schema of a policy: the one that it carries, or that of its id
abbrev pub schema_of : Option EcSchemaMsg → ℕ → ℕ → Result EcSchema EcRefusal
schema_of None id cell = schema_of_id id
schema_of (Some s) id cell = schema_of_message s cell
