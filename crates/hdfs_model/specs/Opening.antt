-- The asks by which a client opens a file to be written, and what it has leave to ask for.
use Rattle.std.specs.Prelude.{◌≡◌, ℕ, Bool, true, false, List, Option, Some, None, is_some, unwrap_or, if◌then◌else◌}
use Rattle.hdfs_cluster.specs.declared.asks.Answer.{Answer}
use Rattle.hdfs_cluster.specs.declared.asks.Answer.TheVariants as answers
use Rattle.hdfs_cluster.specs.declared.asks.Ask.{Ask}
use Rattle.hdfs_cluster.specs.declared.asks.Ask.TheVariants as asks
use Rattle.hdfs_cluster.specs.Asks.{create_ask}
use Rattle.hdfs_cluster.specs.declared.messages.Appended.{Appended}
use Rattle.hdfs_cluster.specs.declared.messages.FileStatusMsg.{FileStatusMsg}
use Rattle.hdfs_cluster.specs.declared.messages.ServerDefaults.{ServerDefaults}
use Rattle.hdfs_cluster.specs.Limits.{are_defaults}
use Rattle.hdfs_cluster.specs.Requests.{Request, AskOf, LetsClose, id_in}
use Rattle.hdfs_model.specs.declared.commands.WriteOptions.{WriteOptions}

-- the flag of a new file, which may take the place of an older one or not
abbrev pub create_flag : WriteOptions → ℕ
create_flag options = if options.overwrite then 3 else 1

-- the ask of this client for a new file, which has this replication and block size
abbrev pub creating : List ℕ → List ℕ → WriteOptions → ℕ → ℕ → Ask
creating path client options replication block_size =
    create_ask path options.permission client (create_flag options) options.create_parent replication block_size

-- its ask for a file that is gone on with
abbrev pub appending : List ℕ → List ℕ → ℕ → Ask
appending path client flag = asks.Append path client flag

-- a status tells encryption information
abbrev pub tells_encryption : Option FileStatusMsg → Bool
tells_encryption None = false
tells_encryption (Some status) = is_some status.encryption

-- these defaults of the cluster were answered
abbrev pub AnswersDefaults : (Ask → Answer → Type 0) → ServerDefaults → Type 0
AnswersDefaults may_answer defaults = may_answer asks.GetServerDefaults (answers.GetServerDefaults defaults)

-- a new file: the cluster's defaults, the file with its options and with known defaults in their limits where they say nothing, and that it is
-- deleted again where it was answered to be encrypted
pub record LetsCreate (allows : Request → Type 0) (may_answer : Ask → Answer → Type 0) (Knows : ServerDefaults → Type 0) (client path : List ℕ)
    (options : WriteOptions) : Type 0 where
  pub defaults : allows (AskOf asks.GetServerDefaults)
  pub creates : (defaults : ServerDefaults) → Knows defaults → are_defaults defaults ≡ true → allows (AskOf (creating path client options
      (unwrap_or options.replication defaults.replication) (unwrap_or options.block_size defaults.block_size)))
  pub deletes : (replication block_size : ℕ) (status : Option FileStatusMsg)
      → may_answer (creating path client options replication block_size) (answers.Create status) → tells_encryption status ≡ true
      → allows (AskOf (asks.Delete path false))

-- a file that is gone on with: the defaults, the file, and that it is closed again where it was answered to be encrypted
pub record LetsAppend (allows : Request → Type 0) (may_answer : Ask → Answer → Type 0) (client path : List ℕ) : Type 0 where
  pub defaults : allows (AskOf asks.GetServerDefaults)
  pub opens : allows (AskOf (appending path client 4))
  pub closes : (appended : Appended) → may_answer (appending path client 4) (answers.Append appended) → tells_encryption appended.stat ≡ true
      → LetsClose allows may_answer client path (id_in appended.stat)
