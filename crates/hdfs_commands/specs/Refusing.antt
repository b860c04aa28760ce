-- What was answered to a command that is refused for it, whatever else a cluster tells.
use Rattle.std.specs.Prelude.{◌≡◌, ◌≢◌, ◌⊎◌, ℕ, ◌+◌, ◌<◌, ◌-◌, ◌^◌, List, Option, Some, None, false, true, is_some, slice_get}
use Rattle.hdfs_cluster.specs.declared.asks.Answer.{Answer}
use Rattle.hdfs_cluster.specs.declared.asks.Answer.TheVariants as answers
use Rattle.hdfs_cluster.specs.declared.asks.Ask.{Ask}
use Rattle.hdfs_cluster.specs.declared.asks.Ask.TheVariants as asks
use Rattle.hdfs_cluster.specs.declared.errors.ArgFault.TheVariants as args
use Rattle.hdfs_cluster.specs.declared.errors.Feature.TheVariants as features
use Rattle.hdfs_cluster.specs.declared.errors.HdfsError.{HdfsError}
use Rattle.hdfs_cluster.specs.declared.errors.HdfsError.TheVariants as errors
use Rattle.hdfs_cluster.specs.declared.messages.Appended.{Appended}
use Rattle.hdfs_cluster.specs.declared.messages.FileStatusMsg.{FileStatusMsg}
use Rattle.hdfs_cluster.specs.declared.messages.LocatedBlock.{LocatedBlock}
use Rattle.hdfs_cluster.specs.declared.messages.LocatedBlocks.{LocatedBlocks}
use Rattle.hdfs_cluster.specs.declared.messages.ServerDefaults.{ServerDefaults}
use Rattle.hdfs_cluster.specs.Limits.{are_defaults}
use Rattle.hdfs_model.specs.Listings.{IsMoreThan, LacksPage}
use Rattle.hdfs_model.specs.Opening.{AnswersDefaults, appending, creating, tells_encryption}
use Rattle.hdfs_model.specs.declared.commands.Command.{Command}
use Rattle.hdfs_model.specs.declared.commands.Command.TheVariants as commands
use Rattle.hdfs_model.specs.declared.commands.Fault.{Fault}
use Rattle.hdfs_model.specs.declared.commands.Settings.{Settings}
use Rattle.hdfs_model.specs.Steps.{path_of}
use Rattle.hdfs_names.specs.Paths.{absolute}
use Rattle.hdfs_namenode.specs.Clients.{client_name}
use Rattle.hdfs_commands.specs.Session.{settings_of}
use Rattle.hdfs_commands.specs.declared.session.Session.{Session}

-- defaults of the cluster were answered that are so
abbrev pub SomeDefaults : (Ask → Answer → Type 0) → (ServerDefaults → Type 0) → Type 0
SomeDefaults may_answer Are = (defaults : ServerDefaults) × AnswersDefaults may_answer defaults × Are defaults

-- they want data encrypted on its way
abbrev pub WantsEncryption : (Ask → Answer → Type 0) → Type 0
WantsEncryption may_answer = SomeDefaults may_answer (λ defaults. defaults.encrypt_data_transfer ≡ true)

-- the answer to a look-up of a whole file was so
abbrev pub LookedUp : (Ask → Answer → Type 0) → List ℕ → Option LocatedBlocks → Type 0
LookedUp may_answer path found = may_answer (asks.GetBlockLocations path 0 (2 ^ 63 - 1)) (answers.GetBlockLocations found)

-- what a namenode has answered for a file that isn't encrypted, and is shorter than a range is long
pub record IsShort (may_answer : Ask → Answer → Type 0) (path : List ℕ) (offset len length : ℕ) : Type 0 where
  pub found : LocatedBlocks
  pub answered : LookedUp may_answer path (Some found)
  pub plain : found.encryption ≡ None
  pub is : found.file_length ≡ length
  pub short : length < offset + len

-- the range of a command ends behind a file that has this length
abbrev pub EndsBehindFile : (Ask → Answer → Type 0) → List ℕ → Command → ℕ → Type 0
EndsBehindFile may_answer path (commands.Read name offset len) length = IsShort may_answer path offset len length
EndsBehindFile may_answer path command length = ⊥

-- a command's file isn't there: its look-up had no answer, its opening no status, or nothing was told of its path
abbrev pub LacksFile : (Ask → Answer → Type 0) → List ℕ → List ℕ → Command → Type 0
LacksFile may_answer client path (commands.Read name offset len) = LookedUp may_answer path None
LacksFile may_answer client path (commands.Append name) =
    (block : Option LocatedBlock) × may_answer (appending path client 4) (answers.Append (record { block = block; stat = None }))
LacksFile may_answer client path (commands.Info name) = may_answer (asks.GetFileInfo path) (answers.GetFileInfo None)
LacksFile may_answer client path (commands.List name recursive limit) = LacksPage may_answer recursive path
LacksFile may_answer client path command = ⊥

-- more was answered than a listing allows
abbrev pub ListsMore : (Ask → Answer → Type 0) → List ℕ → Command → ℕ → Type 0
ListsMore may_answer path (commands.List name recursive most) limit = IsMoreThan may_answer recursive path limit
ListsMore may_answer path command limit = ⊥

-- A command meets encryption: its file was answered to be encrypted, or the cluster to want data encrypted on its way. (Of a write its writer
-- says it.)
abbrev pub MeetsEncryption : (Ask → Answer → Type 0) → List ℕ → List ℕ → Command → Type 0
MeetsEncryption may_answer client path (commands.Create name options) =
    (replication : ℕ) × (block_size : ℕ) × (status : Option FileStatusMsg)
    × may_answer (creating path client options replication block_size) (answers.Create status) × (tells_encryption status ≡ true)
MeetsEncryption may_answer client path (commands.Append name) =
    (appended : Appended) × may_answer (appending path client 4) (answers.Append appended) × (tells_encryption appended.stat ≡ true)
MeetsEncryption may_answer client path (commands.Read name offset len) =
    ((found : LocatedBlocks) × LookedUp may_answer path (Some found) × (is_some found.encryption ≡ true)) ⊎ WantsEncryption may_answer
MeetsEncryption may_answer client path command = Unit {0}

-- what was answered to a client where its command at a path ends with an error that stands for it
abbrev pub IsAnsweredSo : (Ask → Answer → Type 0) → List ℕ → List ℕ → Command → HdfsError → Type 0
IsAnsweredSo may_answer client path command (errors.InvalidArgument args.Defaults) =
    SomeDefaults may_answer (λ defaults. are_defaults defaults ≡ false)
IsAnsweredSo may_answer client path command (errors.InvalidArgument (args.Range offset len length)) =
    EndsBehindFile may_answer path command length
IsAnsweredSo may_answer client path command (errors.InvalidArgument (args.TooMany limit)) = ListsMore may_answer path command limit
IsAnsweredSo may_answer client path command (errors.FileNotFound name) = LacksFile may_answer client path command
IsAnsweredSo may_answer client path command (errors.UnsupportedFeature features.Encryption) = MeetsEncryption may_answer client path command
IsAnsweredSo may_answer client path command error = Unit {0}

-- the same of a client with these settings, which does it at the path that it has there
abbrev pub RefusedBy : (Ask → Answer → Type 0) → Settings → Command → HdfsError → Type 0
RefusedBy may_answer settings command =
    IsAnsweredSo may_answer (client_name settings.client) (absolute settings.home (path_of command)) command

-- the same of a session
abbrev pub RefusedSo : (Ask → Answer → Type 0) → Session → Command → HdfsError → Type 0
RefusedSo may_answer session = RefusedBy may_answer (settings_of session)

-- of a whole session: where a command ended it
abbrev pub IsRefusedSo : (Ask → Answer → Type 0) → Settings → List Command → Fault → Type 0
IsRefusedSo may_answer settings commands fault = fault.at ≢ 0
    → (command : Command) × (slice_get commands (fault.at - 1) ≡ Some command) × RefusedBy may_answer settings command fault.error
