-- What a namenode of a cluster in memory answers.
use Rattle.std.specs.Prelude.{◌≡◌, ◌≢◌, ◌⊎◌, ℕ, Bool, true, false, List, [], Option, Some, None, is_some, Result, Ok, Err, codes}
use Rattle.hdfs_cluster.specs.declared.asks.Ask.{Ask}
use Rattle.hdfs_cluster.specs.declared.asks.Ask.TheVariants as asks
use Rattle.hdfs_cluster.specs.declared.asks.Answer.{Answer}
use Rattle.hdfs_cluster.specs.declared.asks.Answer.TheVariants as answers
use Rattle.hdfs_cluster.specs.declared.asks.AskFault.{AskFault}
use Rattle.hdfs_cluster.specs.declared.asks.AskFault.TheVariants as faults
use Rattle.hdfs_cluster.specs.declared.messages.LocatedBlocks.{LocatedBlocks}
use Rattle.hdfs_cluster.specs.declared.picture.BlockEntry.{BlockEntry}
use Rattle.hdfs_cluster.specs.declared.picture.Entry.{Entry}
use Rattle.hdfs_cluster.specs.declared.picture.Entry.TheVariants as entries
use Rattle.hdfs_cluster.specs.declared.picture.FileEntry.{FileEntry}
use Rattle.hdfs_cluster.specs.Effects.{KeepsBytes}
use Rattle.hdfs_cluster.specs.Files.{Kind, NoFile, no_file}
use Rattle.hdfs_cluster.specs.Namenode.{LocatesBlocks, IsOwn, IsRefusal, Row, StandsForAny, class_for, not_found, standby}
use Rattle.hdfs_cluster.specs.Picture.{Picture, SamePicture}
use Rattle.hdfs_cluster.specs.Refusals.{Refusal}
use Rattle.hdfs_mem_namenode.specs.Adding.{Space}
use Rattle.hdfs_mem_namenode.specs.Rows.{AnswersNames}

-- the answer has the length and the blocks of the file at the path, and encryption information where it is encrypted
pub record LocatesFile (names : List ℕ → Option Entry) (table : ℕ → Option BlockEntry) (src : List ℕ) (found : LocatedBlocks) : Type 0 where
  pub file : FileEntry
  pub named : names src ≡ Some (entries.File file)
  pub encryption : is_some found.encryption ≡ file.attributes.encrypted
  pub blocks : LocatesBlocks table 0 found.file_length file.blocks found.blocks

-- the exception stands for the refusal that holds, and has no message
abbrev pub StandsForRefusal : (List ℕ → Option Kind) → List ℕ → AskFault → Type 0
StandsForRefusal kinds src faults.NoMemory = Unit {0}
StandsForRefusal kinds src (faults.Exception class message) = (why : NoFile) × (no_file kinds src ≡ Some why) × (class ≡ class_for why) × (message ≡ [])
StandsForRefusal kinds src fault = ⊥

-- the same of a refusal of a writer, at a path at which this stands
abbrev pub StandsForWritten : Option Kind → Option Refusal → AskFault → Type 0
StandsForWritten kind refusal faults.NoMemory = Unit {0}
StandsForWritten kind refusal (faults.Exception class message) = StandsForAny kind refusal class × (message ≡ [])
StandsForWritten kind refusal fault = ⊥

-- want of memory, or a file that isn't found, where a writer strays
abbrev pub StandsForStray : Type 0 → AskFault → Type 0
StandsForStray strays faults.NoMemory = Unit {0}
StandsForStray strays (faults.Exception class message) = strays × (class ≡ not_found) × (message ≡ [])
StandsForStray strays fault = ⊥

-- a namenode looks up every file, also one that is being written, and answers never that there is none
abbrev pub IsLocated : Answer → Type 0
IsLocated (answers.GetBlockLocations None) = ⊥
IsLocated answer = Unit {0}

-- a block is named that isn't listed, or that no open file has, or that can't be given up, or none where there is one
abbrev pub IsStray : Picture → Ask → Type 0
IsStray p (asks.AddBlock ask) = IsOwn p (asks.AddBlock ask)
IsStray p (asks.AbandonBlock ask) = IsOwn p (asks.AbandonBlock ask)
IsStray p (asks.Complete ask) = IsOwn p (asks.Complete ask)
IsStray p (asks.UpdateBlockForPipeline block client) = IsOwn p (asks.UpdateBlockForPipeline block client)
IsStray p (asks.GetAdditionalDatanode ask) = IsOwn p (asks.GetAdditionalDatanode ask)
IsStray p (asks.UpdatePipeline ask) = IsOwn p (asks.UpdatePipeline ask)
IsStray p ask = ⊥

-- an ask that a cluster in memory has no answer to
abbrev pub IsUnknown : Ask → Type 0
IsUnknown (asks.GetBlockLocations src offset length) = ⊥
IsUnknown asks.GetServerDefaults = ⊥
IsUnknown (asks.Create ask) = ⊥
IsUnknown (asks.Append src client flag) = ⊥
IsUnknown (asks.AddBlock ask) = ⊥
IsUnknown (asks.AbandonBlock ask) = ⊥
IsUnknown (asks.Complete ask) = ⊥
IsUnknown (asks.UpdateBlockForPipeline block client) = ⊥
IsUnknown (asks.GetAdditionalDatanode ask) = ⊥
IsUnknown (asks.UpdatePipeline ask) = ⊥
IsUnknown (asks.GetFileInfo src) = ⊥
IsUnknown (asks.GetListing src from located) = ⊥
IsUnknown (asks.GetAclStatus src) = ⊥
IsUnknown (asks.Mkdirs src masked parents) = ⊥
IsUnknown (asks.Delete src recursive) = ⊥
IsUnknown (asks.Rename src dst overwrite) = ⊥
IsUnknown (asks.SetPermission src permission) = ⊥
IsUnknown (asks.SetReplication src replication) = ⊥
IsUnknown (asks.GetContentSummary path) = ⊥
IsUnknown (asks.SetTimes src mtime atime) = ⊥
IsUnknown (asks.SetOwner src owner group) = ⊥
IsUnknown (asks.ModifyAclEntries src entries) = ⊥
IsUnknown (asks.RemoveAclEntries src entries) = ⊥
IsUnknown (asks.RemoveDefaultAcl src) = ⊥
IsUnknown (asks.RemoveAcl src) = ⊥
IsUnknown (asks.SetAcl src entries) = ⊥
IsUnknown (asks.RenewLease client namespaces) = ⊥
IsUnknown asks.Msync = ⊥
IsUnknown asks.GetHaServiceState = ⊥
IsUnknown ask = Unit {0}

-- the exception that says so
abbrev pub no_such_method : List ℕ
no_such_method = codes "org.apache.hadoop.ipc.RpcNoSuchMethodException"

-- An active namenode's exception stands for a refusal, or is a file that isn't found where a writer strays, or says that it has no answer to
-- the ask.
abbrev pub IsExcused : Picture → Ask → List ℕ → Type 0
IsExcused p ask class = IsRefusal p ask class ⊎ (IsStray p ask × (class ≡ not_found)) ⊎ (IsUnknown ask × (class ≡ no_such_method))

-- The active namenode answers by the row of the ask, or with an exception. Another one answers with the exception of a
-- standby. Beside that only want of memory comes. Where no answer comes, nothing changes.
abbrev pub Answers : Picture → ℕ → Ask → Result Answer AskFault → Picture → Type 0
Answers p i ask (Ok answer) q = (i ≡ p.active) × (q.active ≡ p.active) × IsLocated answer × Row p ask answer q
Answers p i ask (Err faults.NoMemory) q = SamePicture p q
Answers p i ask (Err (faults.Exception class message)) q =
    (message ≡ []) × SamePicture p q × (((i ≢ p.active) × (class ≡ standby)) ⊎ ((i ≡ p.active) × IsExcused p ask class))
Answers p i ask (Err fault) q = ⊥

-- the names and the blocks of a picture, and what its datanodes hold
abbrev pub space_in : Picture → Space
space_in p = record { names = p.names; table = p.table; held = p.held }

-- The active namenode answers an ask about names by its row, or with an exception. That changes names and blocks alone.
pub record AnswersAbout (p : Picture) (i : ℕ) (ask : Ask) (result : Result Answer AskFault) (q : Picture) : Type 0 where
  pub here : i ≡ p.active
  pub active : q.active ≡ p.active
  pub bytes : KeepsBytes p q
  pub row : AnswersNames (space_in p) ask result (space_in q)

-- the ask is about names
abbrev pub is_about_names : Ask → Bool
is_about_names (asks.GetFileInfo src) = true
is_about_names (asks.GetListing src from located) = true
is_about_names (asks.GetAclStatus src) = true
is_about_names (asks.Mkdirs src masked parents) = true
is_about_names (asks.Delete src recursive) = true
is_about_names (asks.Rename src dst overwrite) = true
is_about_names (asks.SetPermission src permission) = true
is_about_names (asks.SetReplication src replication) = true
is_about_names (asks.GetContentSummary path) = true
is_about_names (asks.SetTimes src mtime atime) = true
is_about_names (asks.SetOwner src owner group) = true
is_about_names (asks.ModifyAclEntries src entries) = true
is_about_names (asks.RemoveAclEntries src entries) = true
is_about_names (asks.RemoveDefaultAcl src) = true
is_about_names (asks.RemoveAcl src) = true
is_about_names (asks.SetAcl src entries) = true
is_about_names ask = false
