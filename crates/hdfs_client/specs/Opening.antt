-- How a service of a client opens a file to be written: as any service does (hdfs_opening), and then it takes the lease of that file.
use Rattle.std.specs.Prelude.{◌≡◌, ◌⊎◌, ℕ, List, Result}
use Rattle.hdfs_cluster.specs.declared.asks.Answer.{Answer}
use Rattle.hdfs_cluster.specs.declared.asks.Ask.{Ask}
use Rattle.hdfs_cluster.specs.declared.asks.AskFault.{AskFault}
use Rattle.hdfs_cluster.specs.declared.errors.HdfsError.{HdfsError}
use Rattle.hdfs_cluster.specs.declared.errors.HdfsError.TheVariants as errors
use Rattle.hdfs_cluster.specs.Shown.{Shown}
use Rattle.hdfs_file_writer.specs.declared.file_writer.FileWriter.{FileWriter}
use Rattle.hdfs_model.specs.declared.commands.WriteOptions.{WriteOptions}
use Rattle.hdfs_namenode.specs.Clients.{ChangesLeases, leases_of}
use Rattle.hdfs_namenode.specs.declared.protocol.NamenodeProtocol.{NamenodeProtocol}
use Rattle.hdfs_opening.specs.Opening as opening
use Rattle.hdfs_opening.specs.Opening.{KeepsName}
use Rattle.hdfs_opening.specs.declared.opened_file.ToldFile.{ToldFile}
use Rattle.hdfs_opening.specs.declared.opened_file.WriteTerms.{WriteTerms}
use Rattle.hdfs_rebuild.specs.declared.block_plan.RebuildSettings.{RebuildSettings}
use Rattle.hdfs_client.specs.Holding.{TakesLease, lease_by}
use Rattle.hdfs_client.specs.declared.file_lease.FileLease.{FileLease}

-- what is settled of a writer of a client: another first pipeline of a block is tried at most three times
abbrev pub terms_of : RebuildSettings → WriteTerms
terms_of rebuilding = record { rebuilding = rebuilding; setup_limit = 3 }

-- Behind a call that opened a file of which this was told, and that left its leases, a service took the lease of that file, and changed nothing
-- else.
pub record HoldsFile (told : ToldFile) (lease : FileLease) (before opened after : NamenodeProtocol) : Type 0 where
  pub same : KeepsName before opened
  pub is : lease ≡ lease_by told
  pub taken : TakesLease lease (leases_of opened) (leases_of after)
  pub alone : ChangesLeases opened after

-- A service has created a file at a path, with these options, and with the defaults where they say nothing, and took its lease.
pub record CreatesBy {C : Type 0} (may_answer : Ask → Answer → Type 0) (serves : C → ℕ → Ask → Result Answer AskFault → C → Type 0) (path : List ℕ) (options : WriteOptions)
    (rebuilding : RebuildSettings) (before : NamenodeProtocol) (old : C) (writer : FileWriter) (lease : FileLease) (after : NamenodeProtocol)
    (new : C) : Type 0 where
  pub told : ToldFile
  pub opened : NamenodeProtocol
  pub creates : opening.CreatesBy may_answer serves path options (terms_of rebuilding) before old writer told opened new
  pub holds : HoldsFile told lease before opened after

-- A service has opened the file at a path, to be gone on with, and took its lease.
pub record OpensBy {C : Type 0} (may_answer : Ask → Answer → Type 0) (serves : C → ℕ → Ask → Result Answer AskFault → C → Type 0) (path : List ℕ) (rebuilding : RebuildSettings)
    (before : NamenodeProtocol) (old : C) (writer : FileWriter) (lease : FileLease) (after : NamenodeProtocol) (new : C) : Type 0 where
  pub told : ToldFile
  pub opened : NamenodeProtocol
  pub opens : opening.OpensBy may_answer serves path (terms_of rebuilding) before old writer told opened new
  pub holds : HoldsFile told lease before opened after

-- A service has opened a file so, and there was no memory for its lease. It stays open.
pub record LacksLease (Opens : WriteTerms → FileWriter → ToldFile → NamenodeProtocol → Type 0) (error : HdfsError) (after : NamenodeProtocol)
    : Type 0 where
  pub terms : WriteTerms
  pub writer : FileWriter
  pub told : ToldFile
  pub opened : NamenodeProtocol
  pub opens : Opens terms writer told opened
  pub alone : ChangesLeases opened after
  pub is : error ≡ errors.NoMemory

-- why a service holds no new file: it creates none, or there was no memory for its lease
abbrev pub FailsToCreate : {C : Type 0} → (Ask → Answer → Type 0) → (C → ℕ → Ask → Result Answer AskFault → C → Type 0) → List ℕ → WriteOptions → NamenodeProtocol → C → HdfsError
    → NamenodeProtocol → C → Type 0
FailsToCreate may_answer serves path options before old error after new =
    opening.FailsToCreate may_answer serves path options before old error after new
    ⊎ LacksLease (λ terms writer told opened. opening.CreatesBy may_answer serves path options terms before old writer told opened new) error after

-- why a service holds no file to be gone on with: it opens none, or there was no memory for its lease
abbrev pub FailsToAppend : {C : Type 0} → (C → Shown) → (Ask → Answer → Type 0) → (C → ℕ → Ask → Result Answer AskFault → C → Type 0) → List ℕ → List ℕ → NamenodeProtocol → C
    → HdfsError → NamenodeProtocol → C → Type 0
FailsToAppend shown may_answer serves path name before old error after new =
    opening.FailsToAppend shown may_answer serves path name before old error after new
    ⊎ LacksLease (λ terms writer told opened. opening.OpensBy may_answer serves path terms before old writer told opened new) error after
