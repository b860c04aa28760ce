-- Why a writer of a file fails.
use Rattle.std.specs.Prelude.{◌≡◌, ◌⊎◌, ℕ, false, true, List}
use Rattle.hdfs_cluster.specs.declared.errors.HdfsError.{HdfsError}
use Rattle.hdfs_cluster.specs.declared.errors.HdfsError.TheVariants as errors
use Rattle.hdfs_cluster.specs.declared.errors.Feature.TheVariants as features
use Rattle.hdfs_cluster.specs.declared.errors.IoFault.TheVariants as io_faults
use Rattle.hdfs_cluster.specs.declared.errors.TransferFault.TheVariants as transfer
use Rattle.hdfs_cluster.specs.Failures.{CallsRose, IsOfAsk, MayReplace, Means, SetupsFailed}
use Rattle.hdfs_cluster.specs.Lost.{PipelineFailed, SomeListedFailed}
use Rattle.hdfs_cluster.specs.Counts.{Rose}
use Rattle.hdfs_cluster.specs.Shown.{Shown}
use Rattle.hdfs_file_writer.specs.declared.sizes.WriteSizes.{WriteSizes}

-- the error is one of a writer
abbrev pub IsOfWrite : HdfsError → Type 0
IsOfWrite (errors.IOError io_faults.Link) = Unit {0}
IsOfWrite (errors.DataTransferError (transfer.Read byte)) = ⊥
IsOfWrite (errors.DataTransferError fault) = Unit {0}
IsOfWrite (errors.UnsupportedFeature features.Encryption) = Unit {0}
IsOfWrite error = IsOfAsk error

-- What holds of an error of a writer over any cluster, from what is shown before the call to what is shown once it has ended.
abbrev pub TellsWrite : Shown → Shown → HdfsError → Type 0
TellsWrite old new error = IsOfWrite error × Means old new error

-- the error is the one by which bytes are refused for encryption
abbrev pub IsRefusal : HdfsError → Type 0
IsRefusal (errors.UnsupportedFeature feature) = Unit {0}
IsRefusal error = ⊥

-- it isn't
abbrev pub IsNoRefusal : HdfsError → Type 0
IsNoRefusal error = IsRefusal error → ⊥

-- The error is one of a close of the file at a path, which may also not be done: five answers to `complete` were false, each of which says
-- that a namenode has failed. It is never refused for encryption.
abbrev pub IsOfClose : List ℕ → HdfsError → Type 0
IsOfClose path (errors.OperationFailed name) = name ≡ path
IsOfClose path (errors.UnsupportedFeature feature) = ⊥
IsOfClose path error = IsOfWrite error

-- what holds of an error of a close over any cluster
abbrev pub TellsClose : List ℕ → Shown → Shown → HdfsError → Type 0
TellsClose path old new error = IsOfClose path error × Means old new error

-- The cause of an error of a writer that carries the file at this path, and writes with these sizes, beside what it says has failed: an exception
-- of a namenode comes only where its count has risen. A pipeline fails only where each datanode has that is listed for the file's last block. That
-- none came for one that failed is told only without best effort, where the links or a namenode have failed too and the policy replaces
-- datanodes of a file of this replication, and the limit of
-- rebuilds is the one of the settings; both only where a listed datanode has failed. Bytes are refused for encryption only
-- where the sizes say so. That a pipeline wasn't set up is told only where the links have failed, or datanodes once more than the sizes allow
-- another new block to be tried.
abbrev pub CauseOfWrite : WriteSizes → List ℕ → Shown → Shown → HdfsError → Type 0
CauseOfWrite sizes path old new (errors.IOError io_faults.Link) = SetupsFailed sizes.setup_limit old.counts new.counts
CauseOfWrite sizes path old new (errors.DataTransferError transfer.Setup) = SetupsFailed sizes.setup_limit old.counts new.counts
CauseOfWrite sizes path old new (errors.DataTransferError transfer.AllNodes) = PipelineFailed old.counts new path
CauseOfWrite sizes path old new (errors.DataTransferError transfer.NoReplacement) =
    (sizes.rebuilding.replace.best_effort ≡ false) × (Rose old.counts.links new.counts.links ⊎ CallsRose old.counts new)
    × SomeListedFailed old.counts new path × MayReplace sizes.rebuilding.replace.policy sizes.replication
CauseOfWrite sizes path old new (errors.DataTransferError (transfer.RebuildLimit rebuilds)) =
    (rebuilds ≡ sizes.rebuilding.rebuild_limit) × SomeListedFailed old.counts new path
CauseOfWrite sizes path old new (errors.AlreadyExists message) = CallsRose old.counts new
CauseOfWrite sizes path old new (errors.RPCError class message) = CallsRose old.counts new
CauseOfWrite sizes path old new (errors.UnsupportedFeature feature) = sizes.encrypted ≡ true
CauseOfWrite sizes path old new error = Unit {0}
