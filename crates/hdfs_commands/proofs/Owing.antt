-- Errors that say neither of the path rule nor of what a session has open.
use Rattle.std.proofs.Common.{ℕ}
use Rattle.hdfs_cluster.specs.declared.errors.HdfsError.{HdfsError}
use Rattle.hdfs_cluster.specs.declared.errors.HdfsError.TheVariants as errors
use Rattle.hdfs_model.specs.Owing.{IsNotOwed}
use Rattle.hdfs_cluster.specs.Shown.{Shown}
use Rattle.hdfs_namenode.specs.Relaying.{TellsAsk}
use Rattle.hdfs_file_reader.specs.Ranges.{FailsAt}

-- an error of an ask
pub ask_not_owed : (old new : Shown) (error : HdfsError) → TellsAsk old new error → IsNotOwed error
ask_not_owed old new (errors.InvalidPath text) tells = absurd tells.0
ask_not_owed old new (errors.InvalidArgument fault) tells = absurd tells.0
ask_not_owed old new error tells = tt

-- an error of a reader
pub reader_not_owed : (P : ℕ → Type 0) (error : HdfsError) → FailsAt P error → IsNotOwed error
reader_not_owed P (errors.InvalidPath text) fails = absurd fails
reader_not_owed P (errors.InvalidArgument fault) fails = absurd fails
reader_not_owed P error fails = tt
