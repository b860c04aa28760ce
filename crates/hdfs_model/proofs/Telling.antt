-- What an error tells from an earlier moment on, and until a later one.
use Rattle.std.proofs.Common.{◌≡◌}
use Rattle.hdfs_model.specs.declared.commands.Command.{Command}
use Rattle.hdfs_cluster.specs.declared.errors.HdfsError.{HdfsError}
use Rattle.hdfs_cluster.specs.declared.errors.HdfsError.TheVariants as errors
use Rattle.hdfs_cluster.specs.declared.errors.IoFault.TheVariants as io_faults
use Rattle.hdfs_model.specs.Causes.{CanEnd, Tells}
use Rattle.hdfs_cluster.specs.Counts.{NeverFall}
use Rattle.hdfs_cluster.specs.Failures.{IsOfAsk}
use Rattle.hdfs_cluster.specs.Shown.{Shown, Later}
use Rattle.hdfs_cluster.proofs.Failures.{means_since, means_on}

-- and it tells as much
pub tells_since : (old middle new : Shown) → NeverFall old.counts middle.counts → (command : Command) (error : HdfsError) → Tells command middle new error
    → Tells command old new error
tells_since old middle new before command error h = (h.0, means_since old middle new error before h.1)

pub tells_on : (old middle new : Shown) → Later middle new → new.last ≡ middle.last → (command : Command) (error : HdfsError) → Tells command old middle error
    → Tells command old new error
tells_on old middle new later same command error h = (h.0, means_on old middle new error later same h.1)

-- any command can end with an error of an ask
pub ask_can_end : (command : Command) (error : HdfsError) → IsOfAsk error → CanEnd command error
ask_can_end command errors.NoMemory of = tt
ask_can_end command (errors.IOError (io_faults.Namenode last)) of = tt
ask_can_end command (errors.AlreadyExists message) of = tt
ask_can_end command (errors.RPCError class message) of = tt
ask_can_end command (errors.InvalidRPCResponse fault) of = tt
ask_can_end command (errors.FatalRPCError class message) of = tt
ask_can_end command error of = absurd of
