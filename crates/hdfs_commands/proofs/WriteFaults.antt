-- What the error of a writer of a file is for the command that has it.
use Rattle.std.proofs.Common.{◌≡◌, ◌⊎◌, ⊎_elim, inl, inr, ℕ, false, List, refl, sym, ◌∙◌, subst}
use Rattle.hdfs_model.specs.declared.commands.Command.{Command}
use Rattle.hdfs_cluster.specs.declared.errors.HdfsError.{HdfsError}
use Rattle.hdfs_cluster.specs.declared.errors.HdfsError.TheVariants as errors
use Rattle.hdfs_cluster.specs.declared.errors.Feature.TheVariants as features
use Rattle.hdfs_cluster.specs.declared.errors.IoFault.TheVariants as io_faults
use Rattle.hdfs_cluster.specs.declared.errors.TransferFault.TheVariants as transfer
use Rattle.hdfs_cluster.specs.Lost.{PipelineFailed, SomeListedFailed}
use Rattle.hdfs_cluster.specs.Failures.{MayReplace, SetupsFailed}
use Rattle.hdfs_model.specs.Causes.{IsClose, IsDone, CanEnd, ReplacesAt, Sends, Tells, IsEarly, Because, Cause}
use Rattle.hdfs_cluster.specs.Files.{State}
use Rattle.hdfs_model.specs.Sessions.{is_before_asking}
use Rattle.hdfs_model.specs.Owing.{IsNotOwed}
use Rattle.hdfs_cluster.specs.Shown.{SameNodes, Shown}
use Rattle.hdfs_model.specs.Steps.{World, step, target_of}
use Rattle.hdfs_file_writer.specs.declared.sizes.WriteSizes.{WriteSizes}
use Rattle.hdfs_file_writer.specs.Failing.{TellsWrite, TellsClose, CauseOfWrite, IsNoRefusal, IsOfClose, IsRefusal}
use Rattle.hdfs_file_writer.proofs.Joining.{tells_close}

-- the error of bytes that are to be encrypted
abbrev pub unsupported : HdfsError
unsupported = errors.UnsupportedFeature features.Encryption

-- an error is a refusal for encryption, or it isn't
refusal_or_not : (error : HdfsError) → (error ≡ unsupported) ⊎ IsNoRefusal error
refusal_or_not (errors.UnsupportedFeature features.Encryption) = inl refl
refusal_or_not error = inr (λ refusal. refusal)

-- a write fails only as a close may, or for encryption
pub fails_as_close : (path : List ℕ) (old new : Shown) (error : HdfsError) → TellsWrite old new error → (IsRefusal error → SameNodes old new)
    → TellsClose path old new error ⊎ ((error ≡ unsupported) × SameNodes old new)
fails_as_close path old new error h refused = ⊎_elim
    (λ is. inr (is, refused (subst IsRefusal (sym is) tt)))
    (λ apart. inl (tells_close path old new error apart h))
    (refusal_or_not error)

module _ (path : List ℕ) where
  -- such an error comes once something was asked
  pub is_after_asking : (error : HdfsError) → IsOfClose path error → is_before_asking error ≡ false
  is_after_asking (errors.InvalidPath text) of = absurd of
  is_after_asking (errors.InvalidArgument fault) of = absurd of
  is_after_asking error of = refl

  -- and says neither of the path rule nor of what is open
  pub not_owed : (error : HdfsError) → IsOfClose path error → IsNotOwed error
  not_owed (errors.InvalidPath text) of = absurd of
  not_owed (errors.InvalidArgument fault) of = absurd of
  not_owed error of = tt

  module _ (command : Command) (sends : Sends command) where
    -- a command that sends bytes can end with it, where only a close says that it isn't done
    can_end : (error : HdfsError) → ((name : List ℕ) → error ≡ errors.OperationFailed name → IsClose command) → IsOfClose path error → CanEnd command error
    can_end (errors.IOError io_faults.Link) closes of = sends
    can_end (errors.DataTransferError (transfer.Read byte)) closes of = absurd of
    can_end (errors.DataTransferError fault) closes of = sends
    can_end (errors.OperationFailed name) closes of = closes name refl
    can_end (errors.InvalidPath text) closes of = absurd of
    can_end (errors.InvalidArgument fault) closes of = absurd of
    can_end (errors.FileNotFound name) closes of = absurd of
    can_end (errors.UnsupportedFeature feature) closes of = absurd of
    can_end error closes of = of

    pub tells_sending : (old new : Shown) (error : HdfsError) → ((name : List ℕ) → error ≡ errors.OperationFailed name → IsClose command)
        → TellsClose path old new error → Tells command old new error
    tells_sending old new error closes h = (can_end error closes h.0, h.1)

    -- of such a command it is no refusal
    pub not_early : (error : HdfsError) → IsOfClose path error → IsEarly command error → ⊥
    not_early (errors.IOError (io_faults.Namenode last)) of early = early sends
    not_early (errors.AlreadyExists message) of early = early sends
    not_early (errors.RPCError class message) of early = early sends
    not_early (errors.InvalidRPCResponse fault) of early = early sends
    not_early (errors.FatalRPCError class message) of early = early sends
    not_early (errors.InvalidPath text) of early = of
    not_early (errors.InvalidArgument fault) of early = of
    not_early (errors.FileNotFound name) of early = of
    not_early (errors.UnsupportedFeature feature) of early = of
    not_early error of early = early

    -- and it has its cause, where the step is done, and pipelines are rebuilt as the world has it
    module _ (old new : Shown) (world : World) (state : State) (called : target_of world command ≡ path) (done : IsDone (step world state command)) (sizes : WriteSizes)
        (limit : sizes.rebuilding.rebuild_limit ≡ world.rebuild_limit) (setups : sizes.setup_limit ≡ world.setup_limit) (effort : sizes.rebuilding.replace.best_effort ≡ world.best_effort)
        (replaces : MayReplace sizes.rebuilding.replace.policy sizes.replication → ReplacesAt world state path) where
      tried : SetupsFailed sizes.setup_limit old.counts new.counts → SetupsFailed world.setup_limit old.counts new.counts
      tried h = subst (λ (n : ℕ). SetupsFailed n old.counts new.counts) setups h

      because_sending : (error : HdfsError) → IsOfClose path error → CauseOfWrite sizes path old new error → Because world state command old new error
      because_sending (errors.IOError io_faults.Link) of cause = (done, tried cause)
      because_sending (errors.DataTransferError transfer.Setup) of cause = (done, tried cause)
      because_sending (errors.DataTransferError (transfer.Read byte)) of cause = absurd of
      because_sending (errors.DataTransferError transfer.AllNodes) of cause = (done, subst (PipelineFailed old.counts new) (sym called) cause)
      because_sending (errors.DataTransferError transfer.NoReplacement) of cause = (
        done,
        sym effort ∙ cause.0,
        cause.1,
        subst (SomeListedFailed old.counts new) (sym called) cause.2,
        subst (ReplacesAt world state) (sym called) (replaces cause.3),
      )
      because_sending (errors.DataTransferError (transfer.RebuildLimit rebuilds)) of cause =
          (done, cause.0 ∙ limit, subst (SomeListedFailed old.counts new) (sym called) cause.1)
      because_sending (errors.DataTransferError fault) of cause = done
      because_sending (errors.AlreadyExists message) of cause = inr cause
      because_sending (errors.RPCError class message) of cause = inr cause
      because_sending (errors.OperationFailed name) of cause = (done, of ∙ sym called)
      because_sending (errors.InvalidPath text) of cause = absurd of
      because_sending (errors.InvalidArgument fault) of cause = absurd of
      because_sending (errors.FileNotFound name) of cause = absurd of
      because_sending (errors.UnsupportedFeature feature) of cause = absurd of
      because_sending error of cause = of

      pub cause_sending : (error : HdfsError) → TellsClose path old new error → CauseOfWrite sizes path old new error → Cause world state command old new error
      cause_sending error h cause = (because_sending error h.0 cause, h.1.1)
