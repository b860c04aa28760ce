-- Where nothing failed and the numbers are in their limits, an error of a command is that of its refusal, or want of memory.
use Rattle.std.proofs.Common.{◌≡◌, ⊎_elim, inl, inr, ℕ, Bool, true, false, ◌&&◌, List, refl, sym, ◌∙◌, subst}
use Rattle.std.proofs.lemmas.Bool.{false≢true}
use Rattle.hdfs_model.specs.declared.commands.Command.{Command}
use Rattle.hdfs_model.specs.declared.commands.Command.TheVariants as commands
use Rattle.hdfs_cluster.specs.declared.errors.ArgFault.TheVariants as args
use Rattle.hdfs_cluster.specs.declared.errors.Feature.TheVariants as features
use Rattle.hdfs_cluster.specs.declared.errors.HdfsError.{HdfsError}
use Rattle.hdfs_cluster.specs.declared.errors.HdfsError.TheVariants as errors
use Rattle.hdfs_cluster.specs.declared.errors.IoFault.TheVariants as io_faults
use Rattle.hdfs_cluster.specs.declared.errors.TransferFault.TheVariants as transfer
use Rattle.hdfs_model.specs.Causes.{Because, Cause, CommandLost, IsClassFor, OptionsOut, UsesDefaults}
use Rattle.hdfs_cluster.specs.Counts.{NoneRose}
use Rattle.hdfs_cluster.specs.Failures.{ANamenode, failure_of}
use Rattle.hdfs_cluster.specs.Files.{State}
use Rattle.hdfs_cluster.specs.Limits.{are_defaults}
use Rattle.hdfs_model.specs.Limits.{are_numbers, are_options}
use Rattle.hdfs_model.specs.Sessions.{Answers, IsLimited, WritesInLimits}
use Rattle.hdfs_cluster.specs.Shown.{Shown}
use Rattle.hdfs_model.specs.Steps.{World, Outcome, Refused, Done, Refusal, BadPath, WrongState, Exists, Lacks, BadRange, NotEmpty, TooMany, step, target_of}
use Rattle.hdfs_cluster.proofs.Failures.{IsQuiet, none_failed}
use Rattle.hdfs_model.proofs.Both.{both_true}

options_in : (world : World) (state : State) (path : List ℕ) (command : Command) → are_numbers world.defaults command ≡ true → WritesInLimits state path command → OptionsOut state path command → ⊥
options_in world state path (commands.Create text options) numbers keeps out = false≢true (sym out ∙ (both_true (are_options options) (are_defaults world.defaults) numbers).0)
options_in world state path (commands.Write text bytes) numbers keeps out = false≢true (sym out.3 ∙ keeps out.0 out.1 out.2)
options_in world state path (commands.Append text) numbers keeps out = out
options_in world state path (commands.Close text) numbers keeps out = out
options_in world state path (commands.Read text offset len) numbers keeps out = out
options_in world state path (commands.Mkdirs text permission create_parent) numbers keeps out = false≢true (sym out ∙ numbers)
options_in world state path (commands.Delete text recursive) numbers keeps out = out
options_in world state path (commands.Info text) numbers keeps out = out
options_in world state path (commands.List text recursive limit) numbers keeps out = out

defaults_in : (world : World) (command : Command) → are_numbers world.defaults command ≡ true → UsesDefaults command → are_defaults world.defaults ≡ false → ⊥
defaults_in world (commands.Create text options) numbers uses out = false≢true (sym out ∙ (both_true (are_options options) (are_defaults world.defaults) numbers).1)
defaults_in world (commands.Append text) numbers uses out = false≢true (sym out ∙ numbers)
defaults_in world command numbers uses out = uses

memory_answers : (outcome : Outcome) → Answers outcome errors.NoMemory
memory_answers (Done reply next) = refl
memory_answers (Refused why) = inl refl

-- an exception of the class that stands for a refusal answers it
exception_answers : (why : Refusal) (class message : List ℕ) → IsClassFor why class → Answers (Refused why) (errors.RPCError class message)
exception_answers (Lacks why) class message is = inr tt
exception_answers NotEmpty class message is = inr tt
exception_answers why class message is = absurd is

module _ (world : World) (state : State) (command : Command) (old new : Shown) (size : new.namenodes ≡ old.namenodes) (limited : IsLimited world state command) (none : NoneRose old.namenodes old.counts new.counts)
    (found : (byte : ℕ) → CommandLost old.counts new (target_of world command) command byte → ⊥) where
  at_refusal : (why : Refusal) (error : HdfsError) → step world state command ≡ Refused why → Answers (Refused why) error → Answers (step world state command) error
  at_refusal why error is h = subst (λ (o : Outcome). Answers o error) (sym is) h

  by_because : (error : HdfsError) → Because world state command old new error → IsQuiet (failure_of error) → Answers (step world state command) error
  by_because errors.NoMemory h quiet = memory_answers (step world state command)
  by_because errors.Failed h quiet = absurd h
  by_because (errors.IOError io_faults.Link) h quiet = absurd quiet
  by_because (errors.DataTransferError (transfer.Read byte)) h quiet = absurd (found byte h.1)
  by_because (errors.InvalidPath text) h quiet = at_refusal BadPath (errors.InvalidPath text) h (inr tt)
  by_because (errors.InvalidArgument args.State) h quiet = at_refusal WrongState (errors.InvalidArgument args.State) h (inr tt)
  by_because (errors.InvalidArgument args.Settings) h quiet = absurd h
  by_because (errors.InvalidArgument args.Options) h quiet = absurd (options_in world state (target_of world command) command limited.numbers limited.attributes h)
  by_because (errors.InvalidArgument args.Defaults) h quiet = absurd (defaults_in world command limited.numbers h.0 h.1)
  by_because (errors.InvalidArgument (args.Range offset len n)) h quiet = at_refusal BadRange (errors.InvalidArgument (args.Range offset len n)) h.0 (inr tt)
  by_because (errors.InvalidArgument (args.TooMany limit)) h quiet = at_refusal TooMany (errors.InvalidArgument (args.TooMany limit)) h.0 (inr tt)
  by_because (errors.AlreadyExists message) h quiet =
      ⊎_elim (λ is. at_refusal Exists (errors.AlreadyExists message) is (inr tt)) (λ rose. absurd (none_failed old new size none ANamenode rose)) h
  by_because (errors.UnsupportedFeature features.Encryption) h quiet = ⊎_elim (λ moves. absurd (limited.plain.bytes moves.1)) (λ opens. absurd (limited.plain.file opens)) h
  by_because (errors.FileNotFound name) h quiet = at_refusal (Lacks h.0) (errors.FileNotFound name) h.1 (inr tt)
  by_because (errors.RPCError class message) h quiet =
      ⊎_elim (λ is. at_refusal is.0 (errors.RPCError class message) is.1 (exception_answers is.0 class message is.2)) (λ rose. absurd (none_failed old new size none ANamenode rose)) h
  by_because error h quiet = absurd quiet

  pub cause_completes : (error : HdfsError) → Cause world state command old new error → Answers (step world state command) error
  cause_completes error h = by_because error h.0 (none_failed old new size none (failure_of error) h.1)
