-- Errors that stand for what was answered, and those that don't.
use Rattle.std.proofs.Common.{◌≡◌, inl, inr, ℕ, ◌+◌, ◌<◌, List, Option, Some, None, Result, Ok, Err, refl, sym, subst, true}
use Rattle.std.specs.Prelude.{IfErr, IfSome, IsSomeAnd}
use Rattle.hdfs_cluster.specs.declared.asks.Answer.{Answer}
use Rattle.hdfs_cluster.specs.declared.asks.Ask.{Ask}
use Rattle.hdfs_cluster.specs.declared.errors.ArgFault.TheVariants as args
use Rattle.hdfs_cluster.specs.declared.errors.Feature.TheVariants as features
use Rattle.hdfs_cluster.specs.declared.errors.HdfsError.{HdfsError}
use Rattle.hdfs_cluster.specs.declared.errors.HdfsError.TheVariants as errors
use Rattle.hdfs_cluster.specs.declared.messages.ServerDefaults.{ServerDefaults}
use Rattle.hdfs_cluster.specs.Failures.{IsOfAsk}
use Rattle.hdfs_cluster.specs.Shown.{Shown}
use Rattle.hdfs_file_reader.specs.Files.{LacksRange}
use Rattle.hdfs_file_reader.specs.Looking.{AnswersLookUp, TellsLookUp}
use Rattle.hdfs_file_reader.specs.Ranges.{FailsAt}
use Rattle.hdfs_model.specs.Causes.{CanEnd, Sends}
use Rattle.hdfs_model.specs.Opening.{AnswersDefaults}
use Rattle.hdfs_model.specs.declared.commands.Command.{Command}
use Rattle.hdfs_model.specs.declared.commands.Command.TheVariants as commands
use Rattle.hdfs_model.specs.declared.commands.Reply.{Reply}
use Rattle.hdfs_namenode.specs.Clients.{KeepsAnswered, defaults_of, proxy_of}
use Rattle.hdfs_namenode.specs.declared.protocol.NamenodeProtocol.{NamenodeProtocol}
use Rattle.hdfs_commands.specs.Refusing.{IsAnsweredSo, IsShort, WantsEncryption}
use Rattle.hdfs_namenode.specs.Views.{view_of}

module _ (may_answer : Ask → Answer → Type 0) (client path : List ℕ) (command : Command) where
  -- an error of an ask stands for no answer
  pub asked_so : (error : HdfsError) → IsOfAsk error → IsAnsweredSo may_answer client path command error
  asked_so (errors.InvalidArgument fault) of = absurd of
  asked_so (errors.FileNotFound name) of = absurd of
  asked_so (errors.UnsupportedFeature feature) of = absurd of
  asked_so error of = tt

-- a command that sends bytes to an open file stands for none
pub sent_so : (may_answer : Ask → Answer → Type 0) (client path : List ℕ) (command : Command) → Sends command → (error : HdfsError) → CanEnd command error
    → IsAnsweredSo may_answer client path command error
sent_so may_answer client path (commands.Write name bytes) sends (errors.InvalidArgument args.Defaults) can = absurd can
sent_so may_answer client path (commands.Write name bytes) sends (errors.InvalidArgument (args.Range offset len length)) can = absurd can.0
sent_so may_answer client path (commands.Write name bytes) sends (errors.InvalidArgument (args.TooMany limit)) can = absurd can
sent_so may_answer client path (commands.Write name bytes) sends (errors.FileNotFound missing) can = absurd can.1
sent_so may_answer client path (commands.Write name bytes) sends (errors.UnsupportedFeature features.Encryption) can = tt
sent_so may_answer client path (commands.Write name bytes) sends error can = tt
sent_so may_answer client path (commands.Close name) sends (errors.InvalidArgument args.Defaults) can = absurd can
sent_so may_answer client path (commands.Close name) sends (errors.InvalidArgument (args.Range offset len length)) can = absurd can.0
sent_so may_answer client path (commands.Close name) sends (errors.InvalidArgument (args.TooMany limit)) can = absurd can
sent_so may_answer client path (commands.Close name) sends (errors.FileNotFound missing) can = absurd can.1
sent_so may_answer client path (commands.Close name) sends (errors.UnsupportedFeature features.Encryption) can = tt
sent_so may_answer client path (commands.Close name) sends error can = tt
sent_so may_answer client path command sends error can = absurd sends

module _ (may_answer : Ask → Answer → Type 0) (client path name : List ℕ) (offset len : ℕ) where
  -- a look-up that gives no blocks
  pub looked_so : (called : List ℕ) (old new : Shown) (error : HdfsError) → TellsLookUp called old error new → AnswersLookUp may_answer path (Err error)
      → IsAnsweredSo may_answer client path (commands.Read name offset len) error
  looked_so called old new error (inl missing) answered =
      subst (IsAnsweredSo may_answer client path (commands.Read name offset len)) (sym missing.0)
      (subst (λ (e : HdfsError). AnswersLookUp may_answer path (Err e)) missing.0 answered)
  looked_so called old new error (inr tells) answered = asked_so may_answer client path (commands.Read name offset len) error tells.0

  wants : (known : Option ServerDefaults) → IfSome known (AnswersDefaults may_answer)
      → IsSomeAnd known (λ defaults. defaults.encrypt_data_transfer ≡ true) → WantsEncryption may_answer
  wants None kept is = absurd is
  wants (Some defaults) kept is = (defaults, kept, is)

  lost : (e : HdfsError) → FailsAt (λ byte. 0 < len) e → IsAnsweredSo may_answer client path (commands.Read name offset len) e
  lost (errors.InvalidArgument fault) of = absurd of
  lost (errors.FileNotFound missing) of = absurd of
  lost (errors.UnsupportedFeature feature) of = absurd of
  lost e of = tt

  -- a range that isn't read
  pub ranged_so : (length : ℕ) (old new : Shown) (namenode namenode' : NamenodeProtocol) (error : HdfsError)
      → LacksRange length offset len old namenode error new namenode' → KeepsAnswered may_answer namenode'
      → (length < offset + len → IsShort may_answer path offset len length)
      → IsAnsweredSo may_answer client path (commands.Read name offset len) error
  ranged_so length old new namenode namenode' error (inl behind) keeps short =
      subst (IsAnsweredSo may_answer client path (commands.Read name offset len)) (sym behind.0) (short behind.1)
  ranged_so length old new namenode namenode' error (inr (inl (inl asked, nodes))) keeps short =
      asked_so may_answer client path (commands.Read name offset len) error (asked (view_of (proxy_of namenode)) (refl, refl)).0.0
  ranged_so length old new namenode namenode' error (inr (inl (inr moves, nodes))) keeps short =
      subst (IsAnsweredSo may_answer client path (commands.Read name offset len)) (sym moves.0)
      (inr (wants (defaults_of namenode') keeps moves.2))
  ranged_so length old new namenode namenode' error (inr (inr fails)) keeps short = lost error fails

-- a command's call says it of the session's command
pub refused_there : (may_answer : Ask → Answer → Type 0) (client client' path path' : List ℕ) (command command' : Command) (result : Result Reply HdfsError)
    → client ≡ client' → path ≡ path' → command ≡ command' → IfErr result (IsAnsweredSo may_answer client path command)
    → IfErr result (IsAnsweredSo may_answer client' path' command')
refused_there may_answer client client' path path' command command' (Ok reply) named at is refused = tt
refused_there may_answer client client' path path' command command' (Err error) named at is refused =
    subst (λ (n : List ℕ). IsAnsweredSo may_answer n path' command' error) named
    (subst (λ (p : List ℕ). IsAnsweredSo may_answer client p command' error) at
    (subst (λ (c : Command). IsAnsweredSo may_answer client path c error) is refused))
