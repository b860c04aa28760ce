-- What a session says over any cluster, whether it tells its picture or not.
use Rattle.std.specs.Prelude.{◌≡◌, ◌≢◌, ℕ, suc, ◌-◌, ◌≤◌, true, false, List, [], ◌∷◌, length, take, Result, IfOk, IfErr, slice_get, Some, Vec}
use Rattle.std.specs.declared.alloc.Global.{Global}
use Rattle.hdfs_model.specs.declared.commands.Command.{Command}
use Rattle.hdfs_model.specs.declared.commands.Command.TheVariants as commands
use Rattle.hdfs_model.specs.declared.commands.PathEntry.{PathEntry}
use Rattle.hdfs_model.specs.declared.commands.Reply.{Reply}
use Rattle.hdfs_model.specs.declared.commands.Reply.TheVariants as replies
use Rattle.hdfs_model.specs.declared.commands.Fault.{Fault}
use Rattle.hdfs_cluster.specs.declared.errors.HdfsError.{HdfsError}
use Rattle.hdfs_cluster.specs.declared.errors.HdfsError.TheVariants as errors
use Rattle.hdfs_cluster.specs.declared.errors.TransferFault.TheVariants as transfer
use Rattle.hdfs_cluster.specs.Failures.{NodesFailTimes}
use Rattle.hdfs_cluster.specs.Shown.{Shown, Later, SameReads, SameNodes}
use Rattle.hdfs_model.specs.Causes.{Tells, IsEarly, TouchesNothing}

-- the reply tells what stands at a path; of a directory no number
abbrev pub IsInfo : Reply → Type 0
IsInfo (replies.Info true size permission replication block_size) =
    (size ≡ 0) × (permission ≡ 0) × (replication ≡ 0) × (block_size ≡ 0)
IsInfo (replies.Info false size permission replication block_size) = Unit {0}
IsInfo reply = ⊥

-- The reply is one to the command, a write has taken all of its bytes, and a listing has no more entries than the command allows. (Which
-- bytes a read gives, and what is told of what stands at paths, a told picture says.)
abbrev pub IsReply : Command → Reply → Type 0
IsReply (commands.Create path options) reply = reply ≡ replies.Created
IsReply (commands.Append path) reply = reply ≡ replies.Appended
IsReply (commands.Write path bytes) reply = reply ≡ replies.Written (length bytes)
IsReply (commands.Close path) reply = reply ≡ replies.Closed
IsReply (commands.Read path offset len) reply = (bytes : List ℕ) × (reply ≡ replies.Bytes bytes)
IsReply (commands.Mkdirs path permission create_parent) reply = reply ≡ replies.Made
IsReply (commands.Delete path recursive) reply = reply ≡ replies.Deleted
IsReply (commands.Info path) reply = IsInfo reply
IsReply (commands.List path recursive limit) reply =
    (entries : List PathEntry) × (reply ≡ replies.Listed entries) × (length entries ≤ limit)

-- One command: a reply is one to it. No read link was changed, closed or left open, and an error tells what it stands for. A
-- refusal, and a command that neither asks for bytes nor sends any, touch no datanode. (What becomes of write links a session
-- says of its own.)
pub record Applies (command : Command) (old new : Shown) (result : Result Reply HdfsError) : Type 0 where
  pub later : Later old new
  pub reads : SameReads old new
  pub replies : IfOk result (IsReply command)
  pub tells : IfErr result (Tells command old new)
  pub refused : IfErr result (λ error. IsEarly command error → SameNodes old new)
  pub idle : TouchesNothing command → SameNodes old new

-- replies to commands, one each, in order
abbrev pub AreReplies : List Command → List Reply → Type 0
AreReplies [] [] = Unit {0}
AreReplies (command ∷ commands) (reply ∷ replies) = IsReply command reply × AreReplies commands replies
AreReplies commands replies = ⊥

-- A whole session: no link was changed, closed or left open; each command has a reply to it, or an error tells what it stands for at its
-- command, and those before it have theirs. That a pipeline was rebuilt as often as it may be, so many times, is told only where datanodes
-- have failed once more than that, one time behind another.
pub record Runs (commands : List Command) (old new : Shown) (result : Result (Vec Reply Global) Fault) : Type 0 where
  pub later : Later old new
  pub reads : SameReads old new
  pub writes : (link : ℕ) → new.writes link ≡ old.writes link
  pub replies : IfOk result (λ replies. AreReplies commands replies.items)
  pub done : IfErr result (λ fault. AreReplies (take (fault.at - 1) commands) fault.done)
  pub tells : IfErr result (λ fault. fault.at ≢ 0 → (command : Command) × (slice_get commands (fault.at - 1) ≡ Some command)
      × Tells command old new fault.error)
  pub limit : IfErr result (λ fault. (n : ℕ) → fault.error ≡ errors.DataTransferError (transfer.RebuildLimit n) → NodesFailTimes (suc n) old new)
