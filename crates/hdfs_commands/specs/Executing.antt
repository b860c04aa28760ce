-- What a command of a session comes to.
use Rattle.std.specs.Prelude.{◌≡◌, true, false, Result, IfErr, OnErr, OnOk}
use Rattle.hdfs_cluster.specs.declared.asks.Answer.{Answer}
use Rattle.hdfs_cluster.specs.declared.asks.Ask.{Ask}
use Rattle.hdfs_cluster.specs.declared.errors.HdfsError.{HdfsError}
use Rattle.hdfs_cluster.specs.Shown.{Shown}
use Rattle.hdfs_model.specs.declared.commands.Command.{Command}
use Rattle.hdfs_model.specs.declared.commands.Reply.{Reply}
use Rattle.hdfs_model.specs.Owing.{Owed}
use Rattle.hdfs_commands.specs.Acting.{Acts, world_at}
use Rattle.hdfs_commands.specs.Asking.{AreAnswered}
use Rattle.hdfs_commands.specs.Refusing.{RefusedSo}
use Rattle.hdfs_commands.specs.Session.{has_failed, opened_of, settings_of}
use Rattle.hdfs_commands.specs.Whole.{KeepsBlocksWhole}
use Rattle.hdfs_commands.specs.declared.session.Session.{Session}

-- One command of a session that hasn't failed. It does what `Acts` says, and keeps blocks whole; an error that is owed to the command is
-- right, and one that stands for an answer was answered so; the session is run with what it was run with, has failed behind an error and not
-- behind a reply, and what it keeps was answered to it.
pub record Executes (may_answer : Ask → Answer → Type 0) (command : Command) (old : Shown) (session : Session) (new : Shown) (session' : Session)
    (result : Result Reply HdfsError) : Type 0 where
  pub acts : Acts command old session new session' result
  pub whole : KeepsBlocksWhole command old session new session' result
  pub owed : IfErr result (Owed (world_at session old) (opened_of session) command)
  pub refused : IfErr result (RefusedSo may_answer session command)
  pub settings : settings_of session' ≡ settings_of session
  pub fails : OnErr result (has_failed session' ≡ true) × OnOk result (has_failed session' ≡ false)
  pub answered : AreAnswered may_answer session'
