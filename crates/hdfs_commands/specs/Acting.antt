-- What one command does to a session and its cluster.
use Rattle.std.specs.Prelude.{◌≡◌, ◌≢◌, ℕ, suc, List, [], ◌∷◌, Result, IfOk, IfErr, OnOk}
use Rattle.hdfs_model.specs.declared.commands.Command.{Command}
use Rattle.hdfs_model.specs.declared.commands.Reply.{Reply}
use Rattle.hdfs_cluster.specs.declared.errors.HdfsError.{HdfsError}
use Rattle.hdfs_cluster.specs.declared.errors.HdfsError.TheVariants as errors
use Rattle.hdfs_cluster.specs.declared.errors.TransferFault.TheVariants as transfer
use Rattle.hdfs_cluster.specs.Failures.{NodesFailTimes}
use Rattle.hdfs_model.specs.Anywhere.{Applies}
use Rattle.hdfs_cluster.specs.Files.{State}
use Rattle.hdfs_model.specs.Headline.{Ready, Applied}
use Rattle.hdfs_model.specs.Sessions.{world_of}
use Rattle.hdfs_cluster.specs.Shown.{Shown}
use Rattle.hdfs_model.specs.Steps.{World, Done, step, target_of}
use Rattle.hdfs_commands.specs.Session.{settings_of, scene_of, writer_of, Stands, OnlyOwnLinks, Carried, CarriesOpen, Tallied}
use Rattle.hdfs_commands.specs.declared.session.Session.{Session}

-- the world of a session over a cluster
abbrev pub world_at : Session → Shown → World
world_at session shown = world_of (settings_of session) shown

-- A session is ready for one command over a state, and carries the files that the state has open.
pub record IsReady (shown : Shown) (session : Session) (state : State) (command : Command) : Type 0 where
  pub ready : Ready (world_at session shown) (scene_of session shown) state (command ∷ [])
  pub carried : Carried shown session state

-- One command. Over any cluster: an error tells what it stands for, of the write links only the session's own were touched, the
-- session stands, and of its writers only the one of the file at the command's path was touched. A pipeline was rebuilt as often as it may
-- be only where datanodes have failed once more than that, from any moment on that no rebuild went before.
-- Over a state that the session is ready for: what `Applied` says; after a reply the world is the same, and the session carries the
-- next state's files; and after an error its other files are carried as they were.
pub record Acts (command : Command) (old : Shown) (session : Session) (new : Shown) (session' : Session) (result : Result Reply HdfsError) : Type 0 where
  pub anywhere : Applies command old new result
  pub links : OnlyOwnLinks old session new session'
  pub stands : Stands new session'
  pub tallied : (start : Shown) → Tallied start old session → Tallied start new session'
  pub limit : IfErr result (λ error. (start : Shown) (n : ℕ) → error ≡ errors.DataTransferError (transfer.RebuildLimit n)
      → Tallied start old session → NodesFailTimes (suc n) start new)
  pub writers : (path : List ℕ) → path ≢ target_of (world_at session old) command → writer_of session' path ≡ writer_of session path
  pub applied : (state : State) → IsReady old session state command
      → Applied (world_at session old) state command (scene_of session old) (scene_of session' new) result
  pub world : (state : State) → IsReady old session state command → OnOk result (world_at session' new ≡ world_at session old)
  pub carried : (state : State) → IsReady old session state command
      → IfOk result (λ reply. (next : State) → step (world_at session old) state command ≡ Done reply next → Carried new session' next)
  pub spares : (state : State) → IsReady old session state command → IfErr result (λ error. CarriesOpen new session' state)
