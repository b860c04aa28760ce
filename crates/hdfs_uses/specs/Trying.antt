-- A read that is tried again.
use Rattle.std.specs.Prelude.{◌≡◌, [], ◌∷◌, Result, IfOk, IfErr}
use Rattle.hdfs_model.specs.declared.commands.Command.{Command}
use Rattle.hdfs_model.specs.declared.commands.Command.TheVariants as commands
use Rattle.hdfs_model.specs.declared.commands.Reply.{Reply}
use Rattle.hdfs_cluster.specs.declared.errors.HdfsError.{HdfsError}
use Rattle.hdfs_cluster.specs.Files.{State}
use Rattle.hdfs_model.specs.Headline.{WhereReady}
use Rattle.hdfs_cluster.specs.Fitting.{Fits}
use Rattle.hdfs_model.specs.Sessions.{none_open}
use Rattle.hdfs_cluster.specs.Shown.{Shown}
use Rattle.hdfs_model.specs.Steps.{World, Done, step}

-- the command reads
abbrev pub IsRead : Command → Type 0
IsRead (commands.Read path offset len) = Unit {0}
IsRead command = ⊥

-- a reply is that of the step, whose state the cluster agrees with; after an error the cluster agrees with the old one
pub record Answered (world : World) (command : Command) (new : Shown) (result : Result Reply HdfsError) (state : State) : Type 0 where
  pub ok : IfOk result (λ reply. (next : State) × (step world state command ≡ Done reply next) × Fits new next)
  pub err : IfErr result (λ error. Fits new state)

-- this holds of each state over which a new session would have been ready
abbrev pub AnsweredWhereReady : World → Shown → Command → Shown → Result Reply HdfsError → Type 0
AnsweredWhereReady world old command new result =
    WhereReady world (record { opened = none_open; shown = old }) (command ∷ []) (Answered world command new result)
