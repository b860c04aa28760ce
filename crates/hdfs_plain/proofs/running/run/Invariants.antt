use Rattle.std.proofs.Common.{◌≡◌, take}
use Rattle.hdfs_cluster.specs.Files.{State}
use Rattle.hdfs_model.specs.Folds.{Ends, fold}
use Rattle.hdfs_plain.specs.Answers.{world_of}
use Rattle.hdfs_plain.specs.Plain.{Holds}
use Rattle.hdfs_plain.proofs.running.run.Given as goal

-- the commands so far ended with these replies, and the files are those of the state that they left
abbrev pub invariant-loop-command : goal.invariant-loop-command
invariant-loop-command l = (state : State) → Holds l.fn.files state → (last : State) × (fold (world_of l.world) state (take l.command-index l.commands) ≡ Ends l.replies.items last) × Holds l.files last
