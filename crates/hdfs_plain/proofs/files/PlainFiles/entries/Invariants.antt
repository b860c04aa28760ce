use Rattle.std.proofs.Common.{◌≡◌, map, take}
use Rattle.hdfs_cluster.specs.Files.{State}
use Rattle.hdfs_model.specs.Steps.{entry_at}
use Rattle.hdfs_plain.specs.Plain.{Holds}
use Rattle.hdfs_plain.proofs.files.PlainFiles.entries.Given as goal

-- the entries so far are those of the state
abbrev pub invariant-loop-path : goal.invariant-loop-path
invariant-loop-path l = (state : State) → Holds l.self state → l.entries.items ≡ map (entry_at state) (take l.path-index l.paths)
