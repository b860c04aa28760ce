use Rattle.std.proofs.Common.{◌≡◌, take}
use Rattle.std.specs.List.{filter}
use Rattle.hdfs_cluster.specs.Names.{is_within}
use Rattle.hdfs_plain.proofs.naming.those_within.Given as goal

-- those among the paths so far
abbrev pub invariant-loop-path : goal.invariant-loop-path
invariant-loop-path l = l.found.items ≡ filter (is_within l.top) (take l.path-index l.paths)
