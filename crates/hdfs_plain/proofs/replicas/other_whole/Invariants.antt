use Rattle.std.proofs.Common.{◌≡◌, false}
use Rattle.hdfs_cluster.specs.Replicas.{other_whole}
use Rattle.hdfs_plain.proofs.replicas.other_whole.Given as goal

-- no datanode so far has a whole replica
abbrev pub invariant-loop-other : goal.invariant-loop-other
invariant-loop-other l = other_whole l.lines l.path l.block l.node l.whole l.other ≡ false
