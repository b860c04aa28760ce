use Rattle.std.proofs.Common.{◌≡◌, drop}
use Rattle.hdfs_cluster.specs.Replicas.{left_behind, left_of}
use Rattle.hdfs_plain.proofs.replicas.left_of.Given as goal

-- the lines that are left leave as many bytes as all do
abbrev pub invariant-loop-line : goal.invariant-loop-line
invariant-loop-line l = left_behind l.path l.block l.node l.whole l.left (drop l.line-index l.lines) ≡ left_of l.lines l.path l.block l.node l.whole
