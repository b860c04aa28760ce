use Rattle.hdfs_field.proofs.Writes.{HasOnes}
use Rattle.hdfs_field.proofs.matrix.Matrix.identity.Given as goal

abbrev pub invariant-loop-r : goal.invariant-loop-r
invariant-loop-r g l = HasOnes g.T.Ring.ring l.rows l.r l.m
