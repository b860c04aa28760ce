use Rattle.hdfs_field.proofs.Writes.{HasProductRows}
use Rattle.hdfs_field.proofs.matrix.Matrix.mul.Given as goal

abbrev pub invariant-loop-r : goal.invariant-loop-r
invariant-loop-r g l = HasProductRows g.T.Ring.ring l.self l.o l.r l.m
