use Rattle.hdfs_field.specs.Matrices.{entry}
use Rattle.hdfs_field.specs.Rows.{SetsBelow}
use Rattle.hdfs_field.proofs.matrix.Matrix.divide_row.Given as goal

abbrev pub invariant-loop-c : goal.invariant-loop-c
invariant-loop-c g l = SetsBelow g.T.Ring.ring l.r l.c (λ c. g.T.Field.quotient (entry g.T.Ring.ring l.fn.self l.r c) l.fn.by) l.fn.self l.self
