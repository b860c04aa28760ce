use Rattle.hdfs_field.specs.Matrices.{product_at}
use Rattle.hdfs_field.specs.Rows.{SetsBelow}
use Rattle.hdfs_field.proofs.matrix.Matrix.set_product_row.Given as goal

abbrev pub invariant-loop-c : goal.invariant-loop-c
invariant-loop-c g l = SetsBelow g.T.Ring.ring l.r l.c (product_at g.T.Ring.ring l.a l.b l.r) l.fn.self l.self
