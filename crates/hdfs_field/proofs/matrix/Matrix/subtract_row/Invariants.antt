use Rattle.hdfs_field.specs.Matrices.{entry}
use Rattle.hdfs_field.specs.Rows.{SetsBelow}
use Rattle.hdfs_field.proofs.matrix.Matrix.subtract_row.Given as goal

abbrev pub invariant-loop-c : goal.invariant-loop-c
invariant-loop-c g l =
    let ring = g.T.Ring.ring in
    SetsBelow ring l.to l.c (λ c. ring.difference (entry ring l.fn.self l.to c) (ring.product l.times (entry ring l.fn.self l.from c))) l.fn.self l.self
