use Rattle.std.proofs.Common.{◌≡◌}
use Rattle.hdfs_field.specs.Matrices.{total, entry}
use Rattle.hdfs_field.proofs.matrix.Matrix.product_entry.Given as goal

abbrev pub invariant-loop-i : goal.invariant-loop-i
invariant-loop-i g l =
    let ring = g.T.Ring.ring in
    l.sum ≡ total ring l.i (λ k. ring.product (entry ring l.self l.r k) (entry ring l.o k l.c))
