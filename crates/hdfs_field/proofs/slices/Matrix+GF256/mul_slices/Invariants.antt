use Rattle.hdfs_field.proofs.Combining.{CombinedRows}
use Rattle.hdfs_field.proofs.slices.Matrix+GF256.mul_slices.Given as goal

abbrev pub invariant-loop-r : goal.invariant-loop-r
invariant-loop-r l = CombinedRows l.self l.rows l.products.items l.r
