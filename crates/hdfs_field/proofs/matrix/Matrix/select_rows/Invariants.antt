use Rattle.hdfs_field.proofs.Selection.{KeepsBelow}
use Rattle.hdfs_field.proofs.matrix.Matrix.select_rows.Given as goal

abbrev pub invariant-loop-r : goal.invariant-loop-r
invariant-loop-r g l = KeepsBelow l.rows l.r l.kept l.fn.self l.self
