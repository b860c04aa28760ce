use Rattle.std.proofs.Common.{◌≡◌, replicate}
use Rattle.hdfs_field.proofs.matrix.zero_row.Given as goal

abbrev pub invariant-loop-column : goal.invariant-loop-column
invariant-loop-column g l = l.row.items ≡ replicate l._column g.T.Ring.ring.zero
