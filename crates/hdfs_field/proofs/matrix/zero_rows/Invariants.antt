use Rattle.std.proofs.Common.{◌≡◌, map, replicate}
use Rattle.hdfs_field.proofs.matrix.zero_rows.Given as goal

abbrev pub invariant-loop-row : goal.invariant-loop-row
invariant-loop-row g l = map (λ row. row.items) l.all.items ≡ replicate l._row (replicate l.cols g.T.Ring.ring.zero)
