use Rattle.std.proofs.Common.{◌≡◌, map, take}
use Rattle.hdfs_field.proofs.matrix.copied_rows.Given as goal

abbrev pub invariant-loop-row : goal.invariant-loop-row
invariant-loop-row g l = map (λ row. row.items) l.copies.items ≡ map (λ row. row.items) (take l.row-index l.rows)
