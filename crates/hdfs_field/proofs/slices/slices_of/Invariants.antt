use Rattle.std.proofs.Common.{◌≡◌, map, take}
use Rattle.hdfs_field.proofs.slices.slices_of.Given as goal

abbrev pub invariant-loop-row : goal.invariant-loop-row
invariant-loop-row l = map (λ p. p.now) l.slices.items ≡ take l.row-index l.rows
