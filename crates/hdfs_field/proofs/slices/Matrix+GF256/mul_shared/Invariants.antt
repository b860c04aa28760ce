use Rattle.std.proofs.Common.{◌≤◌, ◌-◌}
use Rattle.hdfs_field.proofs.Combining.{CombinedRows}
use Rattle.hdfs_field.proofs.slices.Matrix+GF256.mul_shared.Given as goal

abbrev pub decreases-pairs : goal.decreases-pairs
decreases-pairs l = l.count - l.r

abbrev pub invariant-pairs : goal.invariant-pairs
invariant-pairs l = record { within : l.r ≤ l.count; rows : CombinedRows l.self l.rows l.products.items l.r }

abbrev pub invariant-last : goal.invariant-last
invariant-last l = CombinedRows l.self l.rows l.products.items l.r
