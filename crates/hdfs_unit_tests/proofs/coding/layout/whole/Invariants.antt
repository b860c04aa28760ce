-- The row is as long as the numbers that were taken.
use Rattle.std.proofs.Common.{◌≡◌, length}
use Rattle.hdfs_unit_tests.proofs.coding.layout.whole.Given as goal

abbrev pub invariant-loop-n : goal.invariant-loop-n
invariant-loop-n l = length l.row.items ≡ l.n-index
