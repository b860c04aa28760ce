use Rattle.std.proofs.Common.{◌≡◌, ℕ, ◌<◌, ◌≤◌}
use Rattle.hdfs_field.specs.Matrices.{entry}
use Rattle.hdfs_field.proofs.matrix.Matrix.find_pivot.Given as goal

abbrev pub invariant-loop-i : goal.invariant-loop-i
invariant-loop-i g l = (k : ℕ) → l.r ≤ k → k < l.i → entry g.T.Ring.ring l.self k l.r ≡ g.T.Ring.ring.zero
