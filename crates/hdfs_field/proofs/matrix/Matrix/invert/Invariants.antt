use Rattle.std.proofs.Common.{length}
use Rattle.hdfs_field.specs.Elimination.{Follows, HasUnits}
use Rattle.hdfs_field.proofs.matrix.Matrix.invert.Given as goal

abbrev pub invariant-loop-r : goal.invariant-loop-r
invariant-loop-r g l =
    let ring = g.T.Ring.ring in
    HasUnits ring (length l.fn.self) l.r l.left × Follows ring (length l.fn.self) l.fn.self l.initial.right l.left l.right
