use Rattle.std.proofs.Common.{length}
use Rattle.hdfs_field.specs.Elimination.{Follows}
use Rattle.hdfs_field.proofs.Columns.{Cleared}
use Rattle.hdfs_field.proofs.invert.clear_column.Given as goal

abbrev pub invariant-loop-i : goal.invariant-loop-i
invariant-loop-i g l =
    let ring = g.T.Ring.ring in
    Cleared ring (length l.fn.left) l.r l.i l.left × Follows ring (length l.fn.left) l.fn.left l.fn.right l.left l.right
