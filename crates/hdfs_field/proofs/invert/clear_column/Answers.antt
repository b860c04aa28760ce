use Rattle.std.proofs.Common.{length}
use Rattle.hdfs_field.proofs.Reductions.{cleared_next, cleared_same}
use Rattle.hdfs_field.proofs.invert.clear_column.Goals as goal
use Rattle.hdfs_field.proofs.invert.clear_column.Goals.{then-i-r, else-i-r}

pub loop-i-preserved : goal.loop-i-preserved
loop-i-preserved g c = elim c.if-i-r.branch [
  | then-i-r w ↦
      cleared_next g.T.Ring.ring (length c.args.left.now) c.args.left.now c.args.right.now c.loop-i.left c.loop-i.right w.clear_entry.new.left w.clear_entry.new.right
      g.met.T.Ring.lawful c.args.r c.loop-i.i c.loop-i.invariant c.requires.within w.if-i-r.true w.clear_entry.ensures.subtracted w.clear_entry.ensures.follows
      c.if-i-r.left c.if-i-r.right w.left-is w.right-is
  | else-i-r w ↦
      cleared_same g.T.Ring.ring (length c.args.left.now) c.args.left.now c.args.right.now c.loop-i.left c.loop-i.right c.loop-i.left c.loop-i.right
      g.met.T.Ring.lawful c.args.r c.loop-i.i c.loop-i.invariant w.if-i-r.false c.if-i-r.left c.if-i-r.right w.left-is w.right-is
]
