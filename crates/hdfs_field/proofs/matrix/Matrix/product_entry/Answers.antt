use Rattle.hdfs_field.specs.Matrices.{total, entry}
use Rattle.hdfs_field.proofs.Writes.{total_step}
use Rattle.hdfs_field.proofs.matrix.Matrix.product_entry.Goals as goal

pub loop-i-init : goal.loop-i-init
unfolding total
loop-i-init g c = c.zero-sum.ensures

pub loop-i-preserved : goal.loop-i-preserved
loop-i-preserved g c =
    let ring = g.T.Ring.ring in
    let f = λ (k : _). ring.product (entry ring c.args.self.now c.args.r k) (entry ring c.args.o.now k c.args.c) in
    total_step ring c.loop-i.i f c.loop-i.sum _ c.loop-i.invariant (cc (c.add-sum.ensures, c.mul.ensures, c.at.ensures, c.at-in-loop-i.ensures))
