use Rattle.hdfs_field.specs.Matrices.{product_at}
use Rattle.hdfs_field.proofs.Writes.{sets_none}
use Rattle.hdfs_field.proofs.matrix.Matrix.set_product_row.Goals as goal

pub loop-c-init : goal.loop-c-init
loop-c-init g c = sets_none g.T.Ring.ring c.args.r (product_at g.T.Ring.ring c.args.a.now c.args.b.now c.args.r) c.args.self.now c.cols-c-end.ensures.grid
