use Rattle.std.proofs.Common.{length, arith}
use Rattle.hdfs_field.proofs.Inverses.{no_inverse}
use Rattle.hdfs_field.proofs.Reductions.{reduced_next, inverted, singular}
use Rattle.hdfs_field.proofs.matrix.Matrix.invert.Goals as goal

pub loop-r-preserved : goal.loop-r-preserved
loop-r-preserved g c =
    reduced_next g.T.Ring.ring (length c.args.self) c.args.self c.in_ok-right.right c.loop-r.left c.loop-r.right c.reduce_column.new.left c.reduce_column.new.right
    c.loop-r.r c.loop-r.invariant (c.reduce_column.ensures.done c.if-not-reduce_column.false) c.reduce_column.ensures.follows

pub returns-then-not-reduce_column-clause-none : goal.returns-then-not-reduce_column-clause-none
returns-then-not-reduce_column-clause-none g c =
    singular g.T.Ring.ring g.met.T.Ring.lawful c.rows.result c.args.self c.in_ok-right.right c.rows.ensures.is c.requires c.in_ok-right.ensures
    c.loop-r.r c.loop-r.left c.loop-r.right c.loop-r.invariant (omega arith) (c.reduce_column.ensures.none c.if-not-reduce_column.true) g.met.T.Field.field.apart

pub returns-then-not-reduce_column-clause-no_inverse : goal.returns-then-not-reduce_column-clause-no_inverse
returns-then-not-reduce_column-clause-no_inverse g c = λ m inverse.
    no_inverse g.T.Ring.ring g.met.T.Ring.lawful c.args.self m c.requires inverse
    (singular g.T.Ring.ring g.met.T.Ring.lawful c.rows.result c.args.self c.in_ok-right.right c.rows.ensures.is c.requires c.in_ok-right.ensures
    c.loop-r.r c.loop-r.left c.loop-r.right c.loop-r.invariant (omega arith) (c.reduce_column.ensures.none c.if-not-reduce_column.true) g.met.T.Field.field.apart)

pub returns-clause-some : goal.returns-clause-some
returns-clause-some g c =
    inverted g.T.Ring.ring g.met.T.Ring.lawful c.rows.result c.args.self c.in_ok-right.right c.rows.ensures.is c.requires c.in_ok-right.ensures
    c.loop-r.r c.loop-r.left c.loop-r.right c.loop-r.invariant (omega arith)
