-- a product with one over the divisor is the quotient
use Rattle.std.proofs.Common.{ℕ, ◌+◌, ◌<◌, ap, ◌∙◌, subst, sym, arith}
use Rattle.hdfs_field.specs.Matrices.{width, entry}
use Rattle.hdfs_field.specs.Rows.{SetsBelow}
use Rattle.hdfs_field.proofs.Writes.{sets_more}
use Rattle.hdfs_field.proofs.Quotients.{by_inverse}
use Rattle.hdfs_field.proofs.matrix.Matrix.divide_row.Goals as goal

pub loop-c-preserved : goal.loop-c-preserved
loop-c-preserved g c =
    let ring = g.T.Ring.ring in
    let quotient = g.T.Field.quotient in
    let a = c.args.self.now in
    let r = c.args.r in
    let k = c.loop-c.c in
    let below = c.loop-c.invariant in
    let inverse = c.div-inverse.ensures ∙ ap (λ (x : g.row.T.Denot). quotient x c.args.by) c.one.ensures in
    let here = c.at.ensures ∙ below.left k (omega arith) in
    let put = c.mul.ensures ∙ ap (λ (x : g.row.T.Denot). ring.product x c.div-inverse.result) here ∙ ap (ring.product (entry ring a r k)) inverse
    ∙ by_inverse ring g.met.T.Ring.lawful quotient g.met.T.Field.field (entry ring a r k) c.args.by c.requires.divisor in
    let col : k < width a = let end = c.cols-c-end.ensures.is in let test = c.loop-c-test.true in omega arith in
    let f = λ (i : ℕ). quotient (entry ring a r i) c.args.by in
    subst (SetsBelow ring r (k + 1) f a) (sym c.set.ensures) (sets_more ring r f a k c.loop-c.self c.mul.result below c.requires.row col put)
