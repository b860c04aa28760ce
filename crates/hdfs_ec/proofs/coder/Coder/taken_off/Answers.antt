use Rattle.std.proofs.Common.{ℕ, ◌+◌, get_or, ap, ◌∙◌}
use Rattle.hdfs_field.specs.declared.gf256.GF256.{GF256}
use Rattle.hdfs_field.specs.Elements.{gf256}
use Rattle.hdfs_field.specs.Matrices.{total, entry}
use Rattle.hdfs_field.proofs.Writes.{total_step}
use Rattle.hdfs_ec.specs.Coding.{coefficient}
use Rattle.hdfs_ec.proofs.coder.Coder.taken_off.Goals as goal

pub loop-t-init : goal.loop-t-init
unfolding total
loop-t-init c = c.zero-sum.ensures

pub loop-t-preserved : goal.loop-t-preserved
loop-t-preserved c =
    let a = c.args in
    let f : ℕ → GF256 = λ t. gf256.product (entry gf256 a.inverse.now a.j t) (coefficient (get_or a.held.now (a.first + t) 0) (get_or a.held.now a.i 0)) in
    let product = c.mul.ensures.is ∙ ap (λ (x : GF256). gf256.product x c.weight.result) c.at.ensures
    ∙ ap (gf256.product (entry gf256 a.inverse.now a.j c.loop-t.t)) c.weight.ensures in
    total_step gf256 c.loop-t.t f c.loop-t.sum c.add-sum.result c.loop-t.invariant (c.add-sum.ensures ∙ ap (gf256.sum c.loop-t.sum) product)
