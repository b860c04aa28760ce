use Rattle.std.proofs.Common.{sym, ap, ◌∙◌, ℕ}
use Rattle.hdfs_field.specs.Elements.{product}
use Rattle.hdfs_field.proofs.Powers.{product-powers, zero-product}
use Rattle.hdfs_field.proofs.Halves.{product-zero}
use Rattle.hdfs_field.proofs.gf256.residues.product.Goals.{then-a-eq0-via-then-a-eq0, then-a-eq0-via-else-a-eq0+then-b-eq0}
use Rattle.hdfs_field.proofs.gf256.residues.product.Goals as goal

pub returns-then-a-eq0 : goal.returns-then-a-eq0
returns-then-a-eq0 c = elim c.then-a-eq0.branch [
  | then-a-eq0-via-then-a-eq0 w ↦ sym (ap (λ (x : ℕ). product x c.args.b) w.if-a-eq0.true ∙ zero-product c.args.b c.ranges.b.fits)
  | then-a-eq0-via-else-a-eq0+then-b-eq0 w ↦ sym (ap (product c.args.a) w.if-b-eq0.true ∙ product-zero c.args.a c.ranges.a.fits)
]

pub returns : goal.returns
returns c =
    let left = c.exponent.ensures in
    let right = c.exponent-2.ensures in
    product-powers c.args.a c.args.b c.exponent.result c.exponent-2.result left.is right.is left.small right.small
