use Rattle.std.proofs.Common.{sym, ap, ◌∙◌, ℕ}
use Rattle.hdfs_field.specs.Elements.{quotient}
use Rattle.hdfs_field.proofs.Powers.{quotient-powers, zero-quotient}
use Rattle.hdfs_field.proofs.gf256.residues.quotient.Goals as goal

pub returns-then-a-eq0 : goal.returns-then-a-eq0
returns-then-a-eq0 c = sym (ap (λ (x : ℕ). quotient x c.args.b) c.if-a-eq0.true ∙ zero-quotient c.args.b c.ranges.b.fits)

pub returns : goal.returns
returns c =
    let left = c.exponent.ensures in
    let right = c.exponent-2.ensures in
    quotient-powers c.args.a c.args.b c.exponent.result c.exponent-2.result left.is right.is left.small right.small c.ranges.b.fits c.requires
