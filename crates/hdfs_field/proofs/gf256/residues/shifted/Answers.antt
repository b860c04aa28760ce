use Rattle.hdfs_field.proofs.Residues.{shifted_high}
use Rattle.hdfs_field.proofs.gf256.residues.shifted.Goals as goal

pub returns-else-b-lt128 : goal.returns-else-b-lt128
returns-else-b-lt128 c = shifted_high c.args.b c.ranges.b.fits c.if-b-lt128.false
