use Rattle.hdfs_field.proofs.Powers.{exponent-lt, exponent-is}
use Rattle.hdfs_field.proofs.gf256.residues.exponent.Goals as goal

pub returns-clause-small : goal.returns-clause-small
returns-clause-small c = exponent-lt c.args.a c.ranges.a.fits

pub returns-clause-is : goal.returns-clause-is
returns-clause-is c = exponent-is c.args.a c.ranges.a.fits c.requires
