use Rattle.hdfs_field.proofs.FieldValues.{is_quotient, quotient-polynomial}
use Rattle.hdfs_field.proofs.gf256.GF256Field.div.Goals as goal

pub returns-clause-is : goal.returns-clause-is
returns-clause-is c = is_quotient c.args.self c.args.o _ c.quotient.ensures

pub returns-clause-polynomial : goal.returns-clause-polynomial
returns-clause-polynomial c = quotient-polynomial c.args.self c.args.o c.quotient.result c.requires c.quotient.ensures
