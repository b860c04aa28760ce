use Rattle.hdfs_field.proofs.FieldValues.{is_product, product-polynomial}
use Rattle.hdfs_field.proofs.gf256.GF256Ring.mul.Goals as goal

pub returns-clause-is : goal.returns-clause-is
returns-clause-is c = is_product c.args.self c.args.o _ c.product.ensures

pub returns-clause-polynomial : goal.returns-clause-polynomial
returns-clause-polynomial c = product-polynomial c.args.self c.args.o c.product.result c.product.ensures
