use Rattle.hdfs_field.proofs.Reduced.{product-only}
use Rattle.hdfs_field.proofs.gf256.products_are_unique.Goals as goal

pub returns : goal.returns
returns c = λ a b r s left right first second. product-only a b r s first second
