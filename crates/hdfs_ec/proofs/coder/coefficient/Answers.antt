use Rattle.hdfs_ec.proofs.Codes.{divisor_some}
use Rattle.hdfs_ec.proofs.coder.coefficient.Goals as goal

pub div-requires : goal.div-requires
div-requires c = divisor_some c.args.r c.args.c c.from.result c.from-2.result c.add-sum.result c.from.ensures c.from-2.ensures c.add-sum.ensures c.requires.below c.requires.small
