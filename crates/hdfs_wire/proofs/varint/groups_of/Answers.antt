use Rattle.std.proofs.Common.{arith, refl}
use Rattle.hdfs_wire.proofs.Groups.{Written-none, Written-more, Written-all}
use Rattle.hdfs_wire.proofs.varint.groups_of.Goals as goal

pub loop-rest-init : goal.loop-rest-init
loop-rest-init c = Written-none _ c.args.n refl (omega arith)

pub loop-rest-preserved : goal.loop-rest-preserved
loop-rest-preserved c = Written-more c.loop-rest.groups c.loop-rest.len c.loop-rest.rest c.args.n c.loop-rest.invariant (omega arith)

pub returns-clause-groups : goal.returns-clause-groups
returns-clause-groups c = Written-all c.loop-rest.groups c.loop-rest.len c.loop-rest.rest c.args.n c.loop-rest.invariant (omega arith)
