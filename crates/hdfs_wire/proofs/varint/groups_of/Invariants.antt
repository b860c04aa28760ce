use Rattle.hdfs_wire.proofs.Groups.{Written}
use Rattle.hdfs_wire.proofs.varint.groups_of.Given as goal

abbrev pub invariant-loop-rest : goal.invariant-loop-rest
invariant-loop-rest l = Written l.groups l.len l.rest l.n

abbrev pub decreases-loop-rest : goal.decreases-loop-rest
decreases-loop-rest l = l.rest
