use Rattle.std.proofs.Common.{length}
use Rattle.hdfs_wire.proofs.Message.{Partly}
use Rattle.hdfs_wire.proofs.field.all_fields.Given as goal

abbrev pub invariant-loop-rest : goal.invariant-loop-rest
invariant-loop-rest l = Partly l.bytes l.found.items l.rest

abbrev pub decreases-loop-rest : goal.decreases-loop-rest
decreases-loop-rest l = length l.rest
