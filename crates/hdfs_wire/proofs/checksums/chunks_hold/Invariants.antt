use Rattle.std.proofs.Common.{length}
use Rattle.hdfs_wire.proofs.Chunks.{Left}
use Rattle.hdfs_wire.proofs.checksums.chunks_hold.Given as goal

abbrev pub invariant-chunks : goal.invariant-chunks
invariant-chunks l = Left l.kind l.size l.checksum l.payload l.sums l.rest

abbrev pub decreases-chunks : goal.decreases-chunks
decreases-chunks l = length l.rest

abbrev pub invariant-pairs : goal.invariant-pairs
invariant-pairs l = Left l.kind l.size l.checksum l.payload l.sums l.rest

abbrev pub decreases-pairs : goal.decreases-pairs
decreases-pairs l = length l.rest
