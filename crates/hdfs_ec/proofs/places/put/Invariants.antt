use Rattle.std.proofs.Common.{length}
use Rattle.hdfs_ec.specs.Places.{ArePut}
use Rattle.hdfs_ec.proofs.places.put.Given as goal

abbrev pub invariant-loop-i : goal.invariant-loop-i
invariant-loop-i l = ArePut (length l.yielded) l.numbers l.fn.shards.items l.fn.places l.places
