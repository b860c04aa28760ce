use Rattle.std.proofs.Common.{◌≡◌, take}
use Rattle.hdfs_ec.specs.Places.{held_shards}
use Rattle.hdfs_ec.proofs.places.shards_of.Given as goal

abbrev pub invariant-loop-i : goal.invariant-loop-i
invariant-loop-i l = l.shards.items ≡ held_shards (take l.i l.places)
