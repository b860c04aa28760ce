use Rattle.std.proofs.Common.{◌≡◌, take}
use Rattle.hdfs_ec.specs.Places.{held_from}
use Rattle.hdfs_ec.proofs.places.held_numbers.Given as goal

abbrev pub invariant-loop-i : goal.invariant-loop-i
invariant-loop-i l = l.numbers.items ≡ held_from 0 (take l.i l.places)
