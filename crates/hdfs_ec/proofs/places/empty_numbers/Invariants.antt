use Rattle.std.proofs.Common.{◌≡◌, take}
use Rattle.hdfs_ec.specs.Coding.{empty_places}
use Rattle.hdfs_ec.proofs.places.empty_numbers.Given as goal

abbrev pub invariant-loop-i : goal.invariant-loop-i
invariant-loop-i l = l.numbers.items ≡ empty_places (take l.i l.places)
