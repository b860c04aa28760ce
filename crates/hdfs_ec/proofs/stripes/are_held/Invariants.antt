use Rattle.std.proofs.Common.{◌≡◌, length, take}
use Rattle.hdfs_ec.specs.Coding.{empty_places}
use Rattle.hdfs_ec.proofs.stripes.are_held.Given as goal

abbrev pub invariant-loop-i : goal.invariant-loop-i
invariant-loop-i l = length (empty_places (take l.i l.places)) ≡ 0
