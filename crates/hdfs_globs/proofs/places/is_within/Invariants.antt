-- The character lies in one of the ranges where it lies in one that is left.
use Rattle.std.proofs.Common.{◌≡◌, drop}
use Rattle.hdfs_globs.specs.Places.{is_within}
use Rattle.hdfs_globs.proofs.places.is_within.Given as goal

abbrev pub invariant-loop-range : goal.invariant-loop-range
invariant-loop-range l = is_within l.ranges l.c ≡ is_within (drop l.range-index l.ranges) l.c
