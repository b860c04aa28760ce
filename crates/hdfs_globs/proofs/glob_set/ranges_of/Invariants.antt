-- The ranges so far stand before those of the members that are left.
use Rattle.std.proofs.Common.{◌≡◌, ◌≤◌, ◌-◌, ◌++◌, map, drop, length}
use Rattle.std.specs.Option.{option_map}
use Rattle.hdfs_globs.specs.Globs.{ranges_of}
use Rattle.hdfs_globs.specs.Patterns.{member_of}
use Rattle.hdfs_globs.proofs.glob_set.ranges_of.Given as goal

abbrev pub invariant-members : goal.invariant-members
invariant-members l = record {
  within : l.at ≤ length l.members;
  left : ranges_of (map member_of l.members) ≡ option_map (λ ranges. l.ranges.items ++ ranges) (ranges_of (map member_of (drop l.at l.members)));
}

abbrev pub decreases-members : goal.decreases-members
decreases-members l = length l.members - l.at
