-- The parts so far stand before the signs of what is left.
use Rattle.std.proofs.Common.{◌≡◌, ◌≤◌, ◌-◌, ◌++◌, map, drop, length}
use Rattle.std.specs.Option.{option_map}
use Rattle.hdfs_globs.specs.Globs.{signs}
use Rattle.hdfs_globs.specs.Patterns.{sign_of}
use Rattle.hdfs_globs.proofs.SignsRead.{signs_left}
use Rattle.hdfs_globs.proofs.glob.read_parts.Given as goal

abbrev pub invariant-parts : goal.invariant-parts
invariant-parts l = record {
  within : l.at ≤ length l.text;
  shallow : l.depth ≤ l.at;
  left : signs l.text ≡ option_map (λ rest. map sign_of l.parts.items ++ rest) (signs_left l.depth (drop l.at l.text));
}

abbrev pub decreases-parts : goal.decreases-parts
decreases-parts l = length l.text - l.at
