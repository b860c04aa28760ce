-- The members so far stand before those of what is left.
use Rattle.std.proofs.Common.{◌≡◌, map, drop, false}
use Rattle.std.specs.Option.{option_map}
use Rattle.hdfs_globs.specs.Globs.{set_body}
use Rattle.hdfs_globs.specs.Patterns.{member_of}
use Rattle.hdfs_globs.proofs.SetTexts.{prefixed}
use Rattle.hdfs_globs.proofs.glob_set.set_members.Given as goal

abbrev pub invariant-loop-at : goal.invariant-loop-at
invariant-loop-at l = set_body false l.text ≡ option_map (prefixed (map member_of l.members.items)) (set_body l.escaped (drop l.at l.text))
