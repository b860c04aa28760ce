-- The texts so far and what those that wait open to are what the pattern opens to.
use Rattle.std.proofs.Common.{true, map, reverse}
use Rattle.hdfs_globs.specs.Expansions.{opens}
use Rattle.hdfs_globs.specs.Openings.{IsOpened, all_nodes, shown_work}
use Rattle.hdfs_globs.proofs.expand.expand.Given as goal

abbrev pub invariant-opening : goal.invariant-opening
invariant-opening l = IsOpened (opens l.fn.pattern.items) true l.texts.items (reverse (map shown_work l.stack.items))

abbrev pub decreases-opening : goal.decreases-opening
decreases-opening l = all_nodes (reverse (map shown_work l.stack.items))
