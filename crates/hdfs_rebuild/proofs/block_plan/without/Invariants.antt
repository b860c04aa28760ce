use Rattle.std.proofs.Common.{◌≡◌, ◌++◌, length, drop}
use Rattle.hdfs_rebuild.specs.Plans.{without}
use Rattle.hdfs_rebuild.proofs.block_plan.without.Given as goal

abbrev pub invariant-loop-at : goal.invariant-loop-at
invariant-loop-at g l = l.left ++ without (length l.yielded) l.places (drop (length l.yielded) l.fn.items) ≡ without 0 l.places l.fn.items
