use Rattle.std.proofs.Common.{◌≡◌, ◌++◌, drop}
use Rattle.hdfs_rebuild.specs.Plans.{nodes_at}
use Rattle.hdfs_rebuild.proofs.block_plan.copy_at.Given as goal

abbrev pub invariant-loop-place : goal.invariant-loop-place
invariant-loop-place l = l.copied ++ nodes_at l.nodes (drop l.place-index l.places) ≡ nodes_at l.nodes l.places
