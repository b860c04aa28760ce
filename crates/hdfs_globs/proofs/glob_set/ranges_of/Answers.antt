-- No member is left.
use Rattle.hdfs_globs.proofs.SetRanges.{ranges-end}
use Rattle.hdfs_globs.proofs.glob_set.ranges_of.Goals as goal

pub returns : goal.returns
returns c = ranges-end c.args.members.now c.members.at _ c.members.ranges.items c.members-test.false c.members.invariant.left
