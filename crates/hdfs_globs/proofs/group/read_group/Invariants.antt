-- What was read and what is left make the group.
use Rattle.std.proofs.Common.{◌≤◌, drop, false}
use Rattle.hdfs_globs.specs.Expansions.{group_at}
use Rattle.hdfs_globs.specs.GroupScans.{Scanned}
use Rattle.hdfs_globs.proofs.group.read_group.Given as goal

abbrev pub invariant-loop-at : goal.invariant-loop-at
invariant-loop-at l = record {
  left : Scanned (group_at false 0 (drop l.fn.from l.text)) l.scan (drop l.at l.text);
  shallow : l.scan.depth ≤ l.at;
}
