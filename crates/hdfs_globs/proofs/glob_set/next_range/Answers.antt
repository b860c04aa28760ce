-- Two members with a dash between them, and one alone.
use Rattle.std.proofs.Common.{sym}
use Rattle.hdfs_globs.proofs.SetRanges.{next-short, next-plain, next-between}
use Rattle.hdfs_globs.proofs.glob_set.next_range.Goals as goal
use Rattle.hdfs_globs.proofs.glob_set.next_range.Goals.{then-at-members+else-is_dash, else-at-members}

pub returns-then-is_dash-clause-range : goal.returns-then-is_dash-clause-range
returns-then-is_dash-clause-range c = next-between c.args.members.now c.args.at c.member_at-first.result c.member_at-first.ensures _ c.member_at-dash.result c.member_at-last.result c.member_at-dash.ensures c.member_at-last.ensures (sym c.if-is_dash.ensures) c.range_between.ensures.none c.range_between.ensures.some

pub returns-clause-range : goal.returns-clause-range
returns-clause-range c = elim c.if-at-members.branch [
  | then-at-members+else-is_dash w ↦ next-plain c.args.members.now c.args.at c.member_at-first.result c.member_at-first.ensures c.range_of_one.result w.member_at-dash.result w.member_at-dash.ensures (sym w.if-is_dash.ensures) c.range_of_one.ensures.range c.range_of_one.ensures.taken
  | else-at-members w ↦ next-short c.args.members.now c.args.at c.member_at-first.result c.member_at-first.ensures c.range_of_one.result w.if-at-members.false c.range_of_one.ensures.range c.range_of_one.ensures.taken
]
