-- The first key of a range is the least that doesn't stand before its start.
use Rattle.std.proofs.Common.{sym, ◌∙◌}
use Rattle.std.specs.String.{string_bytes}
use Rattle.hdfs_mem_namenode.proofs.Keys.{after_cmp, all_before, first_key}
use Rattle.hdfs_mem_namenode.proofs.listing.first_from.Goals as goal

pub returns-in-None : goal.returns-in-None
returns-in-None c = all_before c.args.names.now c.args.start.now (λ k within. (c.range.ensures.in_range tt).5 c.in-None.ensures.steps.0 k (within, tt))

pub returns-in-Some : goal.returns-in-Some
returns-in-Some c =
    let m = c.args.names.now in
    let start = c.args.start.now in
    let range = c.range.ensures.in_range tt in
    let first = rw c.in-Some.ensures.steps at range.1 in
    let text = c.as_str.ensures.value in
    rw text (
      first.1,
      sym (after_cmp (string_bytes start) (string_bytes c.in-Some.path.now)) ∙ first.0.0,
      first_key m start c.in-Some.path.now (λ k within some. rw c.in-Some.ensures.steps at (range.2 k (within, tt) some)),
    )
