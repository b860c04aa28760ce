-- The last name, or why it is none.
use Rattle.std.proofs.Common.{length, sym, ◌∙◌}
use Rattle.std.proofs.lemmas.Bool.{ltb-true}
use Rattle.hdfs_listing.proofs.Ends.{name_at_end}
use Rattle.hdfs_listing.proofs.walk.last_of.Goals as goal

pub returns-in_ok-from_str-in-Ok-clause-ok : goal.returns-in_ok-from_str-in-Ok-clause-ok
returns-in_ok-from_str-in-Ok-clause-ok c =
    c.in_ok-from_str-in-Ok.ensures ∙ c.in-Ok.ensures.cases.0 ∙ c.as_slice.ensures
    ∙ name_at_end _ c.args.statuses.now c.in-Some.last.now c.in-Some.ensures.value (ltb-true 0 (length c.args.statuses.now) (sym c.in-Some.ensures.item.0))
