-- The last name of a page, or the one before.
use Rattle.std.proofs.Common.{length, sym, ◌∙◌}
use Rattle.std.proofs.lemmas.Bool.{ltb-true}
use Rattle.hdfs_client.proofs.Fetching.{name_at_end, no_name_at_end}
use Rattle.hdfs_client.proofs.listing.set_start.Goals.{in-Some+in_ok-start, in_default}
use Rattle.hdfs_client.proofs.listing.set_start.Goals as goal

pub returns-clause-ok : goal.returns-clause-ok
returns-clause-ok c = elim c.match-last.branch [
  | in-Some+in_ok-start w ↦ w.start-is ∙ w.in_ok-start.ensures ∙ name_at_end c.args.start.now c.as_slice.result.now c.args.page.now.partial_listing
      w.in-Some.last.now w.in-Some.ensures.value (ltb-true 0 (length c.as_slice.result.now) (sym w.in-Some.ensures.item.0)) c.as_slice.ensures
  | in_default w ↦ w.start-is ∙ no_name_at_end c.args.start.now c.as_slice.result.now c.args.page.now.partial_listing w.in_default.ensures.value c.as_slice.ensures
]
