-- The first of the entries that are held can't be given.
use Rattle.std.proofs.Common.{List, ℕ, Err, reverse, subst}
use Rattle.hdfs_client.specs.Statuses.{IsStatus}
use Rattle.hdfs_client.proofs.Turned.{first_of_held}
use Rattle.hdfs_client.proofs.list_iterator.DirListingIterator.give.Goals as goal

pub returns-in-Err : goal.returns-in-Err
returns-in-Err c = (
  (
    c.in_ok-message.message,
    reverse c.pop.new.self.items,
    first_of_held c.args.self.now.left.items c.pop.new.self.items c.in_ok-message.message c.in_ok-message.ensures.items,
    subst (λ (p : List ℕ). IsStatus p c.in_ok-message.message (Err c.in-Err.error)) c.as_str.ensures c.in-Err.ensures,
  ),
  c.end.ensures,
)
