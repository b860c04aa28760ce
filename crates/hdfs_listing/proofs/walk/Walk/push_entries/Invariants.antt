-- The entries from a place on are put, and their names are UTF-8.
use Rattle.std.proofs.Common.{◌≡◌, ◌≤◌, length, drop}
use Rattle.hdfs_listing.specs.Walking.{AreTexts, gives, todo_of}
use Rattle.hdfs_listing.proofs.walk.Walk.push_entries.Given as goal

abbrev pub invariant-entries : goal.invariant-entries
invariant-entries l = record {
  within : l.at ≤ length l.statuses;
  put : todo_of l.self ≡ gives l.dir (drop l.at l.statuses) (todo_of l.fn.self);
  texts : AreTexts (drop l.at l.statuses);
  keeps : (l.self.given ≡ l.fn.self.given) × (l.self.path ≡ l.fn.self.path) × (l.self.recursive ≡ l.fn.self.recursive);
}

abbrev pub decreases-entries : goal.decreases-entries
decreases-entries l = l.at
