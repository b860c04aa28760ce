use Rattle.std.proofs.Common.{ℕ, List, ◌≤◌, length}
use Rattle.hdfs_mem_namenode.specs.Listing.{GoesOn, IsUnderWay}
use Rattle.hdfs_mem_namenode.proofs.namespace.Namespace.next_child.Given as goal

-- what is passed over is no name in the directory, so the names behind the last one are among what is left
abbrev pub invariant-loop-key : goal.invariant-loop-key
invariant-loop-key l = record {
  way : IsUnderWay l.self.names l.front l.rest;
  same : (last : List ℕ) → GoesOn l.self.names l.front last l.initial.rest → GoesOn l.self.names l.front last l.rest;
  few : length l.rest ≤ length l.initial.rest;
}

-- each turn takes an entry, or begins again behind it
abbrev pub decreases-loop-key : goal.decreases-loop-key
decreases-loop-key l = length l.rest
