use Rattle.std.proofs.Common.{ℕ, List, length}
use Rattle.hdfs_mem_namenode.specs.Listing.{GoesOn, IsUnderWay}
use Rattle.hdfs_mem_namenode.proofs.Ranging.{CountsAlong}
use Rattle.hdfs_mem_namenode.proofs.namespace.Namespace.count_in.Given as goal

abbrev pub invariant-children : goal.invariant-children
invariant-children l = record {
  way : IsUnderWay l.self.names l.front l.rest;
  along : (last : List ℕ) → GoesOn l.self.names l.front last l.initial.rest → CountsAlong l.self.names l.front last l.count l.rest;
}

abbrev pub decreases-children : goal.decreases-children
decreases-children l = length l.rest
