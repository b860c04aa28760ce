-- It stays a client of the namenodes, and what is listed may be listed on.
use Rattle.hdfs_client.specs.Clients.{IsClientOf, mounts_of}
use Rattle.hdfs_client.specs.Iterating.{LetsWalk, begun_by}
use Rattle.hdfs_step_tests.specs.Namenodes.{shown_of}
use Rattle.hdfs_step_tests.proofs.mounts.iterating.go_on.Given as goal

abbrev pub invariant-calls : goal.invariant-calls
invariant-calls l = record {
  client : IsClientOf l.client (shown_of l.namenodes);
  lets : LetsWalk (λ request. Unit {0}) (λ ask answer. Unit {0}) (mounts_of l.client) l.listing.recursive (begun_by l.listing);
}
