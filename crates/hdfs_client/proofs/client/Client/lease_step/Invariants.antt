-- The services so far have had their turns, and nothing else has changed.
use Rattle.std.proofs.Common.{◌≡◌, drop, length, Some}
use Rattle.hdfs_namenode.specs.declared.leases.LeaseTurn.TheVariants.{Idle}
use Rattle.hdfs_client.specs.Clients.{IsClientOf, addresses_of, mounts_of, replacement_of, services_of}
use Rattle.hdfs_opening.specs.Opening.{LeavesLinks}
use Rattle.hdfs_client.proofs.Beside.{KeepsServices}
use Rattle.hdfs_client.proofs.Leased.{GoesOn}
use Rattle.hdfs_client.proofs.client.Client.lease_step.Given as goal

abbrev pub invariant-services : goal.invariant-services
invariant-services g l = record {
  goes_on : GoesOn g.C.Cluster.serves l.moment (services_of l.fn.self) l.fn.cluster (Some Idle) l.turn l.k (services_of l.self) l.cluster;
  client : IsClientOf l.self (g.C.Cluster.shown l.cluster);
  services : KeepsServices l.fn.self l.self;
  links : LeavesLinks (g.C.Cluster.shown l.fn.cluster) (g.C.Cluster.shown l.cluster);
  left : drop l.k (services_of l.self) ≡ drop l.k (services_of l.fn.self);
  many : length (services_of l.self) ≡ length (services_of l.fn.self);
  rest : (mounts_of l.self ≡ mounts_of l.fn.self) × (addresses_of l.self ≡ addresses_of l.fn.self) × (replacement_of l.self ≡ replacement_of l.fn.self);
}
