-- The services so far, and those of the plans that are left.
use Rattle.std.proofs.Common.{◌≡◌, ◌++◌, List, length, true}
use Rattle.std.specs.List.{list_all}
use Rattle.std.specs.Vec.Iter.{into_iter_items}
use Rattle.hdfs_namenode.specs.declared.protocol.NamenodeProtocol.{NamenodeProtocol}
use Rattle.hdfs_client.specs.Building.{AreServices, all_namenodes}
use Rattle.hdfs_client.specs.Services.{has_namenode}
use Rattle.hdfs_client.proofs.making.services_of.Given as goal

abbrev pub invariant-plans : goal.invariant-plans
invariant-plans l = record {
  addresses : l.addresses.items ++ all_namenodes (into_iter_items l.plan-iterator) ≡ all_namenodes l.fn.plans.items;
  services : (tail : List NamenodeProtocol) → AreServices (length l.addresses.items) l.fn.id (into_iter_items l.plan-iterator) tail
      → AreServices 0 l.fn.id l.fn.plans.items (l.services.items ++ tail);
  some : list_all has_namenode (into_iter_items l.plan-iterator) ≡ true;
}
