-- A client's services, one behind another.
use Rattle.std.proofs.Common.{◌≡◌, ◌+◌, ◌<◌, ◌≤◌, ◌&&◌, ℕ, zero, suc, Bool, true, false, List, [], ◌∷◌, ◌++◌, length, Option, Some, refl, sym, ◌∙◌, ap, subst, arith, length-append}
use Rattle.std.specs.Prelude.{IfSome}
use Rattle.std.specs.List.{list_all}
use Rattle.hdfs_cluster.specs.Shown.{Shown}
use Rattle.hdfs_names.specs.declared.mounts.NamenodeAddress.{NamenodeAddress}
use Rattle.hdfs_namenode.specs.Asked.{IsServiceOf}
use Rattle.hdfs_namenode.specs.Clients.{proxy_of}
use Rattle.hdfs_namenode.specs.declared.protocol.NamenodeProtocol.{NamenodeProtocol}
use Rattle.hdfs_client.specs.Building.{AreServices, AsksAny, IsServiceBy, all_namenodes}
use Rattle.hdfs_client.specs.Clients.{AreServicesOf, addresses_of, services_of}
use Rattle.hdfs_client.specs.Services.{has_namenode, is_some_namenode}
use Rattle.hdfs_client.specs.declared.client.Client.{Client}
use Rattle.hdfs_client.specs.declared.service_plan.ServicePlan.{ServicePlan}

parts : (a b : Bool) → (a && b) ≡ true → (a ≡ true) × (b ≡ true)
parts true b is = (refl, is)
parts false b is = absurd (cc is)

just : (a b : NamenodeProtocol) → Some a ≡ Some b → a ≡ b
just a b is = cc is

before : (first own rest both all : ℕ) → both ≡ own + rest → first + both ≤ all → (first + own ≤ all) × (first + own + rest ≤ all)
before first own rest both all is within = (omega (arith, is, within), omega (arith, is, within))

some_namenode : (namenodes : List NamenodeAddress) → is_some_namenode namenodes ≡ true → 1 ≤ length namenodes
some_namenode [] is = absurd (cc is)
some_namenode (address ∷ namenodes) is = omega arith

-- a new service of some of its namenodes
new_service : (first : ℕ) (plan : ServicePlan) (id : List ℕ) (service : NamenodeProtocol) (shown : Shown) → IsServiceBy first plan id service
    → has_namenode plan ≡ true → first + length plan.namenodes ≤ shown.namenodes → IsServiceOf (proxy_of service) shown
new_service first plan id service shown by some within =
    let new = by.new in
    let one = some_namenode plan.namenodes some in record {
      within = omega (arith, new.first, new.count, within);
      from = omega (arith, new.first, new.remembered);
      below = omega (arith, new.first, new.count, new.remembered, one);
      observer = subst (λ (o : Option ℕ). IfSome o (λ i. ((proxy_of service).first ≤ i) × (i < (proxy_of service).first + (proxy_of service).count))) (sym new.unknown) tt;
    }

-- behind the last one there is none
pub no_more : (first : ℕ) (id : List ℕ) (plans : List ServicePlan) → plans ≡ [] → AreServices first id plans []
no_more first id plans none = subst (λ (l : List ServicePlan). AreServices first id l []) (sym none) tt

-- they are as many as were planned
pub as_many : (first : ℕ) (id : List ℕ) (plans : List ServicePlan) (services : List NamenodeProtocol) → AreServices first id plans services
    → length services ≡ length plans
as_many first id [] [] are = refl
as_many first id (plan ∷ plans) (service ∷ services) are = ap suc (as_many (first + length plan.namenodes) id plans services are.1)
as_many first id [] (service ∷ services) are = absurd are
as_many first id (plan ∷ plans) [] are = absurd are

-- they are services of any cluster that has namenodes enough
pub services_of_any : (first : ℕ) (id : List ℕ) (plans : List ServicePlan) (services : List NamenodeProtocol) (shown : Shown) → AreServices first id plans services
    → list_all has_namenode plans ≡ true → first + length (all_namenodes plans) ≤ shown.namenodes → AreServicesOf services shown
services_of_any first id [] [] shown are some within k namenode is = absurd (cc is)
services_of_any first id (plan ∷ plans) (service ∷ services) shown are some within zero namenode is =
    subst (λ (n : NamenodeProtocol). IsServiceOf (proxy_of n) shown) (just service namenode is) (new_service first plan id service shown are.0 (parts (has_namenode plan) (list_all has_namenode plans) some).0
    (before first (length plan.namenodes) (length (all_namenodes plans)) (length (plan.namenodes ++ all_namenodes plans)) shown.namenodes
    (length-append plan.namenodes (all_namenodes plans)) within).0)
services_of_any first id (plan ∷ plans) (service ∷ services) shown are some within (suc k) namenode is =
    services_of_any (first + length plan.namenodes) id plans services shown are.1 (parts (has_namenode plan) (list_all has_namenode plans) some).1
    (before first (length plan.namenodes) (length (all_namenodes plans)) (length (plan.namenodes ++ all_namenodes plans)) shown.namenodes
    (length-append plan.namenodes (all_namenodes plans)) within).1 k namenode is
services_of_any first id [] (service ∷ services) shown are some within k namenode is = absurd are
services_of_any first id (plan ∷ plans) [] shown are some within k namenode is = absurd are

pub asks_any : (id : List ℕ) (plans : List ServicePlan) (client : Client) → AreServices 0 id plans (services_of client)
    → addresses_of client ≡ all_namenodes plans → list_all has_namenode plans ≡ true → AsksAny client
asks_any id plans client are addressed some shown many = record {
  many = many;
  each =
      let all : shown.namenodes ≡ length (all_namenodes plans) = many ∙ ap (length {A = NamenodeAddress}) addressed in
      services_of_any 0 id plans (services_of client) shown are some (omega (arith, all));
}
