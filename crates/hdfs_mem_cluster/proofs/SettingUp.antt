-- What the set-up of a pipeline does to the plan of faults, and what it asks for.
use Rattle.std.proofs.Common.{◌≡◌, ◌≢◌, ℕ, List, [], ◌∷◌, Option, Some, None, Ok, Err, refl, sym, ◌∙◌, ap, unwrap_or}
use Rattle.std.specs.Prelude.{slice_get}
use Rattle.hdfs_cluster.specs.declared.asks.LinkFault.{LinkFault}
use Rattle.hdfs_cluster.specs.declared.asks.LinkFault.TheVariants as link_faults
use Rattle.hdfs_cluster.specs.declared.messages.DatanodeInfo.{DatanodeInfo}
use Rattle.hdfs_cluster.specs.declared.messages.Setup.{Setup}
use Rattle.hdfs_cluster.specs.declared.messages.Stage.TheVariants as stages
use Rattle.hdfs_cluster.specs.declared.store.Line.{Line}
use Rattle.hdfs_cluster.specs.declared.store.LinkKind.{LinkKind}
use Rattle.hdfs_mem_faults.specs.declared.fault_plan.FaultPlan.{FaultPlan}
use Rattle.hdfs_mem_faults.specs.Following.{Follows}
use Rattle.hdfs_mem_faults.specs.Plans.{Forgets, SamePlan, SetsUp}
use Rattle.hdfs_mem_faults.proofs.Following.{end_follows, same_follows, set_up_follows}
use Rattle.hdfs_mem_cluster.specs.declared.mem_cluster.MemCluster.{MemCluster}
use Rattle.hdfs_mem_cluster.specs.Counting.{AsksSetUp}
use Rattle.hdfs_mem_cluster.specs.Failures.{planned_failure}
use Rattle.hdfs_mem_cluster.specs.Links.{write_at, write_told}
use Rattle.hdfs_mem_cluster.specs.SettingUp.{CountsSetUp, blamed, blamed_at}
use Rattle.hdfs_mem_datanodes.specs.Nodes.{SameNodes}
use Rattle.hdfs_mem_cluster.proofs.Asking.{asks_forgotten, asks_set_up, never_memory}
use Rattle.hdfs_mem_cluster.proofs.Counting.{BlamedRose, NoneFalls, falls_end, falls_same_plan, falls_set_up, falls_trans, rose_set_up}

-- the first datanode of a new pipeline
pub first_blamed : (nodes : List DatanodeInfo) (node : DatanodeInfo) → Some node ≡ slice_get nodes 0 → Some node.id.datanode_uuid ≡ blamed_at stages.Create nodes
first_blamed [] node is = absurd (cc)
first_blamed (first ∷ rest) node is = let same : node ≡ first = cc in ap (λ (n : DatanodeInfo). Some n.id.datanode_uuid) same

pub none_blamed : (nodes : List DatanodeInfo) → None ≡ slice_get nodes 0 → None ≡ blamed_at stages.Create nodes
none_blamed [] is = refl
none_blamed (first ∷ rest) is = absurd (cc)

pub same_plan_refl : (plan : FaultPlan) → SamePlan plan plan
same_plan_refl plan = record {
  plans = record { there = λ d. refl; fails = λ s nth. refl; kinds = λ nth. refl; packets = λ d nth. refl; asks = λ i nth. refl };
  calls = λ s. refl;
  nodes = λ d. refl;
  asks = λ i. refl;
  links = record { faults = refl; bad = λ link. refl };
}

-- there was no memory
pub not_counted : (old mid new : FaultPlan) (link : ℕ) (first : Option (List ℕ)) → Forgets old link mid → SamePlan mid new → CountsSetUp old link first (Some link_faults.NoMemory) new
not_counted old mid new link first forgets same = record { mid = mid; forgets = forgets; memory = λ is. same; counts = λ apart. absurd (apart refl) }

-- there was, and it failed or didn't
pub counted : (old mid new : FaultPlan) (link : ℕ) (first : Option (List ℕ)) (kind : Option LinkKind) (fault : Option LinkFault) → Forgets old link mid → SetsUp mid link first kind new → fault ≡ planned_failure kind
    → CountsSetUp old link first fault new
counted old mid new link first kind fault forgets sets fails = record {
  mid = mid;
  forgets = forgets;
  memory = λ is. absurd (never_memory kind (sym fails ∙ is));
  counts = λ apart. (kind, sets, fails);
}

-- what holds in both cases
by_memory : (P : Type 0) (fault : Option LinkFault) → (fault ≡ Some link_faults.NoMemory → P) → (fault ≢ Some link_faults.NoMemory → P) → P
by_memory P None memory counts = counts (λ is. cc)
by_memory P (Some link_faults.NoMemory) memory counts = memory refl
by_memory P (Some link_faults.Broken) memory counts = counts (λ is. cc)
by_memory P (Some link_faults.Refused) memory counts = counts (λ is. cc)

module _ (old new : FaultPlan) (link : ℕ) (first : Option (List ℕ)) (fault : Option LinkFault) (h : CountsSetUp old link first fault new) where
  -- no count falls
  pub counts_fall : NoneFalls old new
  counts_fall = by_memory (NoneFalls old new) fault
      (λ is. falls_trans old h.mid new (falls_end old h.mid link h.forgets) (falls_same_plan h.mid new (h.memory is)))
      (λ apart. (let c = h.counts apart in falls_trans old h.mid new (falls_end old h.mid link h.forgets) (falls_set_up h.mid new link first c.0 c.1)))

  -- the plan goes on following the lines that it follows
  pub counts_follow : (loaded : List Line) → Follows old loaded → Follows new loaded
  counts_follow loaded was = by_memory (Follows new loaded) fault
      (λ is. same_follows h.mid new loaded (h.memory is) (end_follows old h.mid loaded link h.forgets was))
      (λ apart. (let c = h.counts apart in set_up_follows h.mid new loaded link first c.0 c.1 (end_follows old h.mid loaded link h.forgets was)))

-- one that fails raises the count of that to which it is put down, unless there was no memory
pub counts_rose : (old new : FaultPlan) (link : ℕ) (first : Option (List ℕ)) (fault : LinkFault) → CountsSetUp old link first (Some fault) new → fault ≢ link_faults.NoMemory → BlamedRose first old new
counts_rose old new link first fault h apart =
    let c = h.counts (λ is. apart (ap (λ (o : Option LinkFault). unwrap_or o fault) is)) in
    rose_set_up old h.mid new link first c.0 fault h.forgets c.1 (sym c.2)

module _ (m m' : MemCluster) (setup : Setup) (link : ℕ) (rest : SameNodes m.nodes m'.nodes) (vacant : write_told (write_at m.links link) ≡ None) where
  -- it failed
  pub asks_failed : (fault : LinkFault) → CountsSetUp m.faults link (blamed setup) (Some fault) m'.faults → AsksSetUp m setup (Err fault) m'
  asks_failed link_faults.NoMemory h = asks_forgotten m m' setup h.mid link rest h.forgets (h.memory refl) vacant
  asks_failed link_faults.Broken h = let c = h.counts (λ is. cc) in asks_set_up m m' setup h.mid link c.0 rest h.forgets c.1 (Err link_faults.Broken) refl c.2 tt vacant
  asks_failed link_faults.Refused h = let c = h.counts (λ is. cc) in asks_set_up m m' setup h.mid link c.0 rest h.forgets c.1 (Err link_faults.Refused) refl c.2 tt vacant

  -- it didn't
  pub asks_opened : (l : ℕ) → l ≡ link → CountsSetUp m.faults link (blamed setup) None m'.faults → AsksSetUp m setup (Ok l) m'
  asks_opened l same h = let c = h.counts (λ is. cc) in asks_set_up m m' setup h.mid link c.0 rest h.forgets c.1 (Ok l) refl c.2 same vacant
