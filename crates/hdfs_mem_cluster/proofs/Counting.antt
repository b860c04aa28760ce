-- What a counted call does to the counts of a cluster, and which of them fail.
use Rattle.std.proofs.Common.{◌≡◌, ◌≢◌, ⊎_elim, ℕ, ◌+◌, ◌-◌, ◌^◌, ◌<◌, ◌≤◌, min, nat_lt, Bool, true, false, ◌&&◌, if◌then◌else◌, List, [], ◌∷◌, Option, Some, None, is_some, map, refl, sym, ◌∙◌, ap, subst, arith}
use Rattle.std.proofs.lemmas.Bool.{cases_eq, false≢true}
use Rattle.std.proofs.lemmas.Slice.Eq.{bytes_eq-Decides}
use Rattle.std.specs.Str.{bytes_eq}
use Rattle.hdfs_cluster.specs.declared.asks.LinkFault.{LinkFault}
use Rattle.hdfs_cluster.specs.declared.messages.DatanodeInfo.{DatanodeInfo}
use Rattle.hdfs_cluster.specs.declared.messages.Stage.{Stage}
use Rattle.hdfs_cluster.specs.declared.messages.Stage.TheVariants as stages
use Rattle.hdfs_cluster.specs.declared.store.FaultLine.{FaultLine}
use Rattle.hdfs_cluster.specs.declared.store.LinkKind.{LinkKind}
use Rattle.hdfs_cluster.specs.declared.store.LinkKind.TheVariants as link_kinds
use Rattle.hdfs_cluster.specs.declared.mem_settings.MemSettings.{MemSettings}
use Rattle.hdfs_cluster.specs.Counts.{NeverFall, Rose}
use Rattle.hdfs_cluster.specs.Pipes.{SetupFailedAt}
use Rattle.hdfs_mem_faults.specs.declared.fault_plan.FaultPlan.{FaultPlan}
use Rattle.hdfs_mem_faults.specs.declared.node_plan.NodeCall.{NodeCall}
use Rattle.hdfs_mem_faults.specs.Calls.{after_one, is_at_once, one_if}
use Rattle.hdfs_mem_faults.specs.Plans.{AddsNodes, Counts, CountsOne, Forgets, PlansFault, SameAskFaults, SamePlan, SetsUp, calls_of, has_node, is_bad, link_faults_of, node_faults_of}
use Rattle.hdfs_mem_faults.specs.Series.{Series, SetUps, AsksOf, CallsOf, is_of, link_fault_count, node_fault_count}
use Rattle.hdfs_mem_faults.proofs.Bounds.{link_faults-le, node_faults-le}
use Rattle.hdfs_mem_faults.proofs.Following.{next_follows}
use Rattle.hdfs_mem_cluster.specs.declared.mem_cluster.MemCluster.{MemCluster}
use Rattle.hdfs_mem_cluster.specs.Counting.{CallsNode, CountsNothing}
use Rattle.hdfs_mem_cluster.specs.Failures.{planned_failure}
use Rattle.hdfs_mem_cluster.specs.Lines.{line_of}
use Rattle.hdfs_mem_cluster.specs.SettingUp.{blamed_at}
use Rattle.hdfs_mem_cluster.specs.MemShown.{HasNodesOf, counts_at, failed_calls, namenode_faults, shown_of}
use Rattle.hdfs_mem_datanodes.specs.Nodes.{SameNodes}

-- the number of asks of no namenode fell
abbrev pub AsksGrow : FaultPlan → FaultPlan → Type 0
AsksGrow old new = (i : ℕ) → calls_of old (AsksOf i) ≤ calls_of new (AsksOf i)

-- no count of a plan fell, and the faults of the namenodes stay
pub record NoneFalls (old new : FaultPlan) : Type 0 where
  pub asked : AsksGrow old new
  pub asks : SameAskFaults old new
  pub links : link_faults_of old ≤ link_faults_of new
  pub nodes : (d : List ℕ) → node_faults_of old d ≤ node_faults_of new d

pub falls_refl : (plan : FaultPlan) → NoneFalls plan plan
falls_refl plan = record { asked = λ i. omega arith; asks = λ i. refl; links = omega arith; nodes = λ d. omega arith }

-- the counts of the namenodes stay with those of the plan
pub same_namenodes : (settings : MemSettings) (calls : ℕ) (old new : FaultPlan) → SameAskFaults old new → (i : ℕ) → namenode_faults settings calls new i ≡ namenode_faults settings calls old i
same_namenodes settings calls old new same i = ap (λ (n : ℕ). if nat_lt i settings.namenodes then min (n + failed_calls settings calls i) (2 ^ 64 - 1) else 0) (same i)

-- beside the counts of the namenodes, which stay
pub falls_beside : (settings : MemSettings) (calls : ℕ) (old new : FaultPlan) → NoneFalls old new → NeverFall (counts_at settings calls old) (counts_at settings calls new)
falls_beside settings calls old new fall = record { asks = fall.asked; calls = λ i. omega (arith, same_namenodes settings calls old new fall.asks i); links = fall.links; nodes = fall.nodes }

-- where one call was counted, of whichever series
pub asks_grow : (old new : FaultPlan) (series : Series) → CountsOne old series new → AsksGrow old new
asks_grow old new SetUps h i = omega (arith, h.others (AsksOf i) (λ is. (cc)))
asks_grow old new (AsksOf asked) h i = ⊎_elim
    (λ same. subst (λ (k : ℕ). calls_of old (AsksOf k) ≤ calls_of new (AsksOf k)) (sym same) h.grows)
    (λ apart. omega (arith, h.others (AsksOf i) (λ is. apart (cc))))
    (cases_eq i asked)
asks_grow old new (CallsOf call uuid) h i = omega (arith, h.others (AsksOf i) (λ is. (cc)))

-- a call of a datanode
pub falls_counts : (old new : FaultPlan) (series : Series) (fails : Bool) → Counts old series fails new → NoneFalls old new
falls_counts old new series fails h = record { asked = asks_grow old new series h.call; asks = h.asks; links = omega (arith, h.links.faults); nodes = λ d. omega (arith, h.nodes d) }

own_adds : (fails : Bool) (call : NodeCall) (u : List ℕ) → one_if (fails && is_of u (CallsOf call u)) ≡ one_if fails
own_adds true call u = ap one_if ((bytes_eq-Decides u u).1 refl)
own_adds false call u = refl

other_adds : (fails : Bool) (call : NodeCall) (u d : List ℕ) → d ≢ u → one_if (fails && is_of d (CallsOf call u)) ≡ 0
other_adds true call u d apart = by_test (bytes_eq u d) (bytes_eq-Decides u d).0
  where
    by_test : (b : Bool) → (b ≡ true → u ≡ d) → one_if b ≡ 0
    by_test true same = absurd (apart (sym (same refl)))
    by_test false same = refl
other_adds false call u d apart = refl

pub own_count : (old new : FaultPlan) (call : NodeCall) (u : List ℕ) (fails : Bool) → Counts old (CallsOf call u) fails new → node_faults_of new u ≡ node_faults_of old u + one_if fails
own_count old new call u fails h = h.nodes u ∙ ap (λ (n : ℕ). node_faults_of old u + n) (own_adds fails call u)

-- one that fails raises the count of its datanode
pub rose_counts : (old new : FaultPlan) (call : NodeCall) (u : List ℕ) → Counts old (CallsOf call u) true new → Rose (node_faults_of old u) (node_faults_of new u)
rose_counts old new call u h = omega (arith, own_count old new call u true h)

-- the set-up of a pipeline
pub falls_set_up : (old new : FaultPlan) (link : ℕ) (first : Option (List ℕ)) (kind : Option LinkKind) → SetsUp old link first kind new → NoneFalls old new
falls_set_up old new link first kind h = record { asked = asks_grow old new SetUps h.call; asks = h.asks; links = omega (arith, h.faults); nodes = λ d. omega (arith, h.nodes d) }

pub falls_end : (old new : FaultPlan) (link : ℕ) → Forgets old link new → NoneFalls old new
falls_end old new link h = record { asked = λ i. omega (arith, h.calls (AsksOf i)); asks = h.asks; links = omega (arith, h.faults); nodes = λ d. omega (arith, h.nodes d) }

pub falls_same : (old new : FaultPlan) → new ≡ old → NoneFalls old new
falls_same old new same = subst (λ (p : FaultPlan). NoneFalls old p) (sym same) (falls_refl old)

pub falls_same_plan : (old new : FaultPlan) → SamePlan old new → NoneFalls old new
falls_same_plan old new h = record { asked = λ i. omega (arith, h.calls (AsksOf i)); asks = h.asks; links = omega (arith, h.links.faults); nodes = λ d. omega (arith, h.nodes d) }

pub falls_fault : (old new : FaultPlan) (fault : FaultLine) → PlansFault old fault new → NoneFalls old new
falls_fault old new fault h = record { asked = λ i. omega (arith, h.calls (AsksOf i)); asks = h.asks; links = omega (arith, h.links.faults); nodes = λ d. omega (arith, h.nodes d) }

pub falls_adds : (old new : FaultPlan) → AddsNodes old new → NoneFalls old new
falls_adds old new h = record { asked = λ i. omega (arith, h.calls (AsksOf i)); asks = h.asks; links = omega (arith, h.links.faults); nodes = λ d. omega (arith, h.nodes d) }

pub falls_trans : (a b c : FaultPlan) → NoneFalls a b → NoneFalls b c → NoneFalls a c
falls_trans a b c f g = record { asked = λ i. omega (arith, f.asked i, g.asked i); asks = λ i. g.asks i ∙ f.asks i; links = omega (arith, f.links, g.links); nodes = λ d. omega (arith, f.nodes d, g.nodes d) }

-- how it fails is seen at once
pub at_once : (kind : Option LinkKind) → is_some (planned_failure kind) ≡ is_at_once kind
at_once None = refl
at_once (Some link_kinds.Broken) = refl
at_once (Some link_kinds.Refused) = refl
at_once (Some link_kinds.BadAck) = refl

-- the count has risen of the datanode to which the failure of a set-up is put down, or that of the links
abbrev pub BlamedRose : Option (List ℕ) → FaultPlan → FaultPlan → Type 0
BlamedRose None old new = Rose (link_faults_of old) (link_faults_of new)
BlamedRose (Some first) old new = Rose (node_faults_of old first) (node_faults_of new first)

-- a set-up that fails raises it
pub rose_set_up : (old mid new : FaultPlan) (link : ℕ) (first : Option (List ℕ)) (kind : Option LinkKind) (fault : LinkFault) → Forgets old link mid → SetsUp mid link first kind new → planned_failure kind ≡ Some fault → BlamedRose first old new
rose_set_up old mid new link None kind fault forgets sets is =
    let once : one_if (is_at_once kind && true) ≡ 1 = ap (λ (b : Bool). one_if (b && true)) (sym (at_once kind) ∙ ap is_some is) in
    omega (arith, sets.faults, forgets.faults, once)
rose_set_up old mid new link (Some first) kind fault forgets sets is =
    let once : one_if (is_at_once kind && bytes_eq first first) ≡ 1 =
    ap (λ (b : Bool). one_if (b && bytes_eq first first)) (sym (at_once kind) ∙ ap is_some is) ∙ ap one_if ((bytes_eq-Decides first first).1 refl) in
    omega (arith, sets.nodes first, forgets.nodes first, once)

-- so what has to do with the stage of a set-up has failed
pub stage_failed : (settings : MemSettings) (calls : ℕ) (old new : FaultPlan) (stage : Stage) (nodes : List DatanodeInfo) → BlamedRose (blamed_at stage nodes) old new
    → SetupFailedAt stage nodes (counts_at settings calls old) (counts_at settings calls new)
stage_failed settings calls old new stages.Create [] rose = rose
stage_failed settings calls old new stages.Create (first ∷ rest) rose = rose
stage_failed settings calls old new stages.Append nodes rose = rose
stage_failed settings calls old new stages.Recovery nodes rose = rose

-- no namenode has failed
abbrev pub SameCalls : MemCluster → MemCluster → Type 0
SameCalls m m' = (i : ℕ) → (shown_of m').counts.calls i ≡ (shown_of m).counts.calls i

-- nothing was counted
pub counts_nothing : (m m' : MemCluster) → SameNodes m.nodes m'.nodes → m'.faults ≡ m.faults → SameCalls m m' → CountsNothing m m'
counts_nothing m m' rest same asked = record {
  counts = record {
    asks = λ i. ap (λ (p : FaultPlan). calls_of p (AsksOf i)) same;
    calls = asked;
    links = ap link_faults_of same;
    nodes = λ d. ap (λ (p : FaultPlan). node_faults_of p d) same;
  };
  calls = λ s. ap (λ (p : FaultPlan). calls_of p s) same;
  bad = λ link shown. ap (λ (p : FaultPlan). is_bad p link) same;
  there = λ d has. record { there = rest.there d ∙ has.there; counted = ap (λ (p : FaultPlan). has_node p d) same ∙ has.counted };
}

-- the datanodes are still there
pub nodes_stay : (m m' : MemCluster) → SameNodes m.nodes m'.nodes → ((d : List ℕ) → has_node m'.faults d ≡ has_node m.faults d) → HasNodesOf m m'
nodes_stay m m' rest same d has = record { there = rest.there d ∙ has.there; counted = same d ∙ has.counted }

pub one_more : (a b : ℕ) → b ≡ after_one a → a + 1 < 2 ^ 64 → b ≡ a + 1
one_more a b is room = omega (arith, is, room)

-- a counted call of a datanode fails exactly where a line plans it
pub calls_node : (m m' : MemCluster) (call : NodeCall) (u : List ℕ) (counted fails : Bool) → SameNodes m.nodes m'.nodes → Counts m.faults (CallsOf call u) fails m'.faults → counted ≡ true → CallsNode m u (CallsOf call u) counted fails m'
calls_node m m' call u counted fails rest h is = record {
  call = record {
    own = λ can. (let one : one_if counted ≡ 1 = ap one_if is in omega (arith, one_more (calls_of m.faults (CallsOf call u)) (calls_of m'.faults (CallsOf call u)) (h.call.own can.there) can.room, one));
    others = h.call.others;
    there = nodes_stay m m' rest h.call.plans.there;
  };
  exact = λ can sure. h.as_planned ∙ next_follows m.faults (map line_of m.loaded.items) (CallsOf call u) m.follows can.there can.room;
  own = own_count m.faults m'.faults call u fails h;
  others = λ d apart. (let none = other_adds fails call u d apart in omega (arith, h.nodes d, none));
  links = h.links.faults;
  bad = h.links.bad;
}

-- one for which there was no memory is not counted
pub calls_nothing : (m m' : MemCluster) (call : NodeCall) (u : List ℕ) (counted fails : Bool) → SameNodes m.nodes m'.nodes → m'.faults ≡ m.faults → counted ≡ false → fails ≡ false → CallsNode m u (CallsOf call u) counted fails m'
calls_nothing m m' call u counted fails rest same uncounted good =
    let none : one_if counted ≡ 0 = ap one_if uncounted in
    let zero : one_if fails ≡ 0 = ap one_if good in
    record {
      call = record {
        own = λ can. omega (arith, ap (λ (p : FaultPlan). calls_of p (CallsOf call u)) same, none);
        others = λ s apart. ap (λ (p : FaultPlan). calls_of p s) same;
        there = nodes_stay m m' rest (λ d. ap (λ (p : FaultPlan). has_node p d) same);
      };
      exact = λ can counts. absurd (false≢true (sym uncounted ∙ counts));
      own = omega (arith, ap (λ (p : FaultPlan). node_faults_of p u) same, zero);
      others = λ d apart. ap (λ (p : FaultPlan). node_faults_of p d) same;
      links = ap link_faults_of same;
      bad = λ link. ap (λ (p : FaultPlan). is_bad p link) same;
    }

-- no datanode has failed more often than lines are faults of it
pub nodes_planned : (m : MemCluster) (d : List ℕ) → (shown_of m).counts.nodes d + (shown_of m).counts.links ≤ node_fault_count (shown_of m).loaded.lines d + link_fault_count (shown_of m).loaded.lines
nodes_planned m d = node_faults-le m.faults (map line_of m.loaded.items) m.follows d

-- nor have the links
pub links_planned : (m : MemCluster) → (shown_of m).counts.links ≤ link_fault_count (shown_of m).loaded.lines
links_planned m = link_faults-le m.faults (map line_of m.loaded.items) m.follows
