-- What a fault of a datanode plans.
use Rattle.std.proofs.Common.{◌≡◌, ◌≢◌, ℕ, ◌+◌, Bool, true, false, nat_lt, ◌&&◌, ◌||◌, eqb, cond, List, Option, Some, None, is_some, refl, sym, ◌∙◌, ap, subst}
use Rattle.std.specs.Option.{option_or}
use Rattle.std.specs.Str.{bytes_eq}
use Rattle.std.proofs.lemmas.Slice.Eq.{bytes_eq-Decides}
use Rattle.hdfs_cluster.specs.declared.store.FaultLine.{FaultLine}
use Rattle.hdfs_cluster.specs.declared.store.FaultLine.TheVariants as faults
use Rattle.hdfs_cluster.specs.declared.store.ReadKind.{ReadKind}
use Rattle.hdfs_cluster.specs.declared.store.ReadKind.TheVariants as read_kinds
use Rattle.hdfs_mem_faults.specs.declared.fault_plan.FaultPlan.{FaultPlan}
use Rattle.hdfs_mem_faults.specs.declared.node_plan.NodeCall.{NodeCall}
use Rattle.hdfs_mem_faults.specs.declared.node_plan.NodeCall.TheVariants as calls
use Rattle.hdfs_mem_faults.specs.declared.node_plan.NodeFault.{NodeFault}
use Rattle.hdfs_mem_faults.specs.declared.node_plan.NodeFault.TheVariants as node_faults
use Rattle.hdfs_mem_faults.specs.declared.node_plan.NodePlan.{NodePlan}
use Rattle.hdfs_mem_faults.specs.declared.nodes.Nodes.{Nodes}
use Rattle.hdfs_mem_faults.specs.Linking.{firsts_in}
use Rattle.hdfs_mem_faults.specs.NodePlans.{PlansCall, call_of, calls_in, failed_in, may_come_in, node_at, packet_fault, packet_kind_at, planned_in, read_fault}
use Rattle.hdfs_mem_faults.specs.Plans.{PlansFault, ask_kind, calls_of, fails_at, has_series, kind_at, may_come, packet_kind}
use Rattle.hdfs_mem_faults.specs.Series.{Series, SetUps, AsksOf, CallsOf, ask_kind_in, kind_in, nth_of, packet_kind_in, reads_failing, reads_of, same_call, same_series, series_of, uuid_of}

-- ---- what was planned, and what a fault adds

-- a fault of no such series plans nothing
pub or_nothing : (b t v : Bool) → b ≡ (b || (t && (false && v)))
or_nothing true t v = refl
or_nothing false true v = refl
or_nothing false false v = refl

-- nor does one of another datanode
or_other : (b t u v : Bool) → b ≡ (b || (t && ((u && false) && v)))
or_other true t u v = refl
or_other false true true v = refl
or_other false true false v = refl
or_other false false u v = refl

-- a fault of this datanode plans its call
or_same : (b t u v : Bool) → (b || (t && (u && v))) ≡ (b || (t && ((u && true) && v)))
or_same b t true v = refl
or_same b t false v = refl

-- nothing behind it changes what is there
pub none_after : {X : Type 0} (o : Option X) → o ≡ option_or o None
none_after None = refl
none_after (Some kind) = refl

-- a fault of a datanode says of no set-up how it fails
pub or_none : {X : Type 0} (o p : Option X) (b : Bool) → p ≡ None → o ≡ option_or o (cond b p None)
or_none o p true is = none_after o ∙ ap (option_or o) (sym is)
or_none o p false is = none_after o

-- a fault of another datanode says of no packet how it fails
packet_other : {X : Type 0} (o p : Option X) (t u v : Bool) → o ≡ option_or o (cond t (cond ((u && false) && v) p None) None)
packet_other o p true true v = none_after o
packet_other o p true false v = none_after o
packet_other o p false u v = none_after o

-- nor does one of another series of this datanode
packet_none : {X : Type 0} (o : Option X) (t v : Bool) → o ≡ None → cond (t && v) o None ≡ cond t (cond ((false && true) && v) o None) None
packet_none o true true is = is
packet_none o true false is = refl
packet_none o false v is = refl

-- one of its packets does
packet_same : (fault : NodeFault) (t v : Bool) → cond (t && v) (packet_fault fault) None ≡ cond t (cond ((same_call (call_of fault) calls.Read && true) && v) (packet_fault fault) None) None
packet_same node_faults.Ack t v = packet_none None t v refl
packet_same node_faults.Send t v = packet_none None t v refl
packet_same node_faults.Open t v = packet_none None t v refl
packet_same (node_faults.Read kind) true v = refl
packet_same (node_faults.Read kind) false v = refl

module _ (old : FaultPlan) (nodes : Nodes) (failing : NodeFault) (uuid : List ℕ) (nth : ℕ) (here : PlansCall (node_at old.nodes uuid) failing nth (node_at nodes uuid)) (others : (d : List ℕ) → d ≢ uuid → node_at nodes d ≡ node_at old.nodes d) where
  -- the call
  abbrev call : NodeCall
  call = call_of failing

  -- the fault may still come
  abbrev comes : Bool
  comes = may_come_in (node_at old.nodes uuid) call nth

  -- what holds of this datanode, and of each other one, holds of each
  by_node : (P : Bool → List ℕ → Type 0) → P true uuid → ((d : List ℕ) → node_at nodes d ≡ node_at old.nodes d → P false d) → (d : List ℕ) → P (bytes_eq uuid d) d
  by_node P this other d = by_test (bytes_eq uuid d) refl
    where
      by_test : (t : Bool) → bytes_eq uuid d ≡ t → P t d
      by_test true is = subst (P true) ((bytes_eq-Decides uuid d).0 is) this
      by_test false is =
          let apart : d ≢ uuid = λ same. (let yes = (bytes_eq-Decides uuid d).1 (sym same) in absurd (cc)) in
          other d (others d apart)

  -- what is planned of each datanode
  planned_at : (c : NodeCall) (k : ℕ) (d : List ℕ) → planned_in (node_at nodes d) c k ≡ (planned_in (node_at old.nodes d) c k || (comes && ((same_call call c && bytes_eq uuid d) && eqb nth k)))
  planned_at c k = by_node (λ t d. planned_in (node_at nodes d) c k ≡ (planned_in (node_at old.nodes d) c k || (comes && ((same_call call c && t) && eqb nth k))))
      (here.planned c k ∙ or_same (planned_in (node_at old.nodes uuid) c k) comes (same_call call c) (eqb nth k))
      (λ d same. ap (λ (o : Option NodePlan). planned_in o c k) same ∙ or_other (planned_in (node_at old.nodes d) c k) comes (same_call call c) (eqb nth k))

  -- how the fault makes this packet of a datanode fail, if it does
  abbrev packet : List ℕ → ℕ → Option ReadKind
  packet d k = cond (same_series (CallsOf call uuid) (reads_of d) && eqb nth k) (packet_fault failing) None

  -- how the packets of each datanode are planned to fail
  packets_at : (k : ℕ) (d : List ℕ) → packet_kind_at (node_at nodes d) k ≡ option_or (packet_kind_at (node_at old.nodes d) k) (cond comes (packet d k) None)
  packets_at k = by_node (λ t d. packet_kind_at (node_at nodes d) k ≡ option_or (packet_kind_at (node_at old.nodes d) k) (cond comes (cond ((same_call call calls.Read && t) && eqb nth k) (packet_fault failing) None) None))
      (here.packets k ∙ ap (option_or (packet_kind_at (node_at old.nodes uuid) k)) (packet_same failing comes (eqb nth k)))
      (λ d same. ap (λ (o : Option NodePlan). packet_kind_at o k) same ∙ packet_other (packet_kind_at (node_at old.nodes d) k) (packet_fault failing) comes (same_call call calls.Read) (eqb nth k))

  -- what holds of the datanode, and of each other one and itself, holds of each
  each_node : (R : Option NodePlan → Option NodePlan → Type 0) → ((o : Option NodePlan) → R o o) → R (node_at old.nodes uuid) (node_at nodes uuid) → (d : List ℕ) → R (node_at old.nodes d) (node_at nodes d)
  each_node R same at = by_node (λ t d. R (node_at old.nodes d) (node_at nodes d)) at (λ d is. subst (R (node_at old.nodes d)) (sym is) (same (node_at old.nodes d)))

  -- the plan after that
  abbrev new : FaultPlan
  new = record { nodes = nodes; links = old.links; asks = old.asks }

  -- exactly the call of the fault is planned, where it may still come
  fails_after : (s : Series) (k : ℕ) → fails_at new s k ≡ (fails_at old s k || (comes && (same_series (CallsOf call uuid) s && eqb nth k)))
  fails_after SetUps k = or_nothing (is_some (kind_at old k)) comes (eqb nth k)
  fails_after (AsksOf i) k = or_nothing (is_some (ask_kind old i k)) comes (eqb nth k)
  fails_after (CallsOf c d) k = planned_at c k d

  -- no call was counted
  calls_after : (s : Series) → calls_of new s ≡ calls_of old s
  calls_after SetUps = refl
  calls_after (AsksOf i) = refl
  calls_after (CallsOf c d) = each_node (λ o p. calls_in p c ≡ calls_in o c) (λ o. refl) (here.calls c) d

  module _ (fault : FaultLine) (series : series_of fault ≡ CallsOf call uuid) (number : nth_of fault ≡ nth) where
    -- the fault may still come
    may_come-is : may_come old fault ≡ comes
    may_come-is = ap (λ (t : Series). has_series old t && nat_lt (calls_of old t) (nth_of fault)) series ∙ ap (λ (n : ℕ). has_series old (CallsOf call uuid) && nat_lt (calls_of old (CallsOf call uuid)) n) number

    -- a fault of a datanode was planned
    pub plans_node : ((k : ℕ) → kind_in k fault ≡ None) → ((i k : ℕ) → ask_kind_in i k fault ≡ None) → ((d : List ℕ) (k : ℕ) → packet_kind_in d k fault ≡ packet d k) → PlansFault old fault new
    plans_node none unasked says = record {
      fails = λ s k.
          fails_after s k
          ∙ ap (λ (b : Bool). fails_at old s k || (b && (same_series (CallsOf call uuid) s && eqb nth k))) (sym may_come-is)
          ∙ ap (λ (t : Series). fails_at old s k || (may_come old fault && (same_series t s && eqb nth k))) (sym series)
          ∙ ap (λ (n : ℕ). fails_at old s k || (may_come old fault && (same_series (series_of fault) s && eqb n k))) (sym number);
      kinds = λ k. or_none (kind_at old k) (kind_in k fault) (may_come old fault) (none k);
      packets = λ d k.
          packets_at k d
          ∙ ap (λ (b : Bool). option_or (packet_kind old d k) (cond b (packet d k) None)) (sym may_come-is)
          ∙ ap (λ (o : Option ReadKind). option_or (packet_kind old d k) (cond (may_come old fault) o None)) (sym (says d k));
      ask_kinds = λ i k. or_none (ask_kind old i k) (ask_kind_in i k fault) (may_come old fault) (unasked i k);
      there = each_node (λ o p. is_some p ≡ is_some o) (λ o. refl) here.there;
      calls = calls_after;
      nodes = λ d. ap (λ (n : ℕ). n + firsts_in old.links d) (each_node (λ o p. failed_in p ≡ failed_in o) (λ o. refl) here.failed d);
      asks = λ i. refl;
      links = record { faults = refl; bad = λ link. refl };
    }

-- ---- faults of reads

-- reads that fail so are of the series of that fault
pub reads_series : (kind : ReadKind) (uuid : List ℕ) → reads_failing kind uuid ≡ CallsOf (call_of (read_fault kind)) uuid
reads_series read_kinds.Broken uuid = refl
reads_series read_kinds.Damaged uuid = refl
reads_series read_kinds.Gap uuid = refl
reads_series read_kinds.Refused uuid = refl

-- and it makes packets fail as the line of it says
pub reads_say : (kind : ReadKind) (node n : ℕ) (d : List ℕ) (k : ℕ) → packet_kind_in d k (faults.ReadOf node n kind) ≡ cond (same_series (CallsOf (call_of (read_fault kind)) (uuid_of node)) (reads_of d) && eqb n k) (packet_fault (read_fault kind)) None
reads_say read_kinds.Broken node n d k = refl
reads_say read_kinds.Damaged node n d k = refl
reads_say read_kinds.Gap node n d k = refl
reads_say read_kinds.Refused node n d k = refl

-- and no ask
pub reads_unasked : (kind : ReadKind) (node n i k : ℕ) → ask_kind_in i k (faults.ReadOf node n kind) ≡ None
reads_unasked read_kinds.Broken node n i k = refl
reads_unasked read_kinds.Damaged node n i k = refl
reads_unasked read_kinds.Gap node n i k = refl
reads_unasked read_kinds.Refused node n i k = refl
