-- Which calls on write links are counted, and which of them fail.
use Rattle.std.proofs.Common.{◌≡◌, ◌≢◌, ℕ, ℤ, ◌+◌, ◌^◌, ◌<◌, ◌≤◌, zero, suc, Bool, true, false, ◌&&◌, ◌||◌, not, eqb, List, [], ◌∷◌, length, get_or, map, take, drop, Option, Some, None, is_none, is_some, IsSome, IfSome, Result, Ok, Err, refl, sym, ◌∙◌, ap, subst, arith, add-one}
use Rattle.std.proofs.lemmas.Bool.{false≢true}
use Rattle.std.proofs.lemmas.Bool.Decides.{nat_tests}
use Rattle.std.proofs.lemmas.List.Sums.{sum_by-cons}
use Rattle.std.proofs.lemmas.Slice.Eq.{bytes_eq-Decides}
use Rattle.std.specs.Result.{IfOk, OnErr}
use Rattle.std.specs.Str.{bytes_eq}
use Rattle.hdfs_wire.specs.declared.ack.Ack.{Ack}
use Rattle.hdfs_wire.specs.declared.values.NoMemory.{NoMemory}
use Rattle.hdfs_wire.specs.Outgoing.{Outgoing}
use Rattle.hdfs_cluster.specs.declared.asks.LinkFault.{LinkFault}
use Rattle.hdfs_cluster.specs.declared.messages.Setup.{Setup}
use Rattle.hdfs_cluster.specs.declared.asks.LinkFault.TheVariants as link_faults
use Rattle.hdfs_cluster.specs.declared.picture.OpenWrite.{OpenWrite}
use Rattle.hdfs_cluster.specs.declared.store.Line.{Line}
use Rattle.hdfs_cluster.specs.declared.store.LinkKind.{LinkKind}
use Rattle.hdfs_cluster.specs.declared.store.LinkKind.TheVariants as kinds
use Rattle.hdfs_cluster.specs.Sending.{seqno_of, uuids}
use Rattle.hdfs_mem_faults.specs.declared.fault_plan.FaultPlan.{FaultPlan}
use Rattle.hdfs_mem_faults.specs.declared.node_plan.NodeCall.TheVariants as calls
use Rattle.hdfs_mem_faults.specs.Calls.{is_at_once, is_bad_ack, is_first, one_if}
use Rattle.hdfs_mem_faults.specs.Following.{Follows}
use Rattle.hdfs_mem_faults.specs.Plans.{Counts, Forgets, SamePlan, SetsUp, calls_of, fails_at, has_node, has_series, is_bad, link_faults_of, node_faults_of}
use Rattle.hdfs_mem_faults.specs.Series.{Series, SetUps, AsksOf, acks_of, kind_of, plans, sends_to}
use Rattle.hdfs_mem_faults.proofs.Following.{ack_follows, counts_follows, end_follows, next_kind_follows}
use Rattle.hdfs_mem_datanodes.specs.declared.datanodes.Datanodes.{Datanodes}
use Rattle.hdfs_mem_cluster.specs.declared.mem_cluster.MemCluster.{MemCluster}
use Rattle.hdfs_mem_cluster.specs.declared.write_link.MemWrite.{MemWrite}
use Rattle.hdfs_mem_cluster.specs.Counting.{AsksAck, AsksSend, AsksSetUp, CanCount, CountsNothing, first_of, has_failed_set_up}
use Rattle.hdfs_mem_cluster.specs.SettingUp.{blamed}
use Rattle.hdfs_mem_cluster.specs.Failures.{failure_of, is_broken, is_counted, planned_failure}
use Rattle.hdfs_mem_cluster.specs.Links.{write_at, write_told, AckedOn, ChangesWrite, SendsOn, among, first_uuid}
use Rattle.hdfs_mem_cluster.specs.Lines.{line_of}
use Rattle.hdfs_mem_datanodes.specs.Nodes.{SameNodes, node_at}
use Rattle.hdfs_mem_cluster.specs.Telling.{TellsAll, times}
use Rattle.hdfs_mem_cluster.specs.Writes.{told_of}
use Rattle.hdfs_mem_cluster.proofs.Acknowledging.{acked_falls, acked_links, acked_nodes, acked_replies, one_of, rest_due}
use Rattle.hdfs_mem_cluster.proofs.Counting.{NoneFalls, SameCalls, at_once, calls_node, calls_nothing, falls_counts, falls_same, nodes_stay, one_more}

-- what a packet that was sent counts, whether it broke or not
pub sends_counts : (link : ℕ) (packet : Outgoing) (broke : Bool) (nodes nodes' : Datanodes) (faults faults' : FaultPlan) (v w : MemWrite)
    → SendsOn link packet broke (among nodes faults v) (among nodes' faults' w) → Counts faults (sends_to (first_uuid v)) broke faults'
sends_counts link packet true nodes nodes' faults faults' v w h = h.1
sends_counts link packet false nodes nodes' faults faults' v w h = h.1

-- what a link that was sent on asks for
pub asks_send : (m m' : MemCluster) (link : ℕ) (packet : Outgoing) (broke : Bool) (result : Result (Unit {0}) LinkFault) (v w : MemWrite) → write_at m.links link ≡ Some v
    → SendsOn link packet broke (among m.nodes m.faults v) (among m'.nodes m'.faults w) → SameNodes m.nodes m'.nodes → is_counted result ≡ true → broke ≡ is_broken result
    → IfSome (write_told (write_at m.links link)) (λ write. AsksSend m write result m')
asks_send m m' link packet broke result v w was h rest counted is =
    subst (λ (o : Option OpenWrite). IfSome o (λ write. AsksSend m write result m')) (sym (ap write_told was))
    (calls_node m m' calls.Send (first_uuid v) (is_counted result) (is_broken result) rest
    (subst (λ (b : Bool). Counts m.faults (sends_to (first_uuid v)) b m'.faults) is (sends_counts link packet broke m.nodes m'.nodes m.faults m'.faults v w h)) counted)

-- the same where there was no memory
pub asks_no_send : (m m' : MemCluster) (link : ℕ) (o : Option OpenWrite) (result : Result (Unit {0}) LinkFault) → SameNodes m.nodes m'.nodes → m'.faults ≡ m.faults
    → is_counted result ≡ false → is_broken result ≡ false → IfSome o (λ write. AsksSend m write result m')
asks_no_send m m' link None result rest same uncounted good = tt
asks_no_send m m' link (Some write) result rest same uncounted good = calls_nothing m m' calls.Send (first_of write) (is_counted result) (is_broken result) rest same uncounted good

pub never_memory : (kind : Option LinkKind) → planned_failure kind ≡ Some link_faults.NoMemory → ⊥
never_memory None is = cc
never_memory (Some kinds.Broken) is = cc
never_memory (Some kinds.Refused) is = cc
never_memory (Some kinds.BadAck) is = cc

and_false : (a : Bool) → (a && false) ≡ false
and_false true = refl
and_false false = refl

or_false : (a : Bool) → (a || false) ≡ a
or_false true = refl
or_false false = refl

and_true : (a : Bool) → (a && true) ≡ a
and_true true = refl
and_true false = refl

same_link : (l : ℕ) → eqb l l ≡ true
same_link l = grind (arith, nat_tests)

other_link : (link l : ℕ) → l ≢ link → eqb link l ≡ false
other_link link l apart = grind (arith, nat_tests)

-- a link that was forgotten isn't bad, and the others are as before
forgotten : (b t u : Bool) → u ≡ (b && not t) → t ≡ true → u ≡ false
forgotten b t u is own = is ∙ ap (λ (x : Bool). b && not x) own ∙ and_false b

still_bad : (b t u : Bool) → u ≡ (b && not t) → t ≡ false → u ≡ b
still_bad b t u is own = is ∙ ap (λ (x : Bool). b && not x) own ∙ and_true b

-- the set-up of a pipeline was counted
module _ (m m' : MemCluster) (setup : Setup) (mid : FaultPlan) (link : ℕ) (kind : Option LinkKind) (rest : SameNodes m.nodes m'.nodes) (forgets : Forgets m.faults link mid) (sets : SetsUp mid link (blamed setup) kind m'.faults) where
  kind_is : calls_of m.faults SetUps + 1 < 2 ^ 64 → kind ≡ kind_of (map line_of m.loaded.items) (calls_of m.faults SetUps + 1)
  kind_is room =
      let loaded = map line_of m.loaded.items in
      let same = forgets.calls SetUps in
      sets.as_planned
      ∙ next_kind_follows mid loaded (end_follows m.faults mid loaded link forgets m.follows) (omega (arith, same, room))
      ∙ ap (λ (n : ℕ). kind_of loaded (n + 1)) same

  own_bad : is_bad m'.faults link ≡ is_bad_ack kind
  own_bad =
      sets.bad link ∙ ap (λ (t : Bool). is_bad mid link || (is_bad_ack kind && t)) (same_link link) ∙ ap (λ (t : Bool). is_bad mid link || t) (and_true (is_bad_ack kind))
      ∙ ap (λ (t : Bool). t || is_bad_ack kind) (forgotten (is_bad m.faults link) (eqb link link) (is_bad mid link) (forgets.left link) (same_link link))

  other_bad : (l : ℕ) → l ≢ link → is_bad m'.faults l ≡ is_bad m.faults l
  other_bad l apart =
      sets.bad l ∙ ap (λ (t : Bool). is_bad mid l || (is_bad_ack kind && t)) (other_link link l apart) ∙ ap (λ (t : Bool). is_bad mid l || t) (and_false (is_bad_ack kind)) ∙ or_false (is_bad mid l)
      ∙ still_bad (is_bad m.faults l) (eqb link l) (is_bad mid l) (forgets.left l) (other_link link l apart)

  opened_bad : (result : Result ℕ LinkFault) → IfOk result (λ l. l ≡ link) → IfOk result (λ l. CanCount m SetUps → is_bad m'.faults l ≡ is_bad_ack (kind_of (map line_of m.loaded.items) (calls_of m.faults SetUps + 1)))
  opened_bad (Ok l) is = λ can. ap (is_bad m'.faults) is ∙ own_bad ∙ ap is_bad_ack (kind_is can.room)
  opened_bad (Err fault) is = tt

  failed_at_once : (result : Result ℕ LinkFault) → is_counted result ≡ true → failure_of result ≡ planned_failure kind → has_failed_set_up result ≡ is_at_once kind
  failed_at_once result counted fails = ap (λ (b : Bool). b && is_some (failure_of result)) counted ∙ ap is_some fails ∙ at_once kind

  pub asks_set_up : (result : Result ℕ LinkFault) → is_counted result ≡ true → failure_of result ≡ planned_failure kind → IfOk result (λ l. l ≡ link) → write_told (write_at m.links link) ≡ None → AsksSetUp m setup result m'
  asks_set_up result counted fails opened vacant = record {
    call = record {
      own = λ can.
          (let one : one_if (is_counted result) ≡ 1 = ap one_if counted in
          let same = forgets.calls SetUps in
          let more = one_more (calls_of mid SetUps) (calls_of m'.faults SetUps) (sets.call.own refl) (omega (arith, can.room, same)) in
          omega (arith, more, same, one));
      others = λ s apart. sets.call.others s apart ∙ forgets.calls s;
      there = nodes_stay m m' rest (λ d. sets.call.plans.there d ∙ forgets.plans.there d);
    };
    exact = λ can sure. fails ∙ ap planned_failure (kind_is can.room);
    bad = opened_bad result opened;
    others = λ l shown. other_bad l (λ same. false≢true (sym (ap is_some (ap (λ (k : ℕ). write_told (write_at m.links k)) same ∙ vacant)) ∙ shown));
    links = sets.faults ∙ ap (λ (n : ℕ). n + one_if (is_at_once kind && is_none (blamed setup))) forgets.faults
        ∙ ap (λ (b : Bool). link_faults_of m.faults + one_if (b && is_none (blamed setup))) (sym (failed_at_once result counted fails));
    nodes = λ d. sets.nodes d ∙ ap (λ (n : ℕ). n + one_if (is_at_once kind && is_first (blamed setup) d)) (forgets.nodes d)
        ∙ ap (λ (b : Bool). node_faults_of m.faults d + one_if (b && is_first (blamed setup) d)) (sym (failed_at_once result counted fails));
  }

-- it was not, for want of memory
pub asks_no_set_up : (m m' : MemCluster) (setup : Setup) → SameNodes m.nodes m'.nodes → ((s : Series) → calls_of m'.faults s ≡ calls_of m.faults s) → ((d : List ℕ) → has_node m'.faults d ≡ has_node m.faults d)
    → ((l : ℕ) → IsSome (write_told (write_at m.links l)) → is_bad m'.faults l ≡ is_bad m.faults l) → link_faults_of m'.faults ≡ link_faults_of m.faults → ((d : List ℕ) → node_faults_of m'.faults d ≡ node_faults_of m.faults d)
    → AsksSetUp m setup (Err link_faults.NoMemory) m'
asks_no_set_up m m' setup rest calls there bad links nodes = record {
  call = record { own = λ can. omega (arith, calls SetUps); others = λ s apart. calls s; there = nodes_stay m m' rest there };
  exact = λ can counted. absurd (false≢true counted);
  bad = tt;
  others = bad;
  links = omega (arith, links);
  nodes = λ d. omega (arith, nodes d);
}

-- nor where memory was wanted once the link was forgotten
pub asks_forgotten : (m m' : MemCluster) (setup : Setup) (mid : FaultPlan) (link : ℕ) → SameNodes m.nodes m'.nodes → Forgets m.faults link mid → SamePlan mid m'.faults → write_told (write_at m.links link) ≡ None → AsksSetUp m setup (Err link_faults.NoMemory) m'
asks_forgotten m m' setup mid link rest forgets same vacant =
    asks_no_set_up m m' setup rest (λ s. same.calls s ∙ forgets.calls s) (λ d. same.plans.there d ∙ forgets.plans.there d)
    (λ l shown. same.links.bad l ∙ still_bad (is_bad m.faults l) (eqb link l) (is_bad mid l) (forgets.left l)
    (other_link link l (λ equal. false≢true (sym (ap is_some (ap (λ (k : ℕ). write_told (write_at m.links k)) equal ∙ vacant)) ∙ shown))))
    (same.links.faults ∙ forgets.faults) (λ d. same.nodes d ∙ forgets.nodes d)

-- among the first so many datanodes is the last of them
times_some : (d : List ℕ) (uuids : List (List ℕ)) (i : ℕ) → i < length uuids → get_or uuids i [] ≡ d → 1 ≤ times d (take (suc i) uuids)
times_some d [] i within is = absurd (omega (arith, within))
times_some d (u ∷ uuids) zero within is =
    let own : one_if (bytes_eq d u) ≡ 1 = ap one_if ((bytes_eq-Decides d u).1 (sym is)) in
    omega (arith, own, sum_by-cons (λ x. one_if (bytes_eq d x)) u (take zero uuids))
times_some d (u ∷ uuids) (suc i) within is =
    omega (arith, times_some d uuids i (omega (arith, within)) is, sum_by-cons (λ x. one_if (bytes_eq d x)) u (take (suc i) uuids))

alike : (a b : Bool) → (a ≡ true → b ≡ true) → (b ≡ true → a ≡ true) → a ≡ b
alike true b to from = sym (to refl)
alike false true to from = from refl
alike false false to from = refl

-- an acknowledgement of a link was counted
module _ (m m' : MemCluster) (link : ℕ) (ack : Ack) (v w : MemWrite) (h : AckedOn link ack m.faults m'.faults v w) (rest : SameNodes m.nodes m'.nodes) (due : v.acknowledged < length v.sent.items) where
  abbrev all_lines : List Line
  all_lines = map line_of m.loaded.items

  as_lines : (s : Series) (n : ℕ) → has_series m.faults s ≡ true → calls_of m.faults s < n → fails_at m.faults s n ≡ plans all_lines s n
  as_lines s n there later = alike (fails_at m.faults s n) (plans all_lines s n) (m.follows.planned s n) (m.follows.acts s n there later)

  is_bad_as : h.bad ≡ is_bad m.faults link
  is_bad_as = h.takes.was ∙ h.links.bad link

  told : TellsAll (plans all_lines) m.faults (uuids v.setup.locs) ack.replies m'.faults
  told = record {
    len = h.tells.len;
    calls = λ d there room. h.takes.calls (acks_of d) ∙ h.tells.calls d there room;
    exact = λ i d within is there room.
        (let some = times_some d (uuids v.setup.locs) i within is in
        let n = calls_of m.faults (acks_of d) + times d (take (i + 1) (uuids v.setup.locs)) in
        let next : i + 1 ≡ suc i = add-one i in
        let later : calls_of m.faults (acks_of d) < n = omega (arith, some, ap (λ (k : ℕ). times d (take k (uuids v.setup.locs))) next) in
        h.tells.exact i d within is there room ∙ ap one_if (as_lines (acks_of d) n there later));
    others = λ s apart. h.takes.calls s ∙ h.tells.others s apart;
    nodes = acked_nodes link ack m.faults m'.faults v w h;
    asks = λ i. h.takes.asks i ∙ h.tells.asks i;
    there = λ d. h.takes.plans.there d ∙ h.tells.there d;
  }

  abbrev d : Outgoing
  d = one_of v.sent.items (omega arith)

  waiting : map seqno_of (drop v.acknowledged v.sent.items) ≡ seqno_of (get_or v.sent.items v.acknowledged d) ∷ map seqno_of (drop (v.acknowledged + 1) v.sent.items)
  waiting = ap (map seqno_of) (rest_due v.sent.items v.acknowledged d due)

  pub asks_ack : AsksAck m link (told_of v) ack m'
  asks_ack = record {
    tells = told;
    good = λ good.
        (let taken = h.seqno.taken (is_bad_as ∙ good) in
        (map seqno_of (drop (v.acknowledged + 1) v.sent.items), waiting ∙ ap (λ (n : ℤ). n ∷ map seqno_of (drop (v.acknowledged + 1) v.sent.items)) (sym (taken.0 d)), acked_replies link ack m.faults m'.faults v w h));
    bad = λ bad first others is same.
        (let left = h.seqno.left (is_bad_as ∙ bad) in
        let both : seqno_of (get_or v.sent.items v.acknowledged d) ∷ map seqno_of (drop (v.acknowledged + 1) v.sent.items) ≡ first ∷ others = sym waiting ∙ is in
        let one : seqno_of (get_or v.sent.items v.acknowledged d) ≡ first = cc in
        left.0 d (same ∙ sym one));
    left = λ l. h.takes.left l ∙ ap (λ (b : Bool). b && not (eqb link l)) (h.links.bad l);
    links = acked_links link ack m.faults m'.faults v w h ∙ ap (λ (b : Bool). link_faults_of m.faults + one_if b) is_bad_as;
    there = nodes_stay m m' rest (λ d. h.takes.plans.there d ∙ h.tells.there d);
  }

-- the same of what is told of the link
pub asks_ack_on : (m m' : MemCluster) (link : ℕ) (ack : Ack) (v w : MemWrite) → write_at m.links link ≡ Some v → AckedOn link ack m.faults m'.faults v w → SameNodes m.nodes m'.nodes
    → v.acknowledged < length v.sent.items → IfSome (write_told (write_at m.links link)) (λ write. AsksAck m link write ack m')
asks_ack_on m m' link ack v w was h rest due =
    subst (λ (o : Option OpenWrite). IfSome o (λ write. AsksAck m link write ack m')) (sym (ap write_told was)) (asks_ack m m' link ack v w h rest due)

-- a link was ended
pub counts_end : (m m' : MemCluster) (link : ℕ) → Forgets m.faults link m'.faults → ChangesWrite m.links m'.links link None → m'.nodes ≡ m.nodes → SameCalls m m' → CountsNothing m m'
counts_end m m' link forgets updates same asked = record {
  counts = record { asks = λ i. forgets.calls (AsksOf i); calls = asked; links = forgets.faults; nodes = forgets.nodes };
  calls = forgets.calls;
  bad = λ l shown. still_bad (is_bad m.faults l) (eqb link l) (is_bad m'.faults l) (forgets.left l)
      (other_link link l (λ equal. false≢true (sym (ap is_some (ap (λ (k : ℕ). write_told (write_at m'.links k)) equal ∙ ap write_told updates.changed)) ∙ shown)));
  there = λ d has. record { there = ap (λ (ns : Datanodes). is_some (node_at ns d)) same ∙ has.there; counted = forgets.plans.there d ∙ has.counted };
}

-- a plan goes on following where a packet was sent
pub sends_follow_on : (P : Type 0) (link : ℕ) (packet : Outgoing) (result : Result Bool NoMemory) (nodes nodes' : Datanodes) (faults faults' : FaultPlan) (loaded : List Line) (v w : MemWrite)
    → IfOk result (λ broke. SendsOn link packet broke (among nodes faults v) (among nodes' faults' w)) → OnErr result (P × (faults' ≡ faults)) → Follows faults loaded → Follows faults' loaded
sends_follow_on P link packet (Ok broke) nodes nodes' faults faults' loaded v w ok err was =
    counts_follows faults faults' loaded (sends_to (first_uuid v)) broke (sends_counts link packet broke nodes nodes' faults faults' v w ok) was
sends_follow_on P link packet (Err e) nodes nodes' faults faults' loaded v w ok err was = subst (λ (p : FaultPlan). Follows p loaded) (sym err.1) was

-- and where an acknowledgement came
pub acks_follow_on : (P : Type 0) (link : ℕ) (result : Result Ack NoMemory) (faults faults' : FaultPlan) (loaded : List Line) (v w : MemWrite)
    → IfOk result (λ ack. AckedOn link ack faults faults' v w) → OnErr result (P × (faults' ≡ faults)) → Follows faults loaded → Follows faults' loaded
acks_follow_on P link (Ok ack) faults faults' loaded v w ok err was = ack_follows ok.told faults' loaded link ok.bad ok.takes (ok.goes_on loaded was)
acks_follow_on P link (Err e) faults faults' loaded v w ok err was = subst (λ (p : FaultPlan). Follows p loaded) (sym err.1) was

-- no count falls where a packet was sent
pub sends_fall : (P : Type 0) (link : ℕ) (packet : Outgoing) (result : Result Bool NoMemory) (nodes nodes' : Datanodes) (faults faults' : FaultPlan) (v w : MemWrite)
    → IfOk result (λ broke. SendsOn link packet broke (among nodes faults v) (among nodes' faults' w)) → OnErr result (P × (faults' ≡ faults)) → NoneFalls faults faults'
sends_fall P link packet (Ok broke) nodes nodes' faults faults' v w ok err = falls_counts faults faults' (sends_to (first_uuid v)) broke (sends_counts link packet broke nodes nodes' faults faults' v w ok)
sends_fall P link packet (Err e) nodes nodes' faults faults' v w ok err = falls_same faults faults' err.1

-- nor where an acknowledgement came
pub acks_fall : (P : Type 0) (link : ℕ) (result : Result Ack NoMemory) (faults faults' : FaultPlan) (v w : MemWrite)
    → IfOk result (λ ack. AckedOn link ack faults faults' v w) → OnErr result (P × (faults' ≡ faults)) → NoneFalls faults faults'
acks_fall P link (Ok ack) faults faults' v w ok err = acked_falls link ack faults faults' v w ok
acks_fall P link (Err e) faults faults' v w ok err = falls_same faults faults' err.1
