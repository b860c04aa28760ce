-- What a plan that follows lines keeps, and how often its objects can have failed.
use Rattle.std.proofs.Common.{◌≡◌, ⊎_elim, ℕ, ◌+◌, ◌^◌, ◌<◌, ◌≤◌, Bool, true, false, nat_lt, ◌&&◌, ◌||◌, eqb, cond, List, [], ◌∷◌, ◌++◌, Option, Some, None, is_some, refl, sym, ◌∙◌, ap, subst, arith}
use Rattle.std.specs.Option.{option_or}
use Rattle.std.proofs.lemmas.Bool.{or_cases}
use Rattle.std.proofs.lemmas.Bool.Decides.{nat_tests}
use Rattle.hdfs_cluster.specs.declared.store.AskKind.{AskKind}
use Rattle.hdfs_cluster.specs.declared.store.Line.{Line}
use Rattle.hdfs_cluster.specs.declared.store.Line.TheVariants as lines
use Rattle.hdfs_cluster.specs.declared.store.FaultLine.{FaultLine}
use Rattle.hdfs_cluster.specs.declared.store.FaultLine.TheVariants as faults
use Rattle.hdfs_cluster.specs.declared.store.LinkKind.{LinkKind}
use Rattle.hdfs_cluster.specs.declared.store.ReadKind.{ReadKind}
use Rattle.hdfs_mem_faults.specs.declared.fault_plan.FaultPlan.{FaultPlan}
use Rattle.hdfs_mem_faults.specs.declared.node_plan.NodeCall.TheVariants as calls
use Rattle.hdfs_mem_faults.specs.declared.node_plan.NodePlan.{NodePlan}
use Rattle.hdfs_mem_faults.specs.Calls.{next_fails, next_kind}
use Rattle.hdfs_mem_faults.specs.Following.{Follows}
use Rattle.hdfs_mem_faults.specs.Plans.{AddsNodes, Counts, CountsAsk, CountsOne, CountsTransfer, Forgets, IsNew, PlansFault, SameCalls, SamePlan, SamePlans, SetsUp, TakesAck, ask_kind, calls_of, fails_at, has_series, has_node, kind_at, may_come, packet_kind}
use Rattle.hdfs_mem_faults.specs.NodePlans.{node_at, packet_kind_at, planned_in}
use Rattle.hdfs_mem_faults.specs.Series.{Series, SetUps, AsksOf, CallsOf, ask_kind_in, ask_kind_of, is_fault_at, is_fault, kind_in, kind_of, nth_of, of_fault, packet_kind_in, packet_kind_of, plans, reads_of, said_ask, said_kind, same_series, series_of}
use Rattle.hdfs_mem_faults.proofs.Lines.{ask_push, both, kind_push, none_is, nothing_of, packet_push, plans_ask, plans_kind, plans_packet, plans_push, same_series-is, series_cases, together}

-- ---- plans that follow lines

-- nothing is not something
none_some : {P X : Type 0} (x : X) → None ≡ Some x → P
none_some x is = none_is (sym (ap is_some is))

-- a new plan follows no lines
pub new_follows : (plan : FaultPlan) → IsNew plan → Follows plan []
new_follows plan new = record {
  planned = λ s nth is. none_is (sym is ∙ new.fails s nth);
  kinds = λ nth kind is. none_some kind (sym (new.kinds nth) ∙ is);
  packets = λ d nth kind is. none_some kind (sym (new.packets d nth) ∙ is);
  asks = λ i nth kind is. none_some kind (sym (new.ask_kinds i nth) ∙ is);
  acts = λ s nth there later is. none_is (sym is);
}

-- before the first line datanodes may come
pub added_follows : (old new : FaultPlan) → AddsNodes old new → Follows old [] → Follows new []
added_follows old new added was = record {
  planned = λ s nth is. was.planned s nth (sym (added.fails s nth) ∙ is);
  kinds = λ nth kind is. was.kinds nth kind (sym (added.kinds nth) ∙ is);
  packets = λ d nth kind is. was.packets d nth kind (sym (added.packets d nth) ∙ is);
  asks = λ i nth kind is. was.asks i nth kind (sym (added.ask_kinds i nth) ∙ is);
  acts = λ s nth there later is. none_is (sym is);
}

-- no call was counted, and no plan changed
abbrev Holds : FaultPlan → FaultPlan → Type 0
Holds old new = SamePlans old new × ((s : Series) → calls_of old s ≤ calls_of new s)

-- where the same datanodes are there, the same series are
series_there : (old new : FaultPlan) → ((d : List ℕ) → has_node new d ≡ has_node old d) → (s : Series) → has_series new s ≡ has_series old s
series_there old new there SetUps = refl
series_there old new there (AsksOf i) = refl
series_there old new there (CallsOf call d) = there d

-- where the same is planned and no count falls, a plan goes on following
kept_follows : (old new : FaultPlan) (loaded : List Line) → Holds old new → Follows old loaded → Follows new loaded
kept_follows old new loaded holds was = record {
  planned = λ s nth is. was.planned s nth (sym (holds.0.fails s nth) ∙ is);
  kinds = λ nth kind is. was.kinds nth kind (sym (holds.0.kinds nth) ∙ is);
  packets = λ d nth kind is. was.packets d nth kind (sym (holds.0.packets d nth) ∙ is);
  asks = λ i nth kind is. was.asks i nth kind (sym (holds.0.asks i nth) ∙ is);
  acts = λ s nth there later is.
      (let le : calls_of old s ≤ calls_of new s = holds.1 s in
      holds.0.fails s nth ∙ was.acts s nth (sym (series_there old new holds.0.there s) ∙ there) (omega (arith, le, later)) is);
}

-- where no call was counted, no count has fallen
same_calls_le : (old new : FaultPlan) → SameCalls old new → (s : Series) → calls_of old s ≤ calls_of new s
same_calls_le old new same s = omega (arith, same s)

-- nor where one call was
one_call_le : (old new : FaultPlan) (series : Series) → CountsOne old series new → (s : Series) → calls_of old s ≤ calls_of new s
one_call_le old new series one s = ⊎_elim
    (λ same. subst (λ (t : Series). calls_of old t ≤ calls_of new t) (sym same) one.grows)
    (λ apart. omega (arith, one.others s apart))
    (series_cases s series)

-- a plan of which nothing changed goes on following
pub same_follows : (old new : FaultPlan) (loaded : List Line) → SamePlan old new → Follows old loaded → Follows new loaded
same_follows old new loaded same = kept_follows old new loaded (same.plans, same_calls_le old new same.calls)

-- so does one that counted a call of a datanode
pub counts_follows : (old new : FaultPlan) (loaded : List Line) (series : Series) (fails : Bool) → Counts old series fails new → Follows old loaded → Follows new loaded
counts_follows old new loaded series fails counts = kept_follows old new loaded (counts.call.plans, one_call_le old new series counts.call)

-- an ask of a namenode
pub ask_follows : (old new : FaultPlan) (loaded : List Line) (i : ℕ) (fails : Bool) → CountsAsk old i fails new → Follows old loaded → Follows new loaded
ask_follows old new loaded i fails counts = kept_follows old new loaded (counts.call.plans, one_call_le old new (AsksOf i) counts.call)

-- a set-up of a pipeline
pub set_up_follows : (old new : FaultPlan) (loaded : List Line) (link : ℕ) (first : Option (List ℕ)) (kind : Option LinkKind) → SetsUp old link first kind new → Follows old loaded → Follows new loaded
set_up_follows old new loaded link first kind sets = kept_follows old new loaded (sets.call.plans, one_call_le old new SetUps sets.call)

-- a transfer
pub transfer_follows : (old new : FaultPlan) (loaded : List Line) (kind : Option LinkKind) → CountsTransfer old kind new → Follows old loaded → Follows new loaded
transfer_follows old new loaded kind counts = kept_follows old new loaded (counts.call.plans, one_call_le old new SetUps counts.call)

-- an acknowledgement of a link
pub ack_follows : (old new : FaultPlan) (loaded : List Line) (link : ℕ) (bad : Bool) → TakesAck old link bad new → Follows old loaded → Follows new loaded
ack_follows old new loaded link bad takes = kept_follows old new loaded (takes.plans, same_calls_le old new takes.calls)

-- or forgot a link
pub end_follows : (old new : FaultPlan) (loaded : List Line) (link : ℕ) → Forgets old link new → Follows old loaded → Follows new loaded
end_follows old new loaded link forgets = kept_follows old new loaded (forgets.plans, same_calls_le old new forgets.calls)

-- ---- one more line

-- one of two tests is true where the first is
or_left : (a b : Bool) → a ≡ true → (a || b) ≡ true
or_left a b is = ap (λ (c : Bool). c || b) is

-- or the second
or_right : (a b : Bool) → b ≡ true → (a || b) ≡ true
or_right true b is = refl
or_right false b is = is

-- where the second is false the first is true
or_no : (a b : Bool) → b ≡ false → (a || (b || false)) ≡ true → a ≡ true
or_no true b none is = refl
or_no false true none is = none_is none
or_no false false none is = is

-- a false test at the end counts for nothing
false_after : (b : Bool) → (b || false) ≡ true → b ≡ true
false_after true is = refl
false_after false is = is

-- a line that is no fault may be added
pub other_follows : (plan : FaultPlan) (loaded : List Line) (line : Line) → is_fault line ≡ false → Follows plan loaded → Follows plan (loaded ++ line ∷ [])
other_follows plan loaded line other was = record {
  planned = λ s nth is. plans_push loaded line s nth ∙ or_left (plans loaded s nth) (of_fault (is_fault_at s nth) line || false) (was.planned s nth is);
  kinds = λ nth kind is. kind_push loaded (line ∷ []) nth ∙ ap (λ (o : Option LinkKind). option_or o (kind_of (line ∷ []) nth)) (was.kinds nth kind is);
  packets = λ d nth kind is. packet_push loaded (line ∷ []) d nth ∙ ap (λ (o : Option ReadKind). option_or o (packet_kind_of (line ∷ []) d nth)) (was.packets d nth kind is);
  asks = λ i nth kind is. ask_push loaded (line ∷ []) i nth ∙ ap (λ (o : Option AskKind). option_or o (ask_kind_of (line ∷ []) i nth)) (was.asks i nth kind is);
  acts = λ s nth there later is.
      was.acts s nth there later (or_no (plans loaded s nth) (of_fault (is_fault_at s nth) line) (nothing_of line s nth other) (sym (plans_push loaded line s nth) ∙ is));
}

-- what is planned as lines say, and is planned where they say something, is what they say
as_said : {X : Type 0} (o p : Option X) → ((x : X) → o ≡ Some x → p ≡ Some x) → (is_some p ≡ true → is_some o ≡ true) → o ≡ p
as_said (Some x) p says acts = sym (says x refl)
as_said None None says acts = refl
as_said None (Some x) says acts = none_is (sym (acts refl))

-- a set-up that is still to come is planned to fail as the lines say
pub kind_later : (plan : FaultPlan) (loaded : List Line) → Follows plan loaded → (nth : ℕ) → calls_of plan SetUps < nth → kind_at plan nth ≡ kind_of loaded nth
kind_later plan loaded follows nth later =
    as_said (kind_at plan nth) (kind_of loaded nth) (follows.kinds nth) (λ is. follows.acts SetUps nth refl later (plans_kind loaded nth ∙ is))

-- a packet is planned to fail exactly where it is planned how
pub read_fails : (plan : FaultPlan) (d : List ℕ) (nth : ℕ) → fails_at plan (reads_of d) nth ≡ is_some (packet_kind plan d nth)
read_fails plan d nth = by_node (node_at plan.nodes d)
  where
    by_node : (o : Option NodePlan) → planned_in o calls.Read nth ≡ is_some (packet_kind_at o nth)
    by_node None = refl
    by_node (Some node) = refl

-- a packet that is still to come, of a datanode that is there, is planned to fail as the lines say
pub packet_later : (plan : FaultPlan) (loaded : List Line) → Follows plan loaded → (d : List ℕ) (nth : ℕ) → has_node plan d ≡ true → calls_of plan (reads_of d) < nth → packet_kind plan d nth ≡ packet_kind_of loaded d nth
packet_later plan loaded follows d nth there later =
    as_said (packet_kind plan d nth) (packet_kind_of loaded d nth) (follows.packets d nth)
    (λ is. sym (read_fails plan d nth) ∙ follows.acts (reads_of d) nth there later (plans_packet loaded d nth ∙ is))

-- an ask that is still to come is planned to fail as the lines say
pub ask_later : (plan : FaultPlan) (loaded : List Line) → Follows plan loaded → (i nth : ℕ) → calls_of plan (AsksOf i) < nth → ask_kind plan i nth ≡ ask_kind_of loaded i nth
ask_later plan loaded follows i nth later =
    as_said (ask_kind plan i nth) (ask_kind_of loaded i nth) (follows.asks i nth) (λ is. follows.acts (AsksOf i) nth refl later (plans_ask loaded i nth ∙ is))

-- what tests less is less
less : (a b : ℕ) → nat_lt a b ≡ true → a < b
less a b is = grind (arith, nat_tests)

-- what is less tests less
less_test : (a b : ℕ) → a < b → nat_lt a b ≡ true
less_test a b is = grind (arith, nat_tests)

-- numbers that test the same are the same
same_number : (a b : ℕ) → eqb a b ≡ true → a ≡ b
same_number a b is = grind (arith, nat_tests)

-- what is there only under a test is there, and the test is true
cond_some : {X : Type 0} (b : Bool) (o : Option X) (x : X) → cond b o None ≡ Some x → (b ≡ true) × (o ≡ Some x)
cond_some true o x is = (refl, is)
cond_some false o x is = none_some x is

-- a fault that says how a set-up fails, and may still come, is of one that is still to come
set_up_later : (plan : FaultPlan) (fault : FaultLine) (nth : ℕ) (kind : LinkKind) → may_come plan fault ≡ true → kind_in nth fault ≡ Some kind → calls_of plan SetUps < nth
set_up_later plan (faults.Ask i n k) nth kind comes is = none_some kind is
set_up_later plan (faults.Link n k) nth kind comes is =
    let at : n ≡ nth = same_number n nth (cond_some (eqb n nth) (Some k) kind is).0 in
    subst (λ (m : ℕ). calls_of plan SetUps < m) at (less (calls_of plan SetUps) n comes)
set_up_later plan (faults.AckOf node n) nth kind comes is = none_some kind is
set_up_later plan (faults.SendTo node n) nth kind comes is = none_some kind is
set_up_later plan (faults.ReadOf node n k) nth kind comes is = none_some kind is

-- and one that says how a packet fails, of one that is still to come, of a datanode that is there
read_later : (plan : FaultPlan) (fault : FaultLine) (d : List ℕ) (nth : ℕ) (kind : ReadKind) → may_come plan fault ≡ true → packet_kind_in d nth fault ≡ Some kind → (has_node plan d ≡ true) × (calls_of plan (reads_of d) < nth)
read_later plan fault d nth kind comes is =
    let here = both (same_series (series_of fault) (reads_of d)) (eqb (nth_of fault) nth) (cond_some (is_fault_at (reads_of d) nth fault) (said_kind fault) kind is).0 in
    let may = both (has_series plan (series_of fault)) (nat_lt (calls_of plan (series_of fault)) (nth_of fault)) comes in
    let series : series_of fault ≡ reads_of d = same_series-is (series_of fault) (reads_of d) here.0 in
    let number : nth_of fault ≡ nth = same_number (nth_of fault) nth here.1 in
    let calls : calls_of plan (series_of fault) ≡ calls_of plan (reads_of d) = ap (calls_of plan) series in
    (ap (has_series plan) (sym series) ∙ may.0, omega (arith, calls, number, less (calls_of plan (series_of fault)) (nth_of fault) may.1))

-- and one that says how an ask fails, of one that is still to come
ask_comes_later : (plan : FaultPlan) (fault : FaultLine) (i nth : ℕ) (kind : AskKind) → may_come plan fault ≡ true → ask_kind_in i nth fault ≡ Some kind → calls_of plan (AsksOf i) < nth
ask_comes_later plan fault i nth kind comes is =
    let here = both (same_series (series_of fault) (AsksOf i)) (eqb (nth_of fault) nth) (cond_some (is_fault_at (AsksOf i) nth fault) (said_ask fault) kind is).0 in
    let may = both (has_series plan (series_of fault)) (nat_lt (calls_of plan (series_of fault)) (nth_of fault)) comes in
    let series : series_of fault ≡ AsksOf i = same_series-is (series_of fault) (AsksOf i) here.0 in
    let number : nth_of fault ≡ nth = same_number (nth_of fault) nth here.1 in
    let calls : calls_of plan (series_of fault) ≡ calls_of plan (AsksOf i) = ap (calls_of plan) series in
    omega (arith, calls, number, less (calls_of plan (series_of fault)) (nth_of fault) may.1)

-- the first that said how a call fails stays the first, where what may still come was planned as the lines said
first_stays : {X : Type 0} (o was said : Option X) (comes : Bool) (x : X) → ((y : X) → o ≡ Some y → was ≡ Some y) → (comes ≡ true → said ≡ Some x → o ≡ was) → option_or o (cond comes said None) ≡ Some x → option_or was (option_or said None) ≡ Some x
first_stays {X} (Some y) was said comes x says later is = ap (λ (p : Option X). option_or p (option_or said None)) (says y refl) ∙ is
first_stays {X} None was said true x says later is = ap (λ (p : Option X). option_or p (option_or said None)) (sym (later refl is)) ∙ ap (λ (p : Option X). option_or p None) is
first_stays None was said false x says later is = none_some x is

module _ (old new : FaultPlan) (loaded : List Line) (fault : FaultLine) (plan : PlansFault old fault new) (was : Follows old loaded) where
  -- the lines with this one
  abbrev more : List Line
  more = loaded ++ lines.Fault fault ∷ []

  -- what is planned is planned by a line
  planned_after : (s : Series) (nth : ℕ) → fails_at new s nth ≡ true → plans more s nth ≡ true
  planned_after s nth is = plans_push loaded (lines.Fault fault) s nth ∙ ⊎_elim
      (λ before. or_left (plans loaded s nth) (is_fault_at s nth fault || false) (was.planned s nth before))
      (λ now. or_right (plans loaded s nth) (is_fault_at s nth fault || false) (or_left (is_fault_at s nth fault) false (both (may_come old fault) (is_fault_at s nth fault) now).1))
      (or_cases (fails_at old s nth) (may_come old fault && is_fault_at s nth fault) (sym (plan.fails s nth) ∙ is))

  -- a fault of a call that is still to come may come
  comes_after : (s : Series) (nth : ℕ) → has_series old s ≡ true → calls_of old s < nth → is_fault_at s nth fault ≡ true → may_come old fault ≡ true
  comes_after s nth there later is =
      let parts = both (same_series (series_of fault) s) (eqb (nth_of fault) nth) is in
      let series : series_of fault ≡ s = same_series-is (series_of fault) s parts.0 in
      let number : nth_of fault ≡ nth = same_number (nth_of fault) nth parts.1 in
      let calls : calls_of old (series_of fault) ≡ calls_of old s = ap (calls_of old) series in
      together (has_series old (series_of fault)) (nat_lt (calls_of old (series_of fault)) (nth_of fault)) (ap (has_series old) series ∙ there)
      (less_test (calls_of old (series_of fault)) (nth_of fault) (omega (arith, calls, number, later)))

  -- what a line plans of a call that is still to come is planned
  acts_after : (s : Series) (nth : ℕ) → has_series old s ≡ true → calls_of old s < nth → plans more s nth ≡ true → fails_at new s nth ≡ true
  acts_after s nth there later is = plan.fails s nth ∙ ⊎_elim
      (λ before. or_left (fails_at old s nth) (may_come old fault && is_fault_at s nth fault) (was.acts s nth there later before))
      (λ now. (let at : is_fault_at s nth fault ≡ true = false_after (is_fault_at s nth fault) now in
      or_right (fails_at old s nth) (may_come old fault && is_fault_at s nth fault) (together (may_come old fault) (is_fault_at s nth fault) (comes_after s nth there later at) at)))
      (or_cases (plans loaded s nth) (is_fault_at s nth fault || false) (sym (plans_push loaded (lines.Fault fault) s nth) ∙ is))

  -- a set-up is planned as the first line of it says
  kinds_after : (nth : ℕ) (kind : LinkKind) → kind_at new nth ≡ Some kind → kind_of more nth ≡ Some kind
  kinds_after nth kind is =
      kind_push loaded (lines.Fault fault ∷ []) nth
      ∙ first_stays (kind_at old nth) (kind_of loaded nth) (kind_in nth fault) (may_come old fault) kind (was.kinds nth)
      (λ comes says. kind_later old loaded was nth (set_up_later old fault nth kind comes says)) (sym (plan.kinds nth) ∙ is)

  -- so is a packet
  packets_after : (d : List ℕ) (nth : ℕ) (kind : ReadKind) → packet_kind new d nth ≡ Some kind → packet_kind_of more d nth ≡ Some kind
  packets_after d nth kind is =
      packet_push loaded (lines.Fault fault ∷ []) d nth
      ∙ first_stays (packet_kind old d nth) (packet_kind_of loaded d nth) (packet_kind_in d nth fault) (may_come old fault) kind (was.packets d nth)
      (λ comes says. (let later = read_later old fault d nth kind comes says in packet_later old loaded was d nth later.0 later.1)) (sym (plan.packets d nth) ∙ is)

  -- and an ask
  asks_after : (i nth : ℕ) (kind : AskKind) → ask_kind new i nth ≡ Some kind → ask_kind_of more i nth ≡ Some kind
  asks_after i nth kind is =
      ask_push loaded (lines.Fault fault ∷ []) i nth
      ∙ first_stays (ask_kind old i nth) (ask_kind_of loaded i nth) (ask_kind_in i nth fault) (may_come old fault) kind (was.asks i nth)
      (λ comes says. ask_later old loaded was i nth (ask_comes_later old fault i nth kind comes says)) (sym (plan.ask_kinds i nth) ∙ is)

  -- once a fault is planned, the plan follows the lines with it
  pub plan_follows : Follows new more
  plan_follows = record {
    planned = planned_after;
    kinds = kinds_after;
    packets = packets_after;
    asks = asks_after;
    acts = λ s nth there later is.
        acts_after s nth (sym (series_there old new plan.there s) ∙ there) (omega (arith, plan.calls s, later)) is;
  }

-- ---- the next call

-- tests that follow from each other are the same
alike : (a b : Bool) → (a ≡ true → b ≡ true) → (b ≡ true → a ≡ true) → a ≡ b
alike true b to from = sym (to refl)
alike false true to from = from refl
alike false false to from = refl

-- the next call of a series fails exactly where a line says so of its number
pub next_follows : (plan : FaultPlan) (loaded : List Line) (s : Series) → Follows plan loaded → has_series plan s ≡ true → calls_of plan s + 1 < 2 ^ 64 → next_fails (fails_at plan s) (calls_of plan s) ≡ plans loaded s (calls_of plan s + 1)
next_follows plan loaded s follows there room =
    ap (λ (b : Bool). b && fails_at plan s (calls_of plan s + 1)) (less_test (calls_of plan s + 1) (2 ^ 64) room)
    ∙ alike (fails_at plan s (calls_of plan s + 1)) (plans loaded s (calls_of plan s + 1)) (follows.planned s (calls_of plan s + 1)) (follows.acts s (calls_of plan s + 1) there (omega arith))

-- the next set-up of a pipeline, or the next transfer, fails as the first line of its number says
pub next_kind_follows : (plan : FaultPlan) (loaded : List Line) → Follows plan loaded → calls_of plan SetUps + 1 < 2 ^ 64 → next_kind (kind_at plan) (calls_of plan SetUps) ≡ kind_of loaded (calls_of plan SetUps + 1)
next_kind_follows plan loaded follows room =
    ap (λ (b : Bool). cond b (kind_at plan (calls_of plan SetUps + 1)) None) (less_test (calls_of plan SetUps + 1) (2 ^ 64) room)
    ∙ kind_later plan loaded follows (calls_of plan SetUps + 1) (omega arith)

-- the next packet of a datanode that is there fails as the first line of its number says
pub next_packet_follows : (plan : FaultPlan) (loaded : List Line) (d : List ℕ) → Follows plan loaded → has_node plan d ≡ true → calls_of plan (reads_of d) + 1 < 2 ^ 64 → next_kind (packet_kind plan d) (calls_of plan (reads_of d)) ≡ packet_kind_of loaded d (calls_of plan (reads_of d) + 1)
next_packet_follows plan loaded d follows there room =
    ap (λ (b : Bool). cond b (packet_kind plan d (calls_of plan (reads_of d) + 1)) None) (less_test (calls_of plan (reads_of d) + 1) (2 ^ 64) room)
    ∙ packet_later plan loaded follows d (calls_of plan (reads_of d) + 1) there (omega arith)

-- the next ask of a namenode fails as the first line of its number says
pub next_ask_follows : (plan : FaultPlan) (loaded : List Line) (i : ℕ) → Follows plan loaded → calls_of plan (AsksOf i) + 1 < 2 ^ 64 → next_kind (ask_kind plan i) (calls_of plan (AsksOf i)) ≡ ask_kind_of loaded i (calls_of plan (AsksOf i) + 1)
next_ask_follows plan loaded i follows room =
    ap (λ (b : Bool). cond b (ask_kind plan i (calls_of plan (AsksOf i) + 1)) None) (less_test (calls_of plan (AsksOf i) + 1) (2 ^ 64) room)
    ∙ ask_later plan loaded follows i (calls_of plan (AsksOf i) + 1) (omega arith)
