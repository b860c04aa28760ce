-- What a change of one namenode's tally does to a plan.
use Rattle.std.proofs.Common.{◌≡◌, ◌≢◌, ⊎_elim, ℕ, ◌+◌, ◌^◌, ◌≤◌, Bool, true, false, ◌&&◌, ◌||◌, nat_lt, eqb, cond, Option, Some, None, is_some, refl, sym, ◌∙◌, ap, subst, eqb-true, eq-eqb}
use Rattle.std.specs.Option.{option_or}
use Rattle.std.proofs.lemmas.Bool.{cases_eq}
use Rattle.hdfs_cluster.specs.declared.store.AskKind.{AskKind}
use Rattle.hdfs_cluster.specs.declared.store.FaultLine.TheVariants as faults
use Rattle.hdfs_mem_faults.specs.declared.asks.Asks.{Asks}
use Rattle.hdfs_mem_faults.specs.declared.fault_plan.FaultPlan.{FaultPlan}
use Rattle.hdfs_mem_faults.specs.declared.tally.Tally.{Tally}
use Rattle.hdfs_mem_faults.specs.Asks.{ChangesAsks, CountsAsked, PlansAsk, SameAsks, ask_kind_at, asks_at, asks_in, failed_asks}
use Rattle.hdfs_mem_faults.specs.Calls.{after_one, next_fails, next_kind, one_if}
use Rattle.hdfs_mem_faults.specs.Plans.{CountsAsk, PlansFault, SamePlan, SamePlans, ask_kind, calls_of, fails_at, kind_at, packet_kind}
use Rattle.hdfs_mem_faults.specs.Series.{Series, SetUps, AsksOf, CallsOf, is_fault_at}
use Rattle.hdfs_mem_faults.proofs.Lines.{none_is}
use Rattle.hdfs_mem_faults.proofs.Planning.{none_after, or_none, or_nothing}

-- a call is planned to fail exactly where it is planned how
some_either : {X : Type 0} (o : Option X) (m t : Bool) (x : X) → is_some (option_or o (cond m (cond t (Some x) None) None)) ≡ (is_some o || (m && t))
some_either (Some y) m t x = refl
some_either None true true x = refl
some_either None true false x = refl
some_either None false t x = refl

-- a fault of this namenode plans its ask
same_ask : {X : Type 0} (x : X) (m e : Bool) → cond (m && e) (Some x) None ≡ cond m (cond (true && e) (Some x) None) None
same_ask x true e = refl
same_ask x false e = refl

-- one of another namenode doesn't
other_ask : {X : Type 0} (o : Option X) (x : X) (m e : Bool) → o ≡ option_or o (cond m (cond (false && e) (Some x) None) None)
other_ask o x true e = none_after o
other_ask o x false e = none_after o

module _ (old : FaultPlan) (asks : Asks) (i : ℕ) (others : ChangesAsks i old.asks asks) where
  -- the plan after that
  abbrev new : FaultPlan
  new = record { nodes = old.nodes; links = old.links; asks = asks }

  -- what holds of this namenode, and of each other one and itself, holds of each
  each_ask : (R : Option (Tally AskKind) → Option (Tally AskKind) → Type 0) → ((o : Option (Tally AskKind)) → R o o) → R (asks_at old.asks i) (asks_at asks i) → (j : ℕ) → R (asks_at old.asks j) (asks_at asks j)
  each_ask R same here j = ⊎_elim
      (λ is. subst (λ (n : ℕ). R (asks_at old.asks n) (asks_at asks n)) (sym is) here)
      (λ apart. subst (R (asks_at old.asks j)) (sym (others.others j apart)) (same (asks_at old.asks j)))
      (cases_eq j i)

  module _ (kinds : (nth : ℕ) → ask_kind_at (asks_at asks i) nth ≡ ask_kind_at (asks_at old.asks i) nth) where
    -- the same is planned of each namenode
    kinds_of : (j nth : ℕ) → ask_kind new j nth ≡ ask_kind old j nth
    kinds_of j nth = each_ask (λ o p. ask_kind_at p nth ≡ ask_kind_at o nth) (λ o. refl) (kinds nth) j

    -- and of each series
    fails_of : (s : Series) (nth : ℕ) → fails_at new s nth ≡ fails_at old s nth
    fails_of SetUps nth = refl
    fails_of (AsksOf j) nth = ap is_some (kinds_of j nth)
    fails_of (CallsOf call d) nth = refl

    -- no plan changed
    plans_of : SamePlans old new
    plans_of = record { there = λ d. refl; fails = fails_of; kinds = λ nth. refl; packets = λ d nth. refl; asks = kinds_of }

  -- no count of another series changed
  other_series : (s : Series) → s ≢ AsksOf i → calls_of new s ≡ calls_of old s
  other_series SetUps apart = refl
  other_series (AsksOf j) apart = ap asks_in (others.others j (λ same. apart (ap AsksOf same)))
  other_series (CallsOf call d) apart = refl

  -- nor of this one, where the namenode's didn't
  each_series : asks_in (asks_at asks i) ≡ asks_in (asks_at old.asks i) → (s : Series) → calls_of new s ≡ calls_of old s
  each_series calls SetUps = refl
  each_series calls (AsksOf j) = each_ask (λ o p. asks_in p ≡ asks_in o) (λ o. refl) calls j
  each_series calls (CallsOf call d) = refl

  -- nothing was counted or planned
  pub same_asked : SameAsks (asks_at old.asks i) (asks_at asks i) → SamePlan old new
  same_asked here = record {
    plans = plans_of here.kinds;
    calls = each_series here.calls;
    nodes = λ d. refl;
    asks = each_ask (λ o p. failed_asks p ≡ failed_asks o) (λ o. refl) here.failed;
    links = record { faults = refl; bad = λ link. refl };
  }

  -- an ask was counted
  pub counts_asked : (fails : Bool) → CountsAsked (asks_at old.asks i) fails (asks_at asks i) → CountsAsk old i fails new
  counts_asked fails here = record {
    call = record { own = λ there. here.calls; grows = here.grows; others = other_series; plans = plans_of here.kinds };
    as_planned = here.as_planned;
    own = here.failed;
    others = λ j apart. ap failed_asks (others.others j apart);
    nodes = λ d. refl;
    links = record { faults = refl; bad = λ link. refl };
  }

  module _ (nth : ℕ) (kind : AskKind) (here : PlansAsk (asks_at old.asks i) nth kind (asks_at asks i)) where
    -- the fault may still come
    abbrev comes : Bool
    comes = nat_lt (calls_of old (AsksOf i)) nth

    -- how the asks of each namenode are planned to fail
    planned_of : (j k : ℕ) → ask_kind new j k ≡ option_or (ask_kind old j k) (cond comes (cond (eqb i j && eqb nth k) (Some kind) None) None)
    planned_of j k = by_test (eqb i j) refl
      where
        by_test : (t : Bool) → eqb i j ≡ t → ask_kind new j k ≡ option_or (ask_kind old j k) (cond comes (cond (t && eqb nth k) (Some kind) None) None)
        by_test true is =
            subst (λ (n : ℕ). ask_kind new n k ≡ option_or (ask_kind old n k) (cond comes (cond (true && eqb nth k) (Some kind) None) None)) (eqb-true i j is)
            (here.kinds k ∙ ap (option_or (ask_kind old i k)) (same_ask kind comes (eqb nth k)))
        by_test false is =
            ap (λ (o : Option (Tally AskKind)). ask_kind_at o k) (others.others j (λ same. none_is (sym (eq-eqb i j (sym same)) ∙ is)))
            ∙ other_ask (ask_kind old j k) kind comes (eqb nth k)

    -- exactly the ask of the fault is planned, where it may still come
    fails_planned : (s : Series) (k : ℕ) → fails_at new s k ≡ (fails_at old s k || (comes && is_fault_at s k (faults.Ask i nth kind)))
    fails_planned SetUps k = or_nothing (is_some (kind_at old k)) comes (eqb nth k)
    fails_planned (AsksOf j) k = ap is_some (planned_of j k) ∙ some_either (ask_kind old j k) comes (eqb i j && eqb nth k) kind
    fails_planned (CallsOf call d) k = or_nothing (fails_at old (CallsOf call d) k) comes (eqb nth k)

    -- an ask of a namenode was planned
    pub plans_asked : PlansFault old (faults.Ask i nth kind) new
    plans_asked = record {
      fails = fails_planned;
      kinds = λ k. or_none (kind_at old k) None comes refl;
      packets = λ d k. or_none (packet_kind old d k) None comes refl;
      ask_kinds = planned_of;
      there = λ d. refl;
      calls = each_series here.calls;
      nodes = λ d. refl;
      asks = each_ask (λ o p. failed_asks p ≡ failed_asks o) (λ o. refl) here.failed;
      links = record { faults = refl; bad = λ link. refl };
    }

-- how the next ask fails, where the same is planned and was counted
next_same : {K : Type 0} (f g : ℕ → Option K) (n m : ℕ) → m ≡ n → ((k : ℕ) → g k ≡ f k) → next_kind g m ≡ next_kind f n
next_same {K} f g n m is same = ap (next_kind g) is ∙ ap (λ (o : Option K). cond (nat_lt (n + 1) (2 ^ 64)) o None) (same (n + 1))

-- it fails exactly where it is planned how
fails_so : {K : Type 0} (t : Bool) (o : Option K) → (t && is_some o) ≡ is_some (cond t o None)
fails_so true o = refl
fails_so false o = refl

-- the next ask of a namenode fails exactly where it is planned how
pub fails_as_kind : (plan : FaultPlan) (i : ℕ) → next_fails (fails_at plan (AsksOf i)) (calls_of plan (AsksOf i)) ≡ is_some (next_kind (ask_kind plan i) (calls_of plan (AsksOf i)))
fails_as_kind plan i = fails_so (nat_lt (calls_of plan (AsksOf i) + 1) (2 ^ 64)) (ask_kind plan i (calls_of plan (AsksOf i) + 1))

-- behind a step of which nothing is seen the next ask fails in the same way
pub next_ask_same : (old mid : FaultPlan) → SamePlan old mid → (i : ℕ) → next_kind (ask_kind mid i) (calls_of mid (AsksOf i)) ≡ next_kind (ask_kind old i) (calls_of old (AsksOf i))
next_ask_same old mid same i = next_same (ask_kind old i) (ask_kind mid i) (calls_of old (AsksOf i)) (calls_of mid (AsksOf i)) (same.calls (AsksOf i)) (same.plans.asks i)

-- and counts the same
pub counts_behind : (old mid new : FaultPlan) (i : ℕ) (fails : Bool) → SamePlan old mid → CountsAsk mid i fails new → CountsAsk old i fails new
counts_behind old mid new i fails same counts = record {
  call = record {
    own = λ there. counts.call.own refl ∙ ap after_one (same.calls (AsksOf i));
    grows = subst (λ (n : ℕ). n ≤ calls_of new (AsksOf i)) (same.calls (AsksOf i)) counts.call.grows;
    others = λ s apart. counts.call.others s apart ∙ same.calls s;
    plans = record {
      there = λ d. counts.call.plans.there d ∙ same.plans.there d;
      fails = λ s nth. counts.call.plans.fails s nth ∙ same.plans.fails s nth;
      kinds = λ nth. counts.call.plans.kinds nth ∙ same.plans.kinds nth;
      packets = λ d nth. counts.call.plans.packets d nth ∙ same.plans.packets d nth;
      asks = λ j nth. counts.call.plans.asks j nth ∙ same.plans.asks j nth;
    };
  };
  as_planned = counts.as_planned ∙ fails_as_kind mid i ∙ ap is_some (next_ask_same old mid same i) ∙ sym (fails_as_kind old i);
  own = counts.own ∙ ap (λ (n : ℕ). n + one_if fails) (same.asks i);
  others = λ j apart. counts.others j apart ∙ same.asks j;
  nodes = λ d. counts.nodes d ∙ same.nodes d;
  links = record { faults = counts.links.faults ∙ same.links.faults; bad = λ link. counts.links.bad link ∙ same.links.bad link };
}
