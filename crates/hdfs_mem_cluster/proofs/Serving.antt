-- What an ask of a cluster in memory shows.
use Rattle.std.proofs.Common.{if◌then◌else◌, ◌≡◌, ◌≢◌, ◌⊎◌, ⊎_elim, inl, inr, ℕ, ◌+◌, ◌-◌, ◌^◌, ◌<◌, ◌≤◌, min, nat_lt, Bool, true, false, ◌&&◌, ◌||◌, List, map, Option, Some, None, is_some, Result, Ok, Err, IsErr, is_err, IfOk, OnOk, refl, sym, ◌∙◌, ap, subst, arith}
use Rattle.std.proofs.lemmas.Bool.{cases_eq, false≢true}
use Rattle.std.proofs.lemmas.Bool.Decides.{nat_tests}
use Rattle.hdfs_cluster.specs.declared.asks.Ask.{Ask}
use Rattle.hdfs_cluster.specs.declared.asks.Ask.TheVariants as asks
use Rattle.hdfs_cluster.specs.declared.asks.Answer.{Answer}
use Rattle.hdfs_cluster.specs.declared.asks.Answer.TheVariants as answers
use Rattle.hdfs_cluster.specs.declared.asks.AskFault.{AskFault}
use Rattle.hdfs_cluster.specs.declared.asks.AskFault.TheVariants as faults
use Rattle.hdfs_cluster.specs.declared.mem_settings.MemSettings.{MemSettings}
use Rattle.hdfs_cluster.specs.declared.picture.LastAnswer.{LastAnswer}
use Rattle.hdfs_cluster.specs.declared.store.AskKind.{AskKind}
use Rattle.hdfs_cluster.specs.declared.store.AskKind.TheVariants as ask_kinds
use Rattle.hdfs_cluster.specs.declared.store.Line.{Line}
use Rattle.hdfs_cluster.specs.Counts.{NeverFall, Rose}
use Rattle.hdfs_cluster.specs.Namenode.{IsFailure, IsShaped, MayBeDone, Row, ServesTold, last_of}
use Rattle.hdfs_cluster.specs.Picture.{Picture, SamePicture}
use Rattle.hdfs_cluster.specs.Shown.{Served}
use Rattle.hdfs_mem_faults.specs.declared.fault_plan.FaultPlan.{FaultPlan}
use Rattle.hdfs_mem_faults.specs.Calls.{next_kind, one_if}
use Rattle.hdfs_mem_faults.specs.Plans.{CountsAsk as CountsAskOf, SameLinks, SameNodeFaults, SamePlan, ask_faults_of, ask_kind, calls_of, has_node}
use Rattle.hdfs_mem_faults.specs.Series.{Series, AsksOf}
use Rattle.hdfs_mem_faults.proofs.Asking.{fails_as_kind}
use Rattle.hdfs_mem_faults.proofs.Following.{next_ask_follows}
use Rattle.hdfs_mem_namenode.specs.declared.namespace.Namespace.{Namespace}
use Rattle.hdfs_mem_datanodes.specs.declared.datanodes.Datanodes.{Datanodes}
use Rattle.hdfs_mem_cluster.specs.declared.config.Config.{Config}
use Rattle.hdfs_mem_cluster.specs.declared.mem_cluster.MemCluster.{MemCluster}
use Rattle.hdfs_mem_cluster.specs.declared.mem_links.MemLinks.{MemLinks}
use Rattle.hdfs_mem_namenode.specs.Answering.{Answers}
use Rattle.hdfs_mem_cluster.specs.Counting.{CountsAsk, MemServes}
use Rattle.hdfs_mem_cluster.specs.Lines.{line_of}
use Rattle.hdfs_mem_cluster.specs.MemShown.{counts_at, failed_calls, namenode_faults, picture_at, picture_of, shown_of}
use Rattle.hdfs_mem_cluster.specs.Responding.{AskComesTo, DoesPlanned, Responds, failed_after, false_answer, has_failed, is_answered, is_failure, own_failure, planned_answer}
use Rattle.hdfs_mem_datanodes.specs.Nodes.{SameNodes}
use Rattle.hdfs_mem_namenode.proofs.Answering.{serves_answer}
use Rattle.hdfs_mem_namenode.proofs.Rows.{about_done, about_not_false, about_still, serves_about}
use Rattle.hdfs_mem_cluster.proofs.Counting.{AsksGrow, asks_grow, nodes_stay, one_more}
use Rattle.hdfs_mem_cluster.proofs.Failing.{fails_if, failed_others, failed_own}
use Rattle.hdfs_mem_cluster.proofs.Stills.{shown_at}

-- where no answer came, nothing changed
pub still_without_answer : (loaded : List Line) (count : ℕ) (p q : Picture) (i : ℕ) (ask : Ask) (result : Result Answer AskFault) → IsErr result → Responds loaded count p i ask result q → SamePicture p q
still_without_answer loaded count p q i ask result is h = ⊎_elim (unanswered result is) (λ more. ⊎_elim (λ fails. fails.same) (λ about. about_still p q i ask result about is) more) h
  where
    unanswered : (r : Result Answer AskFault) → IsErr r → Answers p i ask r q → SamePicture p q
    unanswered (Ok answer) is h = absurd (false≢true is)
    unanswered (Err faults.NoMemory) is h = h
    unanswered (Err faults.Broken) is h = absurd h
    unanswered (Err (faults.BadReply fault)) is h = absurd h
    unanswered (Err (faults.Exception class message)) is h = h.1
    unanswered (Err (faults.Fatal class message)) is h = absurd h

-- for want of memory nothing was done
pub comes_to_nothing : (loaded : List Line) (count : ℕ) (kind : Option AskKind) (p q : Picture) (i : ℕ) (ask : Ask) → SamePicture p q → AskComesTo loaded count kind p i ask (Err faults.NoMemory) q
comes_to_nothing loaded count None p q i ask same = inl same
comes_to_nothing loaded count (Some kind) p q i ask same = inl (refl, same)

-- what a namenode answers that is planned to fail is an answer to the ask
pub planned_shaped : (kind : AskKind) (ask : Ask) → IfOk (planned_answer kind ask) (IsShaped ask)
planned_shaped ask_kinds.Lost ask = tt
planned_shaped ask_kinds.Late ask = tt
planned_shaped ask_kinds.FalseAnswer (asks.Complete ask) = tt
planned_shaped ask_kinds.FalseAnswer ask = tt
planned_shaped ask_kinds.Fatal ask = tt
planned_shaped (ask_kinds.Exception class) ask = tt

-- what a call ensures that gave no error
pub on_ok_then : {X E P : Type 0} (r : Result X E) → is_err r ≡ false → OnOk r P → P
on_ok_then (Ok x) good p = p
on_ok_then (Err e) good p = absurd (false≢true (sym good))

-- what follows from two facts of a value that is there
pub both_ok : {X E Q : Type 0} (r : Result X E) (P R : X → Type 0) → ((x : X) → P x → Q → R x) → IfOk r P → OnOk r Q → IfOk r R
both_ok (Ok x) P R f p q = f x p q
both_ok (Err e) P R f p q = tt

-- ---- what an ask comes to is served

-- no row answers that a file isn't closed
no_false : (p : Picture) (ask : Ask) (q : Picture) → Row p ask (answers.Complete false) q → ⊥
no_false p (asks.Complete ask) q row = row
no_false p ask q row = row

module _ (loaded : List Line) (count : ℕ) (p q : Picture) (i : ℕ) (ask : Ask) where
  -- a namenode that isn't planned to fail gives an answer, and never that the file isn't closed
  no_failure : (result : Result Answer AskFault) → Responds loaded count p i ask result q → IsFailure result → ⊥
  no_failure (Ok answer) h is = ⊎_elim (λ here. no_false p ask q (subst (λ (a : Answer). Row p ask a q) is here.3)) (λ more. ⊎_elim (λ fails. (let e = fails.is in absurd (cc))) (λ about. about_not_false p q i ask answer about is) more) h
  no_failure (Err faults.NoMemory) h is = is
  no_failure (Err faults.Broken) h is = ⊎_elim (λ here. here) (λ more. ⊎_elim (λ fails. (let e = fails.is in absurd (cc))) (λ about. about.row) more) h
  no_failure (Err (faults.BadReply fault)) h is = ⊎_elim (λ here. here) (λ more. ⊎_elim (λ fails. (let e = fails.is in absurd (cc))) (λ about. about.row) more) h
  no_failure (Err (faults.Exception class message)) h is = is
  no_failure (Err (faults.Fatal class message)) h is = ⊎_elim (λ here. here) (λ more. ⊎_elim (λ fails. (let e = fails.is in absurd (cc))) (λ about. about.row) more) h

  -- what a namenode responds whose answer is late may be done
  may_be_done : (given : Result Answer AskFault) → IfOk given (IsShaped ask) → Responds loaded count p i ask given q → MayBeDone ask p q
  may_be_done (Ok answer) shaped h = ⊎_elim (λ here. inr (inl (answer, shaped, here.3))) (λ more. ⊎_elim (λ fails. inl fails.same.rest) (λ about. ⊎_elim (λ row. inr (inl (answer, shaped, row))) (λ own. inr (inr own)) (about_done p q i ask answer about)) more) h
  may_be_done (Err fault) shaped h = inl (still_without_answer loaded count p q i ask (Err fault) refl h).rest

  module _ (risen : Type 0) where
    -- one that isn't planned to fail
    serves_response : (result : Result Answer AskFault) → (is_failure result ≡ true → i ≡ p.active → risen) → Responds loaded count p i ask result q → ServesTold risen p i ask result q
    serves_response result rises h =
        ⊎_elim
        (serves_answer risen p q i ask result)
        (λ more. ⊎_elim
        (λ fails. subst (λ (r : Result Answer AskFault). ServesTold risen p i ask r q) (sym fails.is) (inr (inr (inr (rises (ap is_failure fails.is) fails.here, inl fails.same.rest)))))
        (serves_about risen p q i ask result)
        more)
        h

    -- one that is
    serves_planned : (kind : AskKind) → risen → DoesPlanned loaded count kind p i ask q → ServesTold risen p i ask (planned_answer kind ask) q
    serves_planned ask_kinds.Lost rose does = (rose, inl does.rest)
    serves_planned ask_kinds.Late rose does = (rose, may_be_done does.0 does.1 does.2)
    serves_planned ask_kinds.FalseAnswer rose does = by_ask ask (inl does.rest)
      where
        by_ask : (a : Ask) → MayBeDone a p q → ServesTold risen p i a (false_answer a) q
        by_ask (asks.Complete ask) done = inr (refl, rose, done)
        by_ask ask done = (rose, done)
    serves_planned ask_kinds.Fatal rose does = (rose, inl does.rest)
    serves_planned (ask_kinds.Exception class) rose does = inr (inr (inr (rose, inl does.rest)))

    -- either of them
    serves_comes : (kind : Option AskKind) (result : Result Answer AskFault) → (has_failed kind result ≡ true → (is_some kind ≡ true) ⊎ (i ≡ p.active) → risen) → AskComesTo loaded count kind p i ask result q → ServesTold risen p i ask result q
    serves_comes None result rises h = serves_response result (λ failed here. rises (failed_answered result failed) (inr here)) h
      where
        failed_answered : (r : Result Answer AskFault) → is_failure r ≡ true → has_failed None r ≡ true
        failed_answered (Ok answer) failed = failed
        failed_answered (Err faults.NoMemory) failed = failed
        failed_answered (Err faults.Broken) failed = failed
        failed_answered (Err (faults.BadReply fault)) failed = failed
        failed_answered (Err (faults.Exception class message)) failed = failed
        failed_answered (Err (faults.Fatal class message)) failed = failed
    serves_comes (Some kind) result rises h =
        ⊎_elim
        (λ none. subst (λ (r : Result Answer AskFault). ServesTold risen p i ask r q) (sym none.0) (none.1.active, inl none.1.rest))
        (λ does. subst (λ (r : Result Answer AskFault). ServesTold risen p i ask r q) (sym does.0)
        (serves_planned kind (rises (ap (has_failed (Some kind)) does.0 ∙ planned_answered kind ask) (inl refl)) does.1))
        h
      where
        planned_answered : (kind : AskKind) (a : Ask) → has_failed (Some kind) (planned_answer kind a) ≡ true
        planned_answered ask_kinds.Lost a = refl
        planned_answered ask_kinds.Late a = refl
        planned_answered ask_kinds.FalseAnswer (asks.Complete ask) = refl
        planned_answered ask_kinds.FalseAnswer ask = refl
        planned_answered ask_kinds.Fatal a = refl
        planned_answered (ask_kinds.Exception class) a = refl

  -- what only a namenode gives that has failed comes only where it is planned
  failure_planned : (kind : Option AskKind) (result : Result Answer AskFault) → AskComesTo loaded count kind p i ask result q → IsFailure result → (is_some kind ≡ true) × (is_answered result ≡ true)
  failure_planned None result h is = absurd (no_failure result h is)
  failure_planned (Some kind) result h is = (refl, by_result result is)
    where
      by_result : (r : Result Answer AskFault) → IsFailure r → is_answered r ≡ true
      by_result (Ok answer) is = refl
      by_result (Err faults.NoMemory) is = absurd is
      by_result (Err faults.Broken) is = refl
      by_result (Err (faults.BadReply fault)) is = refl
      by_result (Err (faults.Exception class message)) is = refl
      by_result (Err (faults.Fatal class message)) is = refl

-- ---- what an ask counts

-- What an ask counts in a plan, and beside it: the namenode that was asked has failed as it was planned to, or as the active one does
-- beside that, and nothing else has.
pub record AskCounts (settings : MemSettings) (i : ℕ) (kind : Option AskKind) (result : Result Answer AskFault) (calls calls' : ℕ) (plan plan' : FaultPlan) : Type 0 where
  pub below : i < settings.namenodes
  pub here : own_failure kind result ≡ true → i ≡ settings.active
  pub own : ask_faults_of plan' i ≡ ask_faults_of plan i + one_if (is_answered result && is_some kind)
  pub others : (j : ℕ) → j ≢ i → ask_faults_of plan' j ≡ ask_faults_of plan j
  pub after : calls' ≡ failed_after (own_failure kind result) calls
  pub grows : AsksGrow plan plan'
  pub asked : (result ≡ Err faults.NoMemory → ⊥) → Rose (calls_of plan (AsksOf i)) (calls_of plan' (AsksOf i))
  pub nodes : SameNodeFaults plan plan'
  pub links : SameLinks plan plan'

-- two parts of a count, one of which rises at most
rises_in_all : (n n' f f' : ℕ) (planned own : Bool) → (planned && own) ≡ false → n' ≡ n + one_if planned → f' ≡ failed_after own f → min (n' + f') (2 ^ 64 - 1) ≡ failed_after (planned || own) (min (n + f) (2 ^ 64 - 1))
rises_in_all n n' f f' true true both is_n is_f = absurd (false≢true (sym both))
rises_in_all n n' f f' true false both is_n is_f = omega (arith, is_n, is_f)
rises_in_all n n' f f' false true both is_n is_f = omega (arith, is_n, is_f)
rises_in_all n n' f f' false false both is_n is_f = omega (arith, is_n, is_f)

-- a namenode fails as it was planned to, or beside that
not_both : (kind : Option AskKind) (result : Result Answer AskFault) → ((is_answered result && is_some kind) && own_failure kind result) ≡ false
not_both (Some kind) result = by_test (is_answered result)
  where
    by_test : (b : Bool) → ((b && true) && false) ≡ false
    by_test true = refl
    by_test false = refl
not_both None result = by_test (is_answered result) (is_failure result)
  where
    by_test : (b c : Bool) → ((b && false) && c) ≡ false
    by_test true c = refl
    by_test false c = refl

-- and then it has failed
either_failed : (kind : Option AskKind) (result : Result Answer AskFault) → ((is_answered result && is_some kind) || own_failure kind result) ≡ has_failed kind result
either_failed (Some kind) result = by_test (is_answered result) (is_failure result)
  where
    by_test : (b c : Bool) → ((b && true) || false) ≡ (b && (true || c))
    by_test true c = refl
    by_test false c = refl
either_failed None (Ok answer) = refl
either_failed None (Err faults.NoMemory) = refl
either_failed None (Err faults.Broken) = refl
either_failed None (Err (faults.BadReply fault)) = refl
either_failed None (Err (faults.Exception class message)) = refl
either_failed None (Err (faults.Fatal class message)) = refl

-- what is less tests less
less_test : (a b : ℕ) → a < b → nat_lt a b ≡ true
less_test a b is = grind (arith, nat_tests)

module _ (settings : MemSettings) (i : ℕ) (kind : Option AskKind) (result : Result Answer AskFault) (calls calls' : ℕ) (plan plan' : FaultPlan) (h : AskCounts settings i kind result calls calls' plan plan') where
  -- the count of the namenode that was asked rises by one where it has failed
  pub own_rises : namenode_faults settings calls' plan' i ≡ failed_after (has_failed kind result) (namenode_faults settings calls plan i)
  own_rises =
      let there : nat_lt i settings.namenodes ≡ true = less_test i settings.namenodes h.below in
      let beside : failed_calls settings calls' i ≡ failed_after (own_failure kind result) (failed_calls settings calls i) =
      ap (λ (n : ℕ). failed_calls settings n i) h.after ∙ failed_own settings (own_failure kind result) calls i h.here in
      let all = rises_in_all (ask_faults_of plan i) (ask_faults_of plan' i) (failed_calls settings calls i) (failed_calls settings calls' i) (is_answered result && is_some kind) (own_failure kind result) (not_both kind result) h.own beside in
      ap (λ (b : Bool). if b then min (ask_faults_of plan' i + failed_calls settings calls' i) (2 ^ 64 - 1) else 0) there
      ∙ all
      ∙ ap (λ (b : Bool). failed_after b (min (ask_faults_of plan i + failed_calls settings calls i) (2 ^ 64 - 1))) (either_failed kind result)
      ∙ ap (failed_after (has_failed kind result)) (sym (ap (λ (b : Bool). if b then min (ask_faults_of plan i + failed_calls settings calls i) (2 ^ 64 - 1) else 0) there))

  -- and no other one does
  pub others_stay : (j : ℕ) → j ≢ i → namenode_faults settings calls' plan' j ≡ namenode_faults settings calls plan j
  others_stay j apart =
      let beside : failed_calls settings calls' j ≡ failed_calls settings calls j =
      ap (λ (n : ℕ). failed_calls settings n j) h.after ∙ failed_others settings (own_failure kind result) calls i h.here j apart in
      ap (λ (n : ℕ). if nat_lt j settings.namenodes then min (n + failed_calls settings calls' j) (2 ^ 64 - 1) else 0) (h.others j apart)
      ∙ ap (λ (n : ℕ). if nat_lt j settings.namenodes then min (ask_faults_of plan j + n) (2 ^ 64 - 1) else 0) beside

  -- a count is never past its end
  within : (b : Bool) (n : ℕ) → (if b then min n (2 ^ 64 - 1) else 0) ≤ 2 ^ 64 - 1
  within true n = omega arith
  within false n = omega arith

  after_more : (b : Bool) (n : ℕ) → n ≤ 2 ^ 64 - 1 → n ≤ failed_after b n
  after_more true n le = omega (arith, le)
  after_more false n le = omega arith

  -- no count falls
  pub none_falls : NeverFall (counts_at settings calls plan) (counts_at settings calls' plan')
  none_falls = record {
    asks = h.grows;
    calls = λ j. ⊎_elim
        (λ same. subst (λ (k : ℕ). namenode_faults settings calls plan k ≤ namenode_faults settings calls' plan' k) (sym same)
        (subst (λ (n : ℕ). namenode_faults settings calls plan i ≤ n) (sym own_rises)
        (after_more (has_failed kind result) (namenode_faults settings calls plan i) (within (nat_lt i settings.namenodes) (ask_faults_of plan i + failed_calls settings calls i)))))
        (λ apart. subst (λ (n : ℕ). namenode_faults settings calls plan j ≤ n) (sym (others_stay j apart)) (omega arith))
        (cases_eq j i);
    links = omega (arith, h.links.faults);
    nodes = λ d. omega (arith, h.nodes d);
  }

  -- and that of one that has failed rises
  pub rises : has_failed kind result ≡ true → Rose (namenode_faults settings calls plan i) (namenode_faults settings calls' plan' i)
  rises failed = (let is = own_rises ∙ ap (λ (b : Bool). failed_after b (namenode_faults settings calls plan i)) failed in omega (arith, is))

-- ---- both together

-- an ask is served, and its answer is the last one
pub served : (space space' : Namespace) (plan plan' : FaultPlan) (nodes nodes' : Datanodes) (settings : MemSettings) (last last' : LastAnswer) (calls calls' : ℕ) (loaded : List Line) (s : MemLinks) (i : ℕ) (ask : Ask) (kind : Option AskKind) (result : Result Answer AskFault)
    → last' ≡ last_of result → AskCounts settings i kind result calls calls' plan plan'
    → AskComesTo loaded nodes.count kind (picture_at space nodes settings s) i ask result (picture_at space' nodes' settings s)
    → Served (shown_at space settings last calls loaded plan nodes s) i ask result (shown_at space' settings last' calls' loaded plan' nodes' s)
served space space' plan plan' nodes nodes' settings last last' calls calls' loaded s i ask kind result is counts comes = record {
  later = record { counts = none_falls settings i kind result calls calls' plan plan' counts; namenodes = refl; loaded = refl };
  last = is;
  asked = counts.asked;
  cause = λ fails. (let planned = failure_planned loaded nodes.count (picture_at space nodes settings s) (picture_at space' nodes' settings s) i ask kind result comes fails in
      rises settings i kind result calls calls' plan plan' counts (failed_as_planned kind result planned.0 planned.1));
  reads = λ link. refl;
  writes = λ link. refl;
  links = counts.links.faults;
  nodes = counts.nodes;
  picture = serves_comes loaded nodes.count (picture_at space nodes settings s) (picture_at space' nodes' settings s) i ask
      (Rose (namenode_faults settings calls plan i) (namenode_faults settings calls' plan' i)) kind result (λ failed why. rises settings i kind result calls calls' plan plan' counts failed) comes;
}
  where
    failed_as_planned : (kind : Option AskKind) (r : Result Answer AskFault) → is_some kind ≡ true → is_answered r ≡ true → has_failed kind r ≡ true
    failed_as_planned kind r some answered = ap (λ (b : Bool). b && (is_some kind || is_failure r)) answered ∙ ap (λ (b : Bool). b || is_failure r) some

-- How the calls of a plan are counted where an ask was made: it is, where there was memory, and no other call is.
pub record AskStep (i : ℕ) (counted : Bool) (plan plan' : FaultPlan) : Type 0 where
  pub own : calls_of plan (AsksOf i) + 1 < 2 ^ 64 → calls_of plan' (AsksOf i) ≡ calls_of plan (AsksOf i) + one_if counted
  pub others : (t : Series) → t ≢ AsksOf i → calls_of plan' t ≡ calls_of plan t
  pub there : (d : List ℕ) → has_node plan' d ≡ has_node plan d

module _ (m m' : MemCluster) (i : ℕ) (kind : Option AskKind) (result : Result Answer AskFault) (rest : SameNodes m.nodes m'.nodes) (config : m'.config ≡ m.config) (counts : AskCounts m.config.settings i kind result m.calls m'.calls m.faults m'.faults) (step : AskStep i (is_answered result) m.faults m'.faults) where
  -- the counts afterwards
  now : (j : ℕ) → (shown_of m').counts.calls j ≡ namenode_faults m.config.settings m'.calls m'.faults j
  now j = ap (λ (c : Config). namenode_faults c.settings m'.calls m'.faults j) config

  -- what an ask counts
  counts_ask : CountsAsk m i (is_answered result) (has_failed kind result) m'
  counts_ask = record {
    call = record { own = λ can. step.own can.room; others = step.others; there = nodes_stay m m' rest step.there };
    own = now i ∙ own_rises m.config.settings i kind result m.calls m'.calls m.faults m'.faults counts;
    others = λ j apart. now j ∙ others_stay m.config.settings i kind result m.calls m'.calls m.faults m'.faults counts j apart;
    links = counts.links.faults;
    nodes = counts.nodes;
    bad = λ link shown. counts.links.bad link;
  }

  -- an ask does exactly that
  pub mem_serves : (ask : Ask) → kind ≡ next_kind (ask_kind m.faults i) (calls_of m.faults (AsksOf i)) → Served (shown_of m) i ask result (shown_of m')
      → AskComesTo (shown_of m).loaded.lines m.nodes.count kind (picture_of m) i ask result (picture_of m') → MemServes m i ask result m'
  mem_serves ask is served comes = record {
    served = served;
    kind = kind;
    planned = λ can. is ∙ next_ask_follows m.faults (map line_of m.loaded.items) i m.follows can.room;
    counted = counts_ask;
    comes = comes;
  }

-- ---- an ask that was counted, and one for which there was no memory

-- the active namenode alone fails that wasn't planned to
pub failed_here : (loaded : List Line) (count : ℕ) (kind : Option AskKind) (p q : Picture) (i : ℕ) (ask : Ask) (result : Result Answer AskFault) → AskComesTo loaded count kind p i ask result q → own_failure kind result ≡ true → i ≡ p.active
failed_here loaded count None p q i ask result comes failed = (fails_if loaded count p q i ask result comes failed).here
failed_here loaded count (Some kind) p q i ask result comes failed = absurd (false≢true failed)

module _ (settings : MemSettings) (i : ℕ) (kind : Option AskKind) (calls : ℕ) (plan plan' : FaultPlan) (below : i < settings.namenodes) where
  -- an ask that was counted
  pub counted_ask : (result : Result Answer AskFault) (calls' : ℕ) (fails : Bool) → CountsAskOf plan i fails plan' → kind ≡ next_kind (ask_kind plan i) (calls_of plan (AsksOf i)) → is_answered result ≡ true → (own_failure kind result ≡ true → i ≡ settings.active) → calls' ≡ failed_after (own_failure kind result) calls → AskCounts settings i kind result calls calls' plan plan'
  counted_ask result calls' fails h is answered here beside =
      let planned : fails ≡ is_some kind = h.as_planned ∙ fails_as_kind plan i ∙ ap is_some (sym is) in
      record {
        below = below;
        here = here;
        own = h.own ∙ ap (λ (b : Bool). ask_faults_of plan i + one_if b) (planned ∙ ap (λ (b : Bool). b && is_some kind) (sym answered));
        others = h.others;
        after = beside;
        grows = asks_grow plan plan' (AsksOf i) h.call;
        asked = λ apart. omega (arith, h.call.own refl);
        nodes = h.nodes;
        links = h.links;
      }

  pub counted_step : (counted fails : Bool) → counted ≡ true → CountsAskOf plan i fails plan' → AskStep i counted plan plan'
  counted_step counted fails is h = record {
    own = λ room. (let one : one_if counted ≡ 1 = ap one_if is in omega (arith, one_more (calls_of plan (AsksOf i)) (calls_of plan' (AsksOf i)) (h.call.own refl) room, one));
    others = h.call.others;
    there = h.call.plans.there;
  }

  -- nobody fails for want of memory
  unfailed : (k : Option AskKind) → own_failure k (Err faults.NoMemory) ≡ false
  unfailed None = refl
  unfailed (Some k) = refl

  -- one for which there was no memory
  pub uncounted_ask : SamePlan plan plan' → AskCounts settings i kind (Err faults.NoMemory) calls calls plan plan'
  uncounted_ask same = record {
    below = below;
    here = λ failed. absurd (false≢true (sym (unfailed kind) ∙ failed));
    own = omega (arith, same.asks i);
    others = λ j apart. same.asks j;
    after = sym (ap (λ (b : Bool). failed_after b calls) (unfailed kind));
    grows = λ j. omega (arith, same.calls (AsksOf j));
    asked = λ apart. absurd (apart refl);
    nodes = same.nodes;
    links = same.links;
  }

  pub uncounted_step : SamePlan plan plan' → AskStep i false plan plan'
  uncounted_step same = record { own = λ room. omega (arith, same.calls (AsksOf i)); others = λ t apart. same.calls t; there = same.plans.there }
