-- Why an ask of several namenodes has no answer, over any cluster.
use Rattle.std.proofs.Common.{◌≡◌, inl, inr, ℕ, Bool, true, false, cond, List, [], ◌∷◌, ◌++◌, All, Any, Contains, refl, sym, ap, subst, ◌∙◌}
use Rattle.std.specs.Prelude.{Result, Ok, Err, IfErr}
use Rattle.std.proofs.lemmas.Bool.{false≢true}
use Rattle.std.proofs.lemmas.List.Elements.{All-nil, All-cons, All-push, Contains-push}
use Rattle.std.proofs.lemmas.List.Quantifiers.{Any-push}
use Rattle.hdfs_cluster.specs.declared.asks.Ask.{Ask}
use Rattle.hdfs_cluster.specs.declared.asks.Answer.{Answer}
use Rattle.hdfs_cluster.specs.declared.asks.AskFault.{AskFault}
use Rattle.hdfs_cluster.specs.declared.asks.AskFault.TheVariants as faults
use Rattle.hdfs_cluster.specs.declared.errors.HdfsError.TheVariants as errors
use Rattle.hdfs_cluster.specs.Failover.{AsksInOrder, AsksOne, PassedOn, passes_on}
use Rattle.hdfs_cluster.specs.Namenode.{IsFailure, is_taken}
use Rattle.hdfs_cluster.specs.Shown.{Shown, Served, Later}
use Rattle.hdfs_cluster.proofs.Frames.{later_refl, later_trans, rose_since}
use Rattle.hdfs_cluster.proofs.Framing.{asked_leaves, broken_rose, failure_rose}
use Rattle.hdfs_namenode.specs.Asked.{outcome_of}
use Rattle.hdfs_namenode.specs.Relaying.{RoseAt, HasGivenUp, HasNoAnswer, HasPassedOn}

module _ {C : Type 0} (shown : C → Shown) (serves : C → ℕ → Ask → Result Answer AskFault → C → Type 0)
    (rows : (old new : C) (i : ℕ) (ask : Ask) (result : Result Answer AskFault) → serves old i ask result new → Served (shown old) i ask result (shown new))
    (ask : Ask) where
  -- an ask of one namenode is one of an order of which it is all
  alone : (i : ℕ) (t u : C) (given : Result Answer AskFault) → AsksOne serves i ask t given u → AsksInOrder serves (i ∷ []) ask t i given u
  alone i t u given asked = record { front = []; left = []; in_order = refl; mid = t; passed = refl; asked = asked; ends = λ passes. refl }

  later_one : (i : ℕ) (t u : C) (given : Result Answer AskFault) → AsksOne serves i ask t given u → Later (shown t) (shown u)
  later_one i t u given asked = (asked_leaves shown serves rows ask (i ∷ []) i given t u (alone i t u given asked)).0.later

  later_all : (front : List ℕ) (t u : C) → PassedOn serves front ask t u → Later (shown t) (shown u)
  later_all [] t u passed = subst (λ (x : C). Later (shown t) (shown x)) (sym passed) (later_refl (shown t))
  later_all (i ∷ others) t u passed =
      later_trans (shown t) (shown passed.1) (shown u) (later_one i t passed.1 passed.0 passed.2) (later_all others passed.1 u passed.4)

  abbrev GivenUp : C → C → ℕ → Type 0
  GivenUp old new i = HasGivenUp shown serves ask old new i

  passed_on : (i : ℕ) (t u : C) (class message : List ℕ) → passes_on (Err (faults.Exception class message)) ≡ true → AsksOne serves i ask t (Err (faults.Exception class message)) u
      → HasPassedOn shown serves ask t u i
  passed_on i t u class message passes (inl once) = record {
    before = t;
    after = u;
    class = class;
    message = message;
    retriable = passes;
    gave = once.0;
    since = later_refl (shown t);
    until = later_refl (shown u);
  }
  passed_on i t u class message passes (inr twice) = record {
    before = twice.0;
    after = u;
    class = class;
    message = message;
    retriable = passes;
    gave = twice.2;
    since = (rows t twice.0 i ask (Err faults.Broken) twice.1).later;
    until = later_refl (shown u);
  }

  failed_one : (i : ℕ) (t u : C) (given : Result Answer AskFault) → IsFailure given → AsksOne serves i ask t given u → RoseAt (shown t) (shown u) i
  failed_one i t u given fails asked = failure_rose shown serves rows ask (i ∷ []) i given t u fails (alone i t u given asked)

  -- one namenode that passes the ask on
  gave_up : (i : ℕ) (t u : C) (given : Result Answer AskFault) → passes_on given ≡ true → AsksOne serves i ask t given u → GivenUp t u i
  gave_up i t u (Ok answer) passes asked = absurd (false≢true passes)
  gave_up i t u (Err faults.NoMemory) passes asked = absurd (false≢true passes)
  gave_up i t u (Err faults.Broken) passes asked = inr (failed_one i t u (Err faults.Broken) tt asked)
  gave_up i t u (Err (faults.BadReply fault)) passes asked = inr (failed_one i t u (Err (faults.BadReply fault)) tt asked)
  gave_up i t u (Err (faults.Exception class message)) passes asked = inl (passed_on i t u class message passes asked)
  gave_up i t u (Err (faults.Fatal class message)) passes asked = inr (failed_one i t u (Err (faults.Fatal class message)) tt asked)

  -- from an earlier state to a later one
  gave_up_within : (i : ℕ) (a b old new : C) → Later (shown old) (shown a) → Later (shown b) (shown new) → GivenUp a b i → GivenUp old new i
  gave_up_within i a b old new since until (inl on) = inl (record {
    before = on.before;
    after = on.after;
    class = on.class;
    message = on.message;
    retriable = on.retriable;
    gave = on.gave;
    since = later_trans (shown old) (shown a) (shown on.before) since on.since;
    until = later_trans (shown on.after) (shown b) (shown new) on.until until;
  })
  gave_up_within i a b old new since until (inr rose) =
      inr (rose_since ((shown old).counts.calls i) ((shown a).counts.calls i) ((shown b).counts.calls i) ((shown new).counts.calls i) (since.counts.calls i) rose (until.counts.calls i))

  gave_up_all : (front : List ℕ) (a b old new : C) → Later (shown old) (shown a) → Later (shown b) (shown new) → PassedOn serves front ask a b → All (GivenUp old new) front
  gave_up_all [] a b old new since until passed = All-nil (GivenUp old new)
  gave_up_all (i ∷ others) a b old new since until passed =
      let next = later_one i a passed.1 passed.0 passed.2 in
      let rest = later_all others passed.1 b passed.4 in
      All-cons (GivenUp old new) i others
      (gave_up_within i a passed.1 old new since (later_trans (shown passed.1) (shown b) (shown new) rest until) (gave_up i a passed.1 passed.0 passed.3 passed.2))
      (gave_up_all others passed.1 b old new (later_trans (shown old) (shown a) (shown passed.1) since next) until passed.4)

  module _ (order : List ℕ) (old new : C) (last : ℕ) where
    -- where the last one passes the ask on too, it is the last one of the order
    order_ends : (given : Result Answer AskFault) (asks : AsksInOrder serves order ask old last given new) → passes_on given ≡ true → order ≡ asks.front ++ last ∷ []
    order_ends given asks passes = asks.in_order ∙ ap (λ (l : List ℕ). asks.front ++ last ∷ l) (asks.ends passes)

    all_gave_up : (given : Result Answer AskFault) → AsksInOrder serves order ask old last given new → passes_on given ≡ true → All (GivenUp old new) order
    all_gave_up given asks passes =
        subst (λ (l : List ℕ). All (GivenUp old new) l) (sym (order_ends given asks passes))
        (All-push (GivenUp old new) asks.front last
        (gave_up_all asks.front old asks.mid old new (later_refl (shown old)) (later_one last asks.mid new given asks.asked) asks.passed)
        (gave_up_within last asks.mid new old new (later_all asks.front old asks.mid asks.passed) (later_refl (shown new)) (gave_up last asks.mid new given passes asks.asked)))

    has_last : (given : Result Answer AskFault) → AsksInOrder serves order ask old last given new → passes_on given ≡ true → Contains order last
    has_last given asks passes = subst (λ (l : List ℕ). Contains l last) (sym (order_ends given asks passes)) (Contains-push asks.front last)

    some_failed : (given : Result Answer AskFault) → AsksInOrder serves order ask old last given new → passes_on given ≡ true → IsFailure given
        → Any (RoseAt (shown old) (shown new)) order
    some_failed given asks passes fails =
        subst (λ (l : List ℕ). Any (RoseAt (shown old) (shown new)) l) (sym (order_ends given asks passes))
        (Any-push (RoseAt (shown old) (shown new)) asks.front last (failure_rose shown serves rows ask order last given old new fails asks))

    exception_called : (class message : List ℕ) (b : Bool) → HasNoAnswer shown serves order ask old new (cond b (errors.AlreadyExists message) (errors.RPCError class message))
    exception_called class message true = tt
    exception_called class message false = tt

    -- why it has none
    pub no_answer : (given : Result Answer AskFault) → AsksInOrder serves order ask old last given new
        → IfErr (outcome_of last given) (HasNoAnswer shown serves order ask old new)
    no_answer (Ok answer) asks = tt
    no_answer (Err faults.NoMemory) asks = tt
    no_answer (Err faults.Broken) asks =
        (all_gave_up (Err faults.Broken) asks refl, has_last (Err faults.Broken) asks refl, broken_rose shown serves rows ask order last old new asks)
    no_answer (Err (faults.BadReply fault)) asks =
        (all_gave_up (Err (faults.BadReply fault)) asks refl, some_failed (Err (faults.BadReply fault)) asks refl tt)
    no_answer (Err (faults.Exception class message)) asks = exception_called class message (is_taken class)
    no_answer (Err (faults.Fatal class message)) asks =
        (all_gave_up (Err (faults.Fatal class message)) asks refl, some_failed (Err (faults.Fatal class message)) asks refl tt)
