-- Looking for an observer among namenodes.
use Rattle.std.proofs.Common.{◌≡◌, ◌≢◌, ◌⊎◌, inl, inr, ℕ, zero, suc, ◌+◌, ◌-◌, ◌<◌, ◌≤◌, ◌==◌, Bool, true, false, List, [], ◌∷◌, ◌++◌, refl, sym, ◌∙◌, ap, subst, arith}
use Rattle.std.proofs.lemmas.Bool.Decides.{nat_tests}
use Rattle.std.proofs.lemmas.Bool.{false≢true}
use Rattle.std.specs.Prelude.{◌&&◌, not, Result, Ok, Err, IfErr, IfOk, Option, Some, None}
use Rattle.hdfs_cluster.specs.declared.asks.Ask.{Ask}
use Rattle.hdfs_cluster.specs.declared.asks.Ask.TheVariants as asks
use Rattle.hdfs_cluster.specs.declared.asks.Answer.{Answer}
use Rattle.hdfs_cluster.specs.declared.asks.Answer.TheVariants as answers
use Rattle.hdfs_cluster.specs.declared.asks.AskFault.{AskFault}
use Rattle.hdfs_cluster.specs.declared.asks.AskFault.TheVariants as faults
use Rattle.hdfs_cluster.specs.declared.errors.HdfsError.{HdfsError}
use Rattle.hdfs_cluster.specs.declared.errors.HdfsError.TheVariants as errors
use Rattle.hdfs_cluster.specs.Repeating.{Leaves}
use Rattle.hdfs_cluster.specs.Shown.{Shown, Later, Served}
use Rattle.hdfs_cluster.specs.Namenode.{IsShaped}
use Rattle.hdfs_cluster.proofs.Frames.{later_refl}
use Rattle.hdfs_cluster.proofs.Framing.{asked_leaves, leaves_refl, leaves_served, leaves_trans}
use Rattle.hdfs_namenode.specs.Asked.{Asked, AskedInOrder, AskedInStep, AskedObserved, AskedOnce, AskedSynced, AskedUntil, GoesOnBehind, GoesOnWith, LooksFor, NoneObserves, Observes, SyncRefused, SameService, Syncs, Through, forgets, is_observed, is_observer, lacks_memory, needs_sync, numbers_from, order_of}
use Rattle.hdfs_namenode.specs.Observing.{ByObserver, InStep, SyncsFirst, by_observer, is_unanswered, said_by}
use Rattle.hdfs_namenode.specs.Relaying.{HasNoAnswer, LacksAnswer}
use Rattle.hdfs_namenode.proofs.Services.{same_service_refl}

equal_from : (x y : ℕ) → (x == y) ≡ true → x ≡ y
equal_from x y is = grind (arith, nat_tests, is)

-- what a namenode said is so of what it gave
pub said_observer : (given : Result Answer AskFault) → said_by given ≡ Ok true → given ≡ Ok (answers.GetHaServiceState 3)
said_observer (Ok (answers.GetHaServiceState state)) is = ap (λ (s : ℕ). Ok (answers.GetHaServiceState s)) (equal_from state 3 (cc is))
said_observer (Ok answer) is = absurd (false≢true (cc is))
said_observer (Err faults.NoMemory) is = absurd (cc is)
said_observer (Err fault) is = absurd (false≢true (cc is))

pub said_other : (given : Result Answer AskFault) → said_by given ≡ Ok false → (is_observer given ≡ false) × (lacks_memory given ≡ false)
said_other (Ok (answers.GetHaServiceState state)) is = (cc is, refl)
said_other (Ok answer) is = (refl, refl)
said_other (Err faults.NoMemory) is = absurd (cc is)
said_other (Err fault) is = (refl, refl)

pub said_memory : (given : Result Answer AskFault) (error : HdfsError) → said_by given ≡ Err error → (given ≡ Err faults.NoMemory) × (error ≡ errors.NoMemory)
said_memory (Ok (answers.GetHaServiceState state)) error is = absurd (cc is)
said_memory (Ok answer) error is = absurd (cc is)
said_memory (Err faults.NoMemory) error is = (refl, cc is)
said_memory (Err fault) error is = absurd (cc is)

-- so many numbers, one behind them and those that come then
numbers_split : (from k n : ℕ) → numbers_from from (k + suc n) ≡ numbers_from from k ++ (from + k) ∷ numbers_from (from + k + 1) n
numbers_split from zero n =
    let count : 0 + suc n ≡ suc n = omega arith in
    let here : from ≡ from + 0 = omega arith in
    ap (numbers_from from) count ∙ ap (λ (m : ℕ). m ∷ numbers_from (m + 1) n) here
numbers_split from (suc k) n =
    let count : suc k + suc n ≡ suc (k + suc n) = omega arith in
    let there : (from + 1) + k ≡ from + suc k = omega arith in
    ap (numbers_from from) count
    ∙ ap (λ (l : List ℕ). from ∷ l) (numbers_split (from + 1) k n ∙ ap (λ (m : ℕ). numbers_from (from + 1) k ++ m ∷ numbers_from (m + 1) n) there)

pub numbers_at : (from count i : ℕ) → from ≤ i → i < from + count
    → numbers_from from count ≡ numbers_from from (i - from) ++ i ∷ numbers_from (i + 1) (from + count - (i + 1))
numbers_at from count i since below =
    let parts : count ≡ (i - from) + suc (from + count - (i + 1)) = omega (arith, since, below) in
    let here : from + (i - from) ≡ i = omega (arith, since) in
    ap (numbers_from from) parts ∙ numbers_split from (i - from) (from + count - (i + 1))
    ∙ ap (λ (m : ℕ). numbers_from from (i - from) ++ m ∷ numbers_from (m + 1) (from + count - (i + 1))) here

pub numbers_next : (from i : ℕ) → from ≤ i → numbers_from from (i + 1 - from) ≡ numbers_from from (i - from) ++ i ∷ []
numbers_next from i since =
    let more : i + 1 - from ≡ (i - from) + suc 0 = omega (arith, since) in
    let here : from + (i - from) ≡ i = omega (arith, since) in
    ap (numbers_from from) more ∙ numbers_split from (i - from) 0 ∙ ap (λ (m : ℕ). numbers_from from (i - from) ++ m ∷ []) here

module _ {C : Type 0} (serves : C → ℕ → Ask → Result Answer AskFault → C → Type 0) where
  pub none_push : (front : List ℕ) (old mid new : C) (i : ℕ) (given : Result Answer AskFault) → NoneObserves serves front old mid
      → serves mid i asks.GetHaServiceState given new → is_observer given ≡ false → lacks_memory given ≡ false → NoneObserves serves (front ++ i ∷ []) old new
  none_push [] old mid new i given none gave other some =
      (given, new, subst (λ (x : C). serves x i asks.GetHaServiceState given new) none gave, other, some, refl)
  none_push (j ∷ front) old mid new i given none gave other some =
      (none.0, none.1, none.2, none.3, none.4, none_push front none.1 mid new i given none.5 gave other some)

  -- a namenode that ends the looking
  pub until : (from count i : ℕ) (old mid new : C) (given wanted : Result Answer AskFault) → from ≤ i → i < from + count → NoneObserves serves (numbers_from from (i - from)) old mid
      → serves mid i asks.GetHaServiceState given new → given ≡ wanted → AskedUntil serves (numbers_from from count) old i wanted new
  until from count i old mid new given wanted since below none gave is = record {
    front = numbers_from from (i - from);
    left = numbers_from (i + 1) (from + count - (i + 1));
    in_order = numbers_at from count i since below;
    mid = mid;
    none = none;
    gave = subst (λ (g : Result Answer AskFault). serves mid i asks.GetHaServiceState g new) is gave;
  }

-- an ask that goes to an observer first is a read
pub observed_parts : (write observes : Bool) → (not write && observes) ≡ true → (write ≡ false) × (observes ≡ true)
observed_parts true observes on = absurd (false≢true on)
observed_parts false observes on = (refl, on)

module _ {C : Type 0} (serves : C → ℕ → Ask → Result Answer AskFault → C → Type 0) (write : Bool) (ask : Ask) where
  -- an msync was refused
  pub asked_refused : (old new : Through C) (error : HdfsError) → SyncsFirst serves write old (Err error) new → Asked serves write ask old (Err error) new
  asked_refused old new error syncs = record {
    in_step = λ off. absurd (cc (syncs.unneeded off).0);
    synced = λ on. inr (record { error = error; asked = syncs.needed on; is = refl });
  }

  -- it was answered, or none was needed
  pub asked_behind : (old mid : Through C) (ok : Unit {0}) (outcome : Result Answer HdfsError) (new : Through C) → SyncsFirst serves write old (Ok ok) mid
      → AskedInStep serves write ask mid outcome new → Asked serves write ask old outcome new
  asked_behind old mid ok outcome new syncs step = record {
    in_step = λ off. subst (λ (t : Through C). AskedInStep serves write ask t outcome new) (syncs.unneeded off).1 step;
    synced = λ on. inl (record { mid = mid; syncs = syncs.needed on; in_step = step });
  }

  -- the namenodes were asked in order
  pub step_in_order : (old : Through C) (outcome : Result Answer HdfsError) (new : Through C) → is_observed write old.proxy ≡ false
      → AskedInOrder serves write ask old outcome new → AskedInStep serves write ask old outcome new
  step_in_order old outcome new off asked = record { observed = λ on. absurd (false≢true (sym off ∙ on)); in_order = λ h. asked }

  -- an observer came first
  pub step_observed : (old : Through C) (outcome : Result Answer HdfsError) (new : Through C) → is_observed write old.proxy ≡ true
      → AskedObserved serves ask old outcome new → AskedInStep serves write ask old outcome new
  step_observed old outcome new on asked = record { observed = λ h. asked; in_order = λ off. absurd (false≢true (sym off ∙ on)) }

  -- what came of an ask of an observer is so of one that goes to one first
  pub by_step : (old mid : Through C) (result : Result (Option Answer) HdfsError) → is_observed write old.proxy ≡ true → ByObserver serves ask old result mid
      → InStep serves write ask old result mid
  by_step old mid (Ok (Some answer)) on asked = step_observed old (Ok answer) mid on asked
  by_step old mid (Ok None) on asked = λ outcome new ordered.
      step_observed old outcome new on
      (asked outcome new (subst (λ (w : Bool). AskedInOrder serves w ask mid outcome new) (observed_parts write old.proxy.find_observer on).0 ordered))
  by_step old mid (Err error) on asked = step_observed old (Err error) mid on asked

  -- it doesn't go to one
  pub by_order : (old : Through C) → is_observed write old.proxy ≡ false → InStep serves write ask old (Ok None) old
  by_order old off = λ outcome new ordered. step_in_order old outcome new off ordered

module _ {C : Type 0} (shown : C → Shown) (serves : C → ℕ → Ask → Result Answer AskFault → C → Type 0) (ask : Ask) (old : Through C) (new : C) where
  -- there was no memory for an ask
  pub lacks_for_memory : (error : HdfsError) → error ≡ errors.NoMemory → LacksAnswer shown serves ask old new error
  lacks_for_memory error memory = record {
    from = old;
    service = same_service_refl old.proxy;
    later = later_refl (shown old.cluster);
    asked = ask;
    is = inl refl;
    none = subst (λ (e : HdfsError). HasNoAnswer shown serves (order_of old.proxy) ask old.cluster new e) (sym memory) tt;
  }

  -- the msync had no answer
  pub lacks_sync : (error : HdfsError) → HasNoAnswer shown serves (order_of old.proxy) asks.Msync old.cluster new error → LacksAnswer shown serves ask old new error
  lacks_sync error none = record {
    from = old;
    service = same_service_refl old.proxy;
    later = later_refl (shown old.cluster);
    asked = asks.Msync;
    is = inr refl;
    none = none;
  }

  -- the namenodes were asked, and gave none
  pub lacks_behind : (from : Through C) → SameService old.proxy from.proxy → Later (shown old.cluster) (shown from.cluster) → (outcome : Result Answer HdfsError)
      → IfErr outcome (HasNoAnswer shown serves (order_of from.proxy) ask from.cluster new) → IfErr outcome (LacksAnswer shown serves ask old new)
  lacks_behind from same later (Ok answer) none = tt
  lacks_behind from same later (Err error) none = record { from = from; service = same; later = later; asked = ask; is = inl refl; none = none }

module _ {C : Type 0} (serves : C → ℕ → Ask → Result Answer AskFault → C → Type 0) (ask : Ask) (old mid : Through C) where
  -- what an observer gave decides
  pub observer_gave : (i : ℕ) (given : Result Answer AskFault) (between : C) → Observes serves old.proxy.observer old (Ok (Some i)) mid
      → serves mid.cluster i ask given between → IfOk given (IsShaped ask) → (outcome : Result Answer HdfsError) (new : Through C)
      → GoesOnBehind serves ask given (record { cluster = between; proxy = mid.proxy }) outcome new → AskedObserved serves ask old outcome new
  observer_gave i given between observes gave shaped outcome new behind = record {
    found = Ok (Some i);
    mid = mid;
    observes = observes;
    goes_on = record { given = given; between = between; gave = gave; shaped = shaped; goes_on = behind };
  }

  -- none was found
  pub none_observes : Observes serves old.proxy.observer old (Ok None) mid → ByObserver serves ask old (Ok None) mid
  none_observes observes = λ outcome new asked. record { found = Ok None; mid = mid; observes = observes; goes_on = asked }

  -- there was no memory for looking
  pub looking_fails : (error : HdfsError) → Observes serves old.proxy.observer old (Err error) mid → ByObserver serves ask old (Err error) mid
  looking_fails error observes = record { found = Err error; mid = mid; observes = observes; goes_on = (refl, refl) }

  -- behind a fault that is no want of memory the namenodes are asked
  pub observer_failed : (i : ℕ) (fault : AskFault) (between : C) → fault ≢ faults.NoMemory → Observes serves old.proxy.observer old (Ok (Some i)) mid
      → serves mid.cluster i ask (Err fault) between → ByObserver serves ask old (Ok None) (forgets (record { cluster = between; proxy = mid.proxy }))
  observer_failed i fault between some observes gave =
      λ outcome new asked. observer_gave i (Err fault) between observes gave tt outcome new (behind fault some outcome new asked)
    where
      behind : (fault : AskFault) → fault ≢ faults.NoMemory → (outcome : Result Answer HdfsError) (new : Through C)
          → AskedInOrder serves false ask (forgets (record { cluster = between; proxy = mid.proxy })) outcome new
          → GoesOnBehind serves ask (Err fault) (record { cluster = between; proxy = mid.proxy }) outcome new
      behind faults.NoMemory some outcome new asked = absurd (some refl)
      behind faults.Broken some outcome new asked = asked
      behind (faults.BadReply fault) some outcome new asked = asked
      behind (faults.Exception class message) some outcome new asked = asked
      behind (faults.Fatal class message) some outcome new asked = asked

  -- what it gave is no answer
  pub gave_none : (i : ℕ) (given : Result Answer AskFault) (between : C) → Observes serves old.proxy.observer old (Ok (Some i)) mid
      → serves mid.cluster i ask given between → (answered : Result (Option Answer) HdfsError) → answered ≡ by_observer given → is_unanswered answered ≡ true
      → ByObserver serves ask old answered (forgets (record { cluster = between; proxy = mid.proxy }))
  gave_none i given between observes gave answered is none = subst (λ (x : Result (Option Answer) HdfsError). ByObserver serves ask old x (forgets (record { cluster = between; proxy = mid.proxy }))) (sym is)
      (by given gave (ap is_unanswered (sym is) ∙ none))
    where
      by : (given : Result Answer AskFault) → serves mid.cluster i ask given between → is_unanswered (by_observer given) ≡ true
          → ByObserver serves ask old (by_observer given) (forgets (record { cluster = between; proxy = mid.proxy }))
      by (Ok answer) gave none = absurd (false≢true none)
      by (Err faults.NoMemory) gave none = absurd (false≢true none)
      by (Err faults.Broken) gave none = observer_failed i faults.Broken between (λ same. absurd (cc same)) observes gave
      by (Err (faults.BadReply fault)) gave none = observer_failed i (faults.BadReply fault) between (λ same. absurd (cc same)) observes gave
      by (Err (faults.Exception class message)) gave none = observer_failed i (faults.Exception class message) between (λ same. absurd (cc same)) observes gave
      by (Err (faults.Fatal class message)) gave none = observer_failed i (faults.Fatal class message) between (λ same. absurd (cc same)) observes gave

  -- it is one, or there was no memory
  pub gave_answer : (i : ℕ) (given : Result Answer AskFault) (between : C) → Observes serves old.proxy.observer old (Ok (Some i)) mid
      → serves mid.cluster i ask given between → IfOk given (IsShaped ask) → (answered : Result (Option Answer) HdfsError) → answered ≡ by_observer given
      → is_unanswered answered ≡ false → ByObserver serves ask old answered (record { cluster = between; proxy = mid.proxy })
  gave_answer i given between observes gave shaped answered is some = subst (λ (x : Result (Option Answer) HdfsError). ByObserver serves ask old x (record { cluster = between; proxy = mid.proxy })) (sym is)
      (by given gave shaped (ap is_unanswered (sym is) ∙ some))
    where
      by : (given : Result Answer AskFault) → serves mid.cluster i ask given between → IfOk given (IsShaped ask) → is_unanswered (by_observer given) ≡ false
          → ByObserver serves ask old (by_observer given) (record { cluster = between; proxy = mid.proxy })
      by (Ok answer) gave shaped some = observer_gave i (Ok answer) between observes gave shaped (Ok answer) (record { cluster = between; proxy = mid.proxy }) (refl, refl)
      by (Err faults.NoMemory) gave shaped some =
          observer_gave i (Err faults.NoMemory) between observes gave tt (Err errors.NoMemory) (record { cluster = between; proxy = mid.proxy }) (refl, refl)
      by (Err faults.Broken) gave shaped some = absurd (false≢true (sym some))
      by (Err (faults.BadReply fault)) gave shaped some = absurd (false≢true (sym some))
      by (Err (faults.Exception class message)) gave shaped some = absurd (false≢true (sym some))
      by (Err (faults.Fatal class message)) gave shaped some = absurd (false≢true (sym some))

-- Whatever was asked, links and bytes are left as they were, and no count fell.
module _ {C : Type 0} (shown : C → Shown) (serves : C → ℕ → Ask → Result Answer AskFault → C → Type 0)
    (rows : (old new : C) (i : ℕ) (ask : Ask) (result : Result Answer AskFault) → serves old i ask result new → Served (shown old) i ask result (shown new)) where
  in_order_leaves : (write : Bool) (ask : Ask) (old : Through C) (outcome : Result Answer HdfsError) (new : Through C) → AskedInOrder serves write ask old outcome new
      → Leaves (shown old.cluster) (shown new.cluster)
  in_order_leaves write ask old outcome new asked =
      (asked_leaves shown serves rows ask (order_of old.proxy) asked.last asked.given old.cluster new.cluster asked.asks).0

  none_leaves : (order : List ℕ) (old new : C) → NoneObserves serves order old new → Leaves (shown old) (shown new)
  none_leaves [] old new none = subst (λ (x : C). Leaves (shown old) (shown x)) (sym none) (leaves_refl (shown old))
  none_leaves (i ∷ others) old new none =
      leaves_trans (shown old) (shown none.1) (shown new) (leaves_served (shown old) (shown none.1) i asks.GetHaServiceState none.0 (rows old none.1 i asks.GetHaServiceState none.0 none.2)) (none_leaves others none.1 new none.5)

  until_leaves : (order : List ℕ) (old : C) (i : ℕ) (given : Result Answer AskFault) (new : C) → AskedUntil serves order old i given new → Leaves (shown old) (shown new)
  until_leaves order old i given new asked =
      leaves_trans (shown old) (shown asked.mid) (shown new) (none_leaves asked.front old asked.mid asked.none) (leaves_served (shown asked.mid) (shown new) i asks.GetHaServiceState given (rows asked.mid new i asks.GetHaServiceState given asked.gave))

  pub looks_leaves : (order : List ℕ) (old : C) (found : Result (Option ℕ) HdfsError) (new : C) → LooksFor serves order old found new → Leaves (shown old) (shown new)
  looks_leaves order old (Ok None) new looks = none_leaves order old new looks
  looks_leaves order old (Ok (Some i)) new looks = until_leaves order old i (Ok (answers.GetHaServiceState 3)) new looks
  looks_leaves order old (Err error) new looks = until_leaves order old looks.1 (Err faults.NoMemory) new looks.2

  observes_leaves : (known : Option ℕ) (old : Through C) (found : Result (Option ℕ) HdfsError) (new : Through C) → Observes serves known old found new
      → Leaves (shown old.cluster) (shown new.cluster)
  observes_leaves (Some i) old found new observes = subst (λ (t : Through C). Leaves (shown old.cluster) (shown t.cluster)) (sym observes.1) (leaves_refl (shown old.cluster))
  observes_leaves None old found new observes = looks_leaves (numbers_from old.proxy.first old.proxy.count) old.cluster found new.cluster observes.0

  behind_leaves : (ask : Ask) (given : Result Answer AskFault) (old : Through C) (outcome : Result Answer HdfsError) (new : Through C) → GoesOnBehind serves ask given old outcome new
      → Leaves (shown old.cluster) (shown new.cluster)
  behind_leaves ask (Ok answer) old outcome new goes = subst (λ (t : Through C). Leaves (shown old.cluster) (shown t.cluster)) (sym goes.1) (leaves_refl (shown old.cluster))
  behind_leaves ask (Err faults.NoMemory) old outcome new goes =
      subst (λ (t : Through C). Leaves (shown old.cluster) (shown t.cluster)) (sym goes.1) (leaves_refl (shown old.cluster))
  behind_leaves ask (Err faults.Broken) old outcome new goes = in_order_leaves false ask (forgets old) outcome new goes
  behind_leaves ask (Err (faults.BadReply fault)) old outcome new goes = in_order_leaves false ask (forgets old) outcome new goes
  behind_leaves ask (Err (faults.Exception class message)) old outcome new goes = in_order_leaves false ask (forgets old) outcome new goes
  behind_leaves ask (Err (faults.Fatal class message)) old outcome new goes = in_order_leaves false ask (forgets old) outcome new goes

  with_leaves : (ask : Ask) (found : Result (Option ℕ) HdfsError) (old : Through C) (outcome : Result Answer HdfsError) (new : Through C) → GoesOnWith serves ask found old outcome new
      → Leaves (shown old.cluster) (shown new.cluster)
  with_leaves ask (Ok (Some i)) old outcome new goes =
      leaves_trans (shown old.cluster) (shown goes.between) (shown new.cluster) (leaves_served (shown old.cluster) (shown goes.between) i ask goes.given (rows old.cluster goes.between i ask goes.given goes.gave))
      (behind_leaves ask goes.given (record { cluster = goes.between; proxy = old.proxy }) outcome new goes.goes_on)
  with_leaves ask (Ok None) old outcome new goes = in_order_leaves false ask old outcome new goes
  with_leaves ask (Err error) old outcome new goes = subst (λ (t : Through C). Leaves (shown old.cluster) (shown t.cluster)) (sym goes.1) (leaves_refl (shown old.cluster))

  step_leaves : (write : Bool) (ask : Ask) (old : Through C) (outcome : Result Answer HdfsError) (new : Through C) → AskedInStep serves write ask old outcome new
      → Leaves (shown old.cluster) (shown new.cluster)
  step_leaves write ask old outcome new step = by (is_observed write old.proxy) refl
    where
      by : (b : Bool) → is_observed write old.proxy ≡ b → Leaves (shown old.cluster) (shown new.cluster)
      by true is =
          let o = step.observed is in
          leaves_trans (shown old.cluster) (shown o.mid.cluster) (shown new.cluster) (observes_leaves old.proxy.observer old o.found o.mid o.observes)
          (with_leaves ask o.found o.mid outcome new o.goes_on)
      by false is = in_order_leaves write ask old outcome new (step.in_order is)

  -- the msync too
  pub syncs_leaves : (old mid : Through C) → Syncs serves old mid → Leaves (shown old.cluster) (shown mid.cluster)
  syncs_leaves old mid syncs =
      subst (λ (x : C). Leaves (shown old.cluster) (shown x)) (sym syncs.cluster)
      (in_order_leaves true asks.Msync old (Ok syncs.answer) syncs.behind syncs.asked)

  synced_leaves : (write : Bool) (ask : Ask) (old : Through C) (outcome : Result Answer HdfsError) (new : Through C)
      → AskedSynced serves write ask old outcome new ⊎ SyncRefused serves old outcome new → Leaves (shown old.cluster) (shown new.cluster)
  synced_leaves write ask old outcome new (inl went) =
      leaves_trans (shown old.cluster) (shown went.mid.cluster) (shown new.cluster) (syncs_leaves old went.mid went.syncs)
      (step_leaves write ask went.mid outcome new went.in_step)
  synced_leaves write ask old outcome new (inr refused) = in_order_leaves true asks.Msync old (Err refused.error) new refused.asked

  pub all_leaves : (write : Bool) (ask : Ask) (old : Through C) (outcome : Result Answer HdfsError) (new : Through C) → Asked serves write ask old outcome new
      → Leaves (shown old.cluster) (shown new.cluster)
  all_leaves write ask old outcome new asked = by (needs_sync write old.proxy) refl
    where
      by : (b : Bool) → needs_sync write old.proxy ≡ b → Leaves (shown old.cluster) (shown new.cluster)
      by true is = synced_leaves write ask old outcome new (asked.synced is)
      by false is = step_leaves write ask old outcome new (asked.in_step is)

  -- one ask, or no memory for it
  pub once_leaves : (write : Bool) (ask : Ask) (old : Through C) (outcome : Result Answer HdfsError) (new : Through C) → AskedOnce serves write ask old outcome new
      → Leaves (shown old.cluster) (shown new.cluster)
  once_leaves write ask old outcome new (inl asked) = all_leaves write ask old outcome new asked
  once_leaves write ask old outcome new (inr none) =
      subst (λ (t : Through C). Leaves (shown old.cluster) (shown t.cluster)) (sym none.same) (leaves_refl (shown old.cluster))

  pub asked_later : (write : Bool) (ask : Ask) (old : Through C) (outcome : Result Answer HdfsError) (new : Through C) → Asked serves write ask old outcome new
      → Later (shown old.cluster) (shown new.cluster)
  asked_later write ask old outcome new asked = (all_leaves write ask old outcome new asked).later
