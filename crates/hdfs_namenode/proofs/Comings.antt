-- What an ask of any service comes to, as the service sees it.
use Rattle.std.proofs.Common.{◌≡◌, ◌⊎◌, inl, inr, ℕ, zero, suc, ◌+◌, ◌<◌, ◌≤◌, ◌==◌, Bool, true, false, cond, List, [], ◌∷◌, ◌++◌, Option, Some, None, refl, sym, ◌∙◌, ap, subst, arith}
use Rattle.std.proofs.lemmas.Bool.{false≢true}
use Rattle.std.specs.Prelude.{IfSome, Result, Ok, Err, IfOk, IfErr}
use Rattle.hdfs_cluster.specs.declared.asks.Ask.{Ask}
use Rattle.hdfs_cluster.specs.declared.asks.Ask.TheVariants as asks
use Rattle.hdfs_cluster.specs.declared.asks.Answer.{Answer}
use Rattle.hdfs_cluster.specs.declared.asks.AskFault.{AskFault}
use Rattle.hdfs_cluster.specs.declared.asks.AskFault.TheVariants as faults
use Rattle.hdfs_cluster.specs.declared.errors.HdfsError.{HdfsError}
use Rattle.hdfs_cluster.specs.declared.errors.HdfsError.TheVariants as errors
use Rattle.hdfs_cluster.specs.Counts.{Rose, RoseTwice}
use Rattle.hdfs_cluster.specs.Failover.{AsksInOrder, numbers_but}
use Rattle.hdfs_cluster.specs.Namenode.{IsShaped}
use Rattle.hdfs_cluster.specs.Picture.{Picture}
use Rattle.hdfs_cluster.specs.Repeating.{Leaves}
use Rattle.hdfs_cluster.specs.Shown.{Shown, Served}
use Rattle.hdfs_cluster.proofs.Failures.{means_since}
use Rattle.hdfs_cluster.proofs.Framing.{asked_leaves, broken_rose, each_asked, failure_rose, leaves_refl, leaves_served, leaves_trans}
use Rattle.hdfs_cluster.proofs.Ordering.{order_has}
use Rattle.hdfs_namenode.specs.Asked.{Asked, AskedInOrder, AskedInStep, AskedObserved, AskedSynced, GoesOnBehind, GoesOnWith, IsServiceOf, LooksFor, Observes, SameService, SyncRefused, Syncs, Through, forgets, is_observed, knows, needs_sync, numbers_from, order_of, remembers}
use Rattle.hdfs_namenode.specs.Relaying.{Came, Relays}
use Rattle.hdfs_namenode.specs.Views.{View, Whole, OfService, HasView, Seen, see}
use Rattle.hdfs_namenode.specs.declared.proxy.NameServiceProxy.{NameServiceProxy}
use Rattle.hdfs_namenode.proofs.Observers.{looks_leaves, observed_parts, syncs_leaves}
use Rattle.hdfs_namenode.proofs.Relayed.{relayed_told, relays_given}
use Rattle.hdfs_namenode.proofs.Seeing.{asks_seen, call_seen, leaves_seen, view_later}
use Rattle.hdfs_namenode.proofs.Services.{same_service_refl, same_service_trans, service_later}

-- a number is one of those from here to there, and so are all of these
abbrev Own : ℕ → ℕ → List ℕ → Type 0
Own first end [] = Unit {0}
Own first end (i ∷ others) = ((first ≤ i) × (i < end)) × Own first end others

own_at : (first end : ℕ) (front : List ℕ) (i : ℕ) (left : List ℕ) → Own first end (front ++ i ∷ left) → (first ≤ i) × (i < end)
own_at first end [] i left own = own.0
own_at first end (j ∷ front) i left own = own_at first end front i left own.1

numbers_own : (first end from count : ℕ) → first ≤ from → from + count ≤ end → Own first end (numbers_from from count)
numbers_own first end from zero low high = tt
numbers_own first end from (suc count) low high = ((low, omega (arith, high)), numbers_own first end (from + 1) count (omega (arith, low)) (omega (arith, high)))

numbers_but_own : (first end without from count : ℕ) → first ≤ from → from + count ≤ end → Own first end (numbers_but without from count)
numbers_but_own first end without from zero low high = tt
numbers_but_own first end without from (suc count) low high =
    by (from == without) (numbers_but_own first end without (from + 1) count (omega (arith, low)) (omega (arith, high)))
  where
    by : (b : Bool) → Own first end (numbers_but without (from + 1) count)
        → Own first end (cond b (numbers_but without (from + 1) count) (from ∷ numbers_but without (from + 1) count))
    by true later = later
    by false later = ((low, omega (arith, high)), later)

-- a number is one of a service's namenodes
abbrev IsOwn : NameServiceProxy → ℕ → Type 0
IsOwn proxy i = (proxy.first ≤ i) × (i < proxy.first + proxy.count)

-- a namenode that it asks is one of its own
last_own : (proxy : NameServiceProxy) (s : Shown) → IsServiceOf proxy s → (front : List ℕ) (last : ℕ) (left : List ℕ) → order_of proxy ≡ front ++ last ∷ left → IsOwn proxy last
last_own proxy s of front last left is =
    let end = proxy.first + proxy.count in
    own_at proxy.first end front last left
    (subst (Own proxy.first end) is ((of.from, of.below), numbers_but_own proxy.first end proxy.remembered proxy.first proxy.count (omega arith) (omega arith)))

own_same : (proxy proxy' : NameServiceProxy) → SameService proxy proxy' → (found : Result (Option ℕ) HdfsError) → IfOk found (λ known. IfSome known (IsOwn proxy))
    → IfOk found (λ known. IfSome known (IsOwn proxy'))
own_same proxy proxy' same (Ok (Some i)) own = (omega (arith, own.0, same.first), omega (arith, own.1, same.first, same.count))
own_same proxy proxy' same (Ok None) own = tt
own_same proxy proxy' same (Err error) own = tt

-- what a service remembers, knows and forgets leaves it the service that it was
remembers_same : (write : Bool) (last : ℕ) (given : Result Answer AskFault) (proxy : NameServiceProxy) → IsOwn proxy last → SameService proxy (remembers write last given proxy)
remembers_same true last (Ok answer) proxy own = record {
  first = refl;
  count = refl;
  aligned = refl;
  find_observer = refl;
  plain = λ plain. record { apart = plain.apart; unobserved = plain.unobserved; unknown = plain.unknown };
  within = λ s of. record { within = of.within; from = own.0; below = own.1; observer = of.observer };
}
remembers_same true last (Err fault) proxy own = same_service_refl proxy
remembers_same false last given proxy own = same_service_refl proxy

synced_same : (proxy : NameServiceProxy) → SameService proxy (record proxy { synced = true })
synced_same proxy = record {
  first = refl;
  count = refl;
  aligned = refl;
  find_observer = refl;
  plain = λ plain. record { apart = plain.apart; unobserved = plain.unobserved; unknown = plain.unknown };
  within = λ s of. record { within = of.within; from = of.from; below = of.below; observer = of.observer };
}

forgets_same : (proxy : NameServiceProxy) → SameService proxy (record proxy { observer = None })
forgets_same proxy = record {
  first = refl;
  count = refl;
  aligned = refl;
  find_observer = refl;
  plain = λ plain. record { apart = plain.apart; unobserved = plain.unobserved; unknown = refl };
  within = λ s of. record { within = of.within; from = of.from; below = of.below; observer = tt };
}

knows_same : (proxy : NameServiceProxy) (found : Result (Option ℕ) HdfsError) → proxy.find_observer ≡ true → IfOk found (λ known. IfSome known (IsOwn proxy))
    → SameService proxy (knows found proxy)
knows_same proxy (Ok (Some i)) observes own = record {
  first = refl;
  count = refl;
  aligned = refl;
  find_observer = refl;
  plain = λ plain. absurd (false≢true (sym plain.unobserved ∙ observes));
  within = λ s of. record { within = of.within; from = of.from; below = of.below; observer = own };
}
knows_same proxy (Ok None) observes own = forgets_same proxy
knows_same proxy (Err error) observes own = same_service_refl proxy

module _ {C : Type 0} (serves : C → ℕ → Ask → Result Answer AskFault → C → Type 0) where
  -- an observer that was found is one of the service's namenodes
  found_own : (proxy : NameServiceProxy) (old : C) (found : Result (Option ℕ) HdfsError) (new : C) → LooksFor serves (numbers_from proxy.first proxy.count) old found new
      → IfOk found (λ known. IfSome known (IsOwn proxy))
  found_own proxy old (Ok (Some i)) new looks =
      let end = proxy.first + proxy.count in
      own_at proxy.first end looks.front i looks.left (subst (Own proxy.first end) looks.in_order (numbers_own proxy.first end proxy.first proxy.count (omega arith) (omega arith)))
  found_own proxy old (Ok None) new looks = tt
  found_own proxy old (Err error) new looks = tt

  -- that none was comes from want of memory alone
  found_memory : (order : List ℕ) (old : C) (found : Result (Option ℕ) HdfsError) (new : C) → LooksFor serves order old found new
      → IfErr found (λ error. error ≡ errors.NoMemory)
  found_memory order old (Ok (Some i)) new looks = tt
  found_memory order old (Ok None) new looks = tt
  found_memory order old (Err error) new looks = looks.0

  -- a service that was brought into step
  syncs_same : (old mid : Through C) (s : Shown) → IsServiceOf old.proxy s → Syncs serves old mid → SameService old.proxy mid.proxy
  syncs_same old mid s of syncs =
      let asked = syncs.asked in
      let own = last_own old.proxy s of asked.asks.front asked.last asked.asks.left asked.asks.in_order in
      let behind = subst (λ (p : NameServiceProxy). SameService old.proxy p) (sym asked.remembered) (remembers_same true asked.last asked.given old.proxy own) in
      subst (λ (p : NameServiceProxy). SameService old.proxy p) (sym syncs.synced)
      (same_service_trans old.proxy syncs.behind.proxy (record syncs.behind.proxy { synced = true }) behind (synced_same syncs.behind.proxy))

-- what an ask came to since a later moment it came to since an earlier one, from which nothing else was done than asking
relays_since : (a b c : Shown) (ask : Ask) (result : Result Answer HdfsError) → Leaves a b → Relays b ask result c → Relays a ask result c
relays_since a b c ask (Ok answer) f r = record {
  leaves = leaves_trans a b c f r.leaves;
  shaped = r.shaped;
  tells = tt;
  fine = r.fine;
  denied = λ no. (let d = r.denied no in (d.0, d.1, omega (arith, f.later.counts.calls d.0, d.2)));
}
relays_since a b c ask (Err error) f r = record {
  leaves = leaves_trans a b c f r.leaves;
  shaped = tt;
  tells = (r.tells.0, means_since a b c error f.later.counts r.tells.1);
  fine = tt;
  denied = tt;
}

-- an error is as much one of another ask
relays_error : (a b : Shown) (ask other : Ask) (error : HdfsError) → Relays a ask (Err error) b → Relays a other (Err error) b
relays_error a b ask other error r = record { leaves = r.leaves; shaped = tt; tells = r.tells; fine = tt; denied = tt }

-- want of memory means nothing
relays_memory : (a b : Shown) (ask : Ask) (result : Result Answer HdfsError) → Leaves a b → result ≡ Err errors.NoMemory → Relays a ask result b
relays_memory a b ask result leaves is =
    subst (λ (r : Result Answer HdfsError). Relays a ask r b) (sym is) (record { leaves = leaves; shaped = tt; tells = (tt, (tt, tt)); fine = tt; denied = tt })

module _ {C : Type 0} (shown : C → Shown) (serves : C → ℕ → Ask → Result Answer AskFault → C → Type 0)
    (rows : (old new : C) (i : ℕ) (ask : Ask) (result : Result Answer AskFault) → serves old i ask result new → Served (shown old) i ask result (shown new))
    (view : View) where
  -- as it is seen
  abbrev seen : C → Shown
  seen c = see view (shown c)

  -- a count of the namenode that rose is seen to rise
  rose_seen : (proxy : NameServiceProxy) (s : Shown) → HasView proxy s view → (a b : C) (i : ℕ) → proxy.first ≤ i → i < proxy.first + proxy.count
      → Rose ((shown a).counts.calls i) ((shown b).counts.calls i) → Rose ((seen a).counts.calls i) ((seen b).counts.calls i)
  rose_seen proxy s has a b i low high rose =
      subst (λ (n : ℕ). Rose n ((seen b).counts.calls i)) (sym (call_seen proxy s view has (shown a).counts.calls i low high))
      (subst (λ (n : ℕ). Rose ((shown a).counts.calls i) n) (sym (call_seen proxy s view has (shown b).counts.calls i low high)) rose)

  twice_seen : (proxy : NameServiceProxy) (s : Shown) → HasView proxy s view → (a b : C) (i : ℕ) → proxy.first ≤ i → i < proxy.first + proxy.count
      → RoseTwice ((shown a).counts.calls i) ((shown b).counts.calls i) → RoseTwice ((seen a).counts.calls i) ((seen b).counts.calls i)
  twice_seen proxy s has a b i low high rose =
      subst (λ (n : ℕ). RoseTwice n ((seen b).counts.calls i)) (sym (call_seen proxy s view has (shown a).counts.calls i low high))
      (subst (λ (n : ℕ). RoseTwice ((shown a).counts.calls i) n) (sym (call_seen proxy s view has (shown b).counts.calls i low high)) rose)

  module _ (write : Bool) (ask : Ask) (old : Through C) (outcome : Result Answer HdfsError) (new : Through C) (of : IsServiceOf old.proxy (shown old.cluster))
      (has : HasView old.proxy (shown old.cluster) view) where
    -- the namenodes were asked in order
    in_order_relays : AskedInOrder serves write ask old outcome new → Relays (seen old.cluster) ask outcome (seen new.cluster)
    in_order_relays asked =
        let order = order_of old.proxy in
        let left = asked_leaves shown serves rows ask order asked.last asked.given old.cluster new.cluster asked.asks in
        let own = last_own old.proxy (shown old.cluster) of asked.asks.front asked.last asked.asks.left asked.asks.in_order in
        subst (λ (r : Result Answer HdfsError). Relays (seen old.cluster) ask r (seen new.cluster)) (sym asked.is)
        (relays_given (seen old.cluster) (seen new.cluster) ask asked.last asked.given (leaves_seen view (shown old.cluster) (shown new.cluster) left.0) asked.shaped left.1
        (omega (arith, own.1, of.within, left.0.later.namenodes))
        (λ fails. rose_seen old.proxy (shown old.cluster) has old.cluster new.cluster asked.last own.0 own.1
        (failure_rose shown serves rows ask order asked.last asked.given old.cluster new.cluster fails asked.asks))
        (λ broken. twice_seen old.proxy (shown old.cluster) has old.cluster new.cluster asked.last own.0 own.1
        (broken_rose shown serves rows ask order asked.last old.cluster new.cluster
        (subst (λ (g : Result Answer AskFault). AsksInOrder serves order ask old.cluster asked.last g new.cluster) broken asked.asks)))
        (λ passes i below. asks_seen old.proxy (shown old.cluster) view has (shown old.cluster).counts.asks (shown new.cluster).counts.asks
        (λ k low high. each_asked shown serves rows ask order asked.last asked.given old.cluster new.cluster passes asked.asks k
        (order_has old.proxy.remembered old.proxy.first old.proxy.count k low high)) i (omega (arith, below, left.0.later.namenodes))))

  -- an observer gave this, which decides
  gave_relays : (ask : Ask) (i : ℕ) (given : Result Answer AskFault) (old : Through C) (between : C) (outcome : Result Answer HdfsError) (new : Through C)
      → IsServiceOf old.proxy (shown old.cluster) → HasView old.proxy (shown old.cluster) view → old.proxy.first ≤ i → i < old.proxy.first + old.proxy.count
      → serves old.cluster i ask given between → IfOk given (IsShaped ask) → GoesOnBehind serves ask given (record { cluster = between; proxy = old.proxy }) outcome new
      → Relays (seen old.cluster) ask outcome (seen new.cluster)
  gave_relays ask i given old between outcome new of has low high gave shaped goes = by given gave shaped goes
    where
      left : (given : Result Answer AskFault) → serves old.cluster i ask given between → Leaves (shown old.cluster) (shown between)
      left given gave = leaves_served (shown old.cluster) (shown between) i ask given (rows old.cluster between i ask given gave)

      -- it gave no answer, and the namenodes were asked
      others : (given : Result Answer AskFault) → serves old.cluster i ask given between → AskedInOrder serves false ask (forgets (record { cluster = between; proxy = old.proxy })) outcome new
          → Relays (seen old.cluster) ask outcome (seen new.cluster)
      others given gave asked =
          let leaves = left given gave in
          relays_since (seen old.cluster) (seen between) (seen new.cluster) ask outcome (leaves_seen view (shown old.cluster) (shown between) leaves)
          (in_order_relays false ask (forgets (record { cluster = between; proxy = old.proxy })) outcome new (service_later old.proxy (record old.proxy { observer = None }) (shown old.cluster) (shown between) (forgets_same old.proxy) leaves.later of)
          (view_later view old.proxy (record old.proxy { observer = None }) (shown old.cluster) (shown between) (forgets_same old.proxy) leaves.later has) asked)

      by : (given : Result Answer AskFault) → serves old.cluster i ask given between → IfOk given (IsShaped ask) → GoesOnBehind serves ask given (record { cluster = between; proxy = old.proxy }) outcome new
          → Relays (seen old.cluster) ask outcome (seen new.cluster)
      by (Ok answer) gave shaped goes =
          let row = rows old.cluster between i ask (Ok answer) gave in
          let leaves = left (Ok answer) gave in
          subst (λ (r : Result Answer HdfsError). Relays (seen old.cluster) ask r (seen new.cluster)) (sym goes.0)
          (subst (λ (t : Through C). Relays (seen old.cluster) ask (Ok answer) (seen t.cluster)) (sym goes.1) (record {
            leaves = leaves_seen view (shown old.cluster) (shown between) leaves;
            shaped = shaped;
            tells = tt;
            fine = row.last;
            denied = λ no. (
              i,
              omega (arith, high, of.within, leaves.later.namenodes),
              rose_seen old.proxy (shown old.cluster) has old.cluster between i low high (row.cause no),
            );
          }))
      by (Err faults.NoMemory) gave shaped goes =
          subst (λ (t : Through C). Relays (seen old.cluster) ask outcome (seen t.cluster)) (sym goes.1)
          (relays_memory (seen old.cluster) (seen between) ask outcome (leaves_seen view (shown old.cluster) (shown between) (left (Err faults.NoMemory) gave)) goes.0)
      by (Err faults.Broken) gave shaped goes = others (Err faults.Broken) gave goes
      by (Err (faults.BadReply fault)) gave shaped goes = others (Err (faults.BadReply fault)) gave goes
      by (Err (faults.Exception class message)) gave shaped goes = others (Err (faults.Exception class message)) gave goes
      by (Err (faults.Fatal class message)) gave shaped goes = others (Err (faults.Fatal class message)) gave goes

  -- behind the looking for an observer
  with_relays : (ask : Ask) (found : Result (Option ℕ) HdfsError) (old : Through C) (outcome : Result Answer HdfsError) (new : Through C)
      → IsServiceOf old.proxy (shown old.cluster) → HasView old.proxy (shown old.cluster) view → IfOk found (λ known. IfSome known (IsOwn old.proxy))
      → IfErr found (λ error. error ≡ errors.NoMemory) → GoesOnWith serves ask found old outcome new → Relays (seen old.cluster) ask outcome (seen new.cluster)
  with_relays ask (Ok (Some i)) old outcome new of has own memory goes =
      gave_relays ask i goes.given old goes.between outcome new of has own.0 own.1 goes.gave goes.shaped goes.goes_on
  with_relays ask (Ok None) old outcome new of has own memory goes = in_order_relays false ask old outcome new of has goes
  with_relays ask (Err error) old outcome new of has own memory goes =
      subst (λ (t : Through C). Relays (seen old.cluster) ask outcome (seen t.cluster)) (sym goes.1)
      (relays_memory (seen old.cluster) (seen old.cluster) ask outcome (leaves_refl (seen old.cluster)) (goes.0 ∙ ap (λ (e : HdfsError). Err e) memory))

  -- an observer came first
  observed_relays : (ask : Ask) (old : Through C) (outcome : Result Answer HdfsError) (new : Through C) → old.proxy.find_observer ≡ true
      → IsServiceOf old.proxy (shown old.cluster) → HasView old.proxy (shown old.cluster) view → AskedObserved serves ask old outcome new → Relays (seen old.cluster) ask outcome (seen new.cluster)
  observed_relays ask old outcome new finds of has asked = by old.proxy.observer refl asked.observes
    where
      by : (known : Option ℕ) → old.proxy.observer ≡ known → Observes serves known old asked.found asked.mid → Relays (seen old.cluster) ask outcome (seen new.cluster)
      by (Some i) is observes =
          with_relays ask (Ok (Some i)) old outcome new of has (subst (λ (o : Option ℕ). IfSome o (IsOwn old.proxy)) is of.observer) tt
          (subst (λ (t : Through C). GoesOnWith serves ask (Ok (Some i)) t outcome new) observes.1
          (subst (λ (f : Result (Option ℕ) HdfsError). GoesOnWith serves ask f asked.mid outcome new) observes.0 asked.goes_on))
      by None is observes =
          let leaves = looks_leaves shown serves rows (numbers_from old.proxy.first old.proxy.count) old.cluster asked.found asked.mid.cluster observes.0 in
          let own = found_own serves old.proxy old.cluster asked.found asked.mid.cluster observes.0 in
          let same = subst (λ (p : NameServiceProxy). SameService old.proxy p) (sym observes.1) (knows_same old.proxy asked.found finds own) in
          relays_since (seen old.cluster) (seen asked.mid.cluster) (seen new.cluster) ask outcome (leaves_seen view (shown old.cluster) (shown asked.mid.cluster) leaves)
          (with_relays ask asked.found asked.mid outcome new (service_later old.proxy asked.mid.proxy (shown old.cluster) (shown asked.mid.cluster) same leaves.later of)
          (view_later view old.proxy asked.mid.proxy (shown old.cluster) (shown asked.mid.cluster) same leaves.later has)
          (own_same old.proxy asked.mid.proxy same asked.found own)
          (found_memory serves (numbers_from old.proxy.first old.proxy.count) old.cluster asked.found asked.mid.cluster observes.0) asked.goes_on)

  step_relays : (write : Bool) (ask : Ask) (old : Through C) (outcome : Result Answer HdfsError) (new : Through C) → IsServiceOf old.proxy (shown old.cluster)
      → HasView old.proxy (shown old.cluster) view → AskedInStep serves write ask old outcome new → Relays (seen old.cluster) ask outcome (seen new.cluster)
  step_relays write ask old outcome new of has step = by (is_observed write old.proxy) refl
    where
      by : (b : Bool) → is_observed write old.proxy ≡ b → Relays (seen old.cluster) ask outcome (seen new.cluster)
      by true is = observed_relays ask old outcome new (observed_parts write old.proxy.find_observer is).1 of has (step.observed is)
      by false is = in_order_relays write ask old outcome new of has (step.in_order is)

  -- an msync went before it
  synced_relays : (write : Bool) (ask : Ask) (old : Through C) (outcome : Result Answer HdfsError) (new : Through C) → IsServiceOf old.proxy (shown old.cluster)
      → HasView old.proxy (shown old.cluster) view → AskedSynced serves write ask old outcome new ⊎ SyncRefused serves old outcome new
      → Relays (seen old.cluster) ask outcome (seen new.cluster)
  synced_relays write ask old outcome new of has (inl went) =
      let leaves = syncs_leaves shown serves rows old went.mid went.syncs in
      let same = syncs_same serves old went.mid (shown old.cluster) of went.syncs in
      relays_since (seen old.cluster) (seen went.mid.cluster) (seen new.cluster) ask outcome (leaves_seen view (shown old.cluster) (shown went.mid.cluster) leaves)
      (step_relays write ask went.mid outcome new (service_later old.proxy went.mid.proxy (shown old.cluster) (shown went.mid.cluster) same leaves.later of)
      (view_later view old.proxy went.mid.proxy (shown old.cluster) (shown went.mid.cluster) same leaves.later has) went.in_step)
  synced_relays write ask old outcome new of has (inr refused) =
      subst (λ (r : Result Answer HdfsError). Relays (seen old.cluster) ask r (seen new.cluster)) (sym refused.is)
      (relays_error (seen old.cluster) (seen new.cluster) asks.Msync ask refused.error (in_order_relays true asks.Msync old (Err refused.error) new of has refused.asked))

  all_relays : (write : Bool) (ask : Ask) (old : Through C) (outcome : Result Answer HdfsError) (new : Through C) → IsServiceOf old.proxy (shown old.cluster)
      → HasView old.proxy (shown old.cluster) view → Asked serves write ask old outcome new → Relays (seen old.cluster) ask outcome (seen new.cluster)
  all_relays write ask old outcome new of has asked = by (needs_sync write old.proxy) refl
    where
      by : (b : Bool) → needs_sync write old.proxy ≡ b → Relays (seen old.cluster) ask outcome (seen new.cluster)
      by true is = synced_relays write ask old outcome new of has (asked.synced is)
      by false is = step_relays write ask old outcome new of has (asked.in_step is)

module _ {C : Type 0} {shown : C → Shown} {serves : C → ℕ → Ask → Result Answer AskFault → C → Type 0} where
  -- a service was asked, and this is what its caller sees
  pub came : ((old new : C) (i : ℕ) (ask : Ask) (result : Result Answer AskFault) → serves old i ask result new → Served (shown old) i ask result (shown new))
      → ((c : C) (p : Picture) → (shown c).picture ≡ Some p → p.active < (shown c).namenodes)
      → {write : Bool} {ask : Ask} {old : Through C} {result : Result Answer HdfsError} {new : Through C} → IsServiceOf old.proxy (shown old.cluster)
      → Asked serves write ask old result new → Seen shown old new.cluster (λ s t. Came s ask result t)
  came rows below {write} {ask} {old} {result} {new} of asked Whole reaches = record {
    relays = all_relays shown serves rows Whole write ask old result new of reaches asked;
    told = λ p told repeats. relayed_told shown serves rows write ask old result new p (below old.cluster p told) reaches told repeats asked;
  }
  came rows below {write} {ask} {old} {result} {new} of asked (OfService first count) has = record {
    relays = all_relays shown serves rows (OfService first count) write ask old result new of has asked;
    told = λ p told repeats. absurd (cc told);
  }
