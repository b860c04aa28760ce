-- What an ask of several namenodes comes to over a told picture: by its row, however often it was done behind a lost answer.
use Rattle.std.proofs.Common.{◌≡◌, ◌≢◌, ◌⊎◌, inl, inr, ⊎_elim, ℕ, ◌<◌, Bool, true, false, List, [], ◌∷◌, ◌++◌, Option, Some, None, IsSome, is_some, Result, Ok, Err, refl, sym, ◌∙◌, ap, subst, arith}
use Rattle.std.proofs.Math.Path.{fun_ext}
use Rattle.std.proofs.lemmas.Bool.{false≢true}
use Rattle.std.specs.Option.{option_map}
use Rattle.hdfs_cluster.specs.declared.asks.Ask.{Ask}
use Rattle.hdfs_cluster.specs.declared.asks.Ask.TheVariants as asks
use Rattle.hdfs_cluster.specs.declared.asks.Answer.{Answer}
use Rattle.hdfs_cluster.specs.declared.asks.AskFault.{AskFault}
use Rattle.hdfs_cluster.specs.declared.asks.AskFault.TheVariants as faults
use Rattle.hdfs_cluster.specs.declared.picture.Entry.{Entry}
use Rattle.hdfs_cluster.specs.Failures.{CallsRose}
use Rattle.hdfs_cluster.specs.Counts.{Rose}
use Rattle.hdfs_cluster.specs.Failover.{passes_on, AsksOne, PassedOn, AsksInOrder}
use Rattle.hdfs_cluster.specs.Files.{Kind, Directory, ClosedFile, OpenFile, NoFile, NotDirectory, Missing, NotFile}
use Rattle.hdfs_cluster.specs.Namenode.{Row, FoundNothing, IsShaped, IsOwn, IsRefusal, MayBeDone, IsFalse, ServesTold, StandsForAny, StandsForNoFile, StandsForRefusal, class_for, class_in_the_way, is_retriable, overwrites}
use Rattle.hdfs_cluster.specs.Names.{HasBelow}
use Rattle.hdfs_cluster.specs.Picture.{Picture, SameButActive, SamePicture, entry_kind, kinds}
use Rattle.hdfs_cluster.specs.Refusals.{Refusal, BadPath, WrongState, Exists, Lacks, BadRange, NotEmpty, TooMany, above_refusal, create_refusal, append_refusal, mkdirs_refusal}
use Rattle.hdfs_cluster.specs.Repeating.{Done, DoneOrNot, Repeats}
use Rattle.hdfs_cluster.specs.Shown.{Shown, Served, Later}
use Rattle.hdfs_cluster.proofs.Frames.{told_after, later_refl, later_trans, rose_since}

pub same_trans : (p q r : Picture) → SameButActive p q → SameButActive q r → SameButActive p r
same_trans p q r f g = record {
  files = record {
    names = λ y. g.files.names y ∙ f.files.names y;
    table = λ id. g.files.table id ∙ f.files.table id;
    held = λ node id. g.files.held node id ∙ f.files.held node id;
    defaults = g.files.defaults ∙ f.files.defaults;
  };
  reads = λ link. g.reads link ∙ f.reads link;
  writes = λ link. g.writes link ∙ f.writes link;
}

picture_trans : (p q r : Picture) → SamePicture p q → SamePicture q r → SamePicture p r
picture_trans p q r f g = record { rest = same_trans p q r f.rest g.rest; active = g.active ∙ f.active }

pub joins : (ask : Ask) (p : Picture) → Repeats ask p → (q r : Picture) → DoneOrNot ask p q → DoneOrNot ask q r → DoneOrNot ask p r
joins ask p repeats q r (inl same) (inl still) = inl (same_trans p q r same still)
joins ask p repeats q r (inl same) (inr done) = inr (done.0, done.1, repeats.left q r done.0 same done.2)
joins ask p repeats q r (inr done) (inl still) = inr (done.0, done.1, repeats.right q r done.0 done.2 still)
joins ask p repeats q r (inr done) (inr more) =
    inr (⊎_elim (λ row. (more.0, more.1, row)) (λ again. (done.0, done.1, again.1)) (repeats.twice q r done.0 more.0 done.2 more.2))

pub answered : (ask : Ask) (p : Picture) → Repeats ask p → (q r : Picture) (b : Answer) → DoneOrNot ask p q → Row q ask b r
    → Row p ask b r ⊎ (FoundNothing b × Done ask p r)
answered ask p repeats q r b (inl same) row = inl (repeats.left q r b same row)
answered ask p repeats q r b (inr done) row =
    ⊎_elim (λ (x : Row p ask b r). inl x) (λ again. inr (again.0, (done.0, done.1, again.1))) (repeats.twice q r done.0 b done.2 row)

joins_done : (ask : Ask) (p : Picture) → Repeats ask p → (q r : Picture) → DoneOrNot ask p q → Done ask q r → Done ask p r
joins_done ask p repeats q r (inl same) more = (more.0, more.1, repeats.left q r more.0 same more.2)
joins_done ask p repeats q r (inr done) more =
    ⊎_elim (λ row. (more.0, more.1, row)) (λ again. (done.0, done.1, again.1)) (repeats.twice q r done.0 more.0 done.2 more.2)

none_own : (ask : Ask) (p q : Picture) → (IsOwn p ask → ⊥) → MayBeDone ask p q → DoneOrNot ask p q
none_own ask p q none (inl same) = inl same
none_own ask p q none (inr (inl row)) = inr row
none_own ask p q none (inr (inr own)) = absurd (none own.0)

-- no refusal's class passes an ask on
class_stays : (why : NoFile) → is_retriable (class_for why) ≡ false
class_stays NotDirectory = refl
class_stays Missing = refl
class_stays NotFile = refl

taken_stays : (kind : Option Kind) → is_retriable (class_in_the_way kind) ≡ false
taken_stays None = refl
taken_stays (Some Directory) = refl
taken_stays (Some ClosedFile) = refl
taken_stays (Some OpenFile) = refl

stands_stays : (kind : Option Kind) (why : Refusal) (class : List ℕ) → StandsForRefusal kind why class → is_retriable class ≡ false
stands_stays kind Exists class is = ap is_retriable is ∙ taken_stays kind
stands_stays kind (Lacks why) class is = ap is_retriable is ∙ class_stays why
stands_stays kind BadPath class is = absurd is
stands_stays kind WrongState class is = absurd is
stands_stays kind BadRange class is = absurd is
stands_stays kind NotEmpty class is = ap is_retriable is
stands_stays kind TooMany class is = absurd is

refusal_stays : (p : Picture) (ask : Ask) (class : List ℕ) → IsRefusal p ask class → is_retriable class ≡ false
refusal_stays p (asks.GetBlockLocations src offset length) class h = ap is_retriable h.2 ∙ class_stays h.0
refusal_stays p (asks.Create ask) class h = stands_stays (kinds p ask.src) h.0 class h.2
refusal_stays p (asks.Append src client flag) class h = stands_stays (kinds p src) h.0 class h.2
refusal_stays p (asks.GetFileInfo src) class h = stands_stays (kinds p src) h.0 class h.2
refusal_stays p (asks.GetListing src from located) class (inl above) = stands_stays (kinds p src) above.0 class above.2
refusal_stays p (asks.GetListing src from located) class (inr bad) = ap is_retriable bad.1
refusal_stays p (asks.Mkdirs src masked parents) class h = stands_stays (Some Directory) h.0 class h.2
refusal_stays p (asks.Delete src recursive) class (inl above) = stands_stays (kinds p src) above.0 class above.2
refusal_stays p (asks.Delete src recursive) class (inr full) = ap is_retriable full.1
refusal_stays p ask class h = absurd h

-- an answer that passes the ask on came from another namenode than the active one and changed nothing, or the count rose
passed_told : (risen : Type 0) (p : Picture) (i : ℕ) (ask : Ask) (given : Result Answer AskFault) (q : Picture) → (IsOwn p ask → ⊥) → passes_on given ≡ true
    → ServesTold risen p i ask given q → ((i ≢ p.active) × SamePicture p q) ⊎ (risen × DoneOrNot ask p q)
passed_told risen p i ask (Ok answer) q none passes h = absurd (false≢true passes)
passed_told risen p i ask (Err faults.NoMemory) q none passes h = absurd (false≢true passes)
passed_told risen p i ask (Err faults.Broken) q none passes h = inr (h.0, none_own ask p q none h.1)
passed_told risen p i ask (Err (faults.BadReply fault)) q none passes h = inr (h.0, none_own ask p q none h.1)
passed_told risen p i ask (Err (faults.Fatal class message)) q none passes h = inr (h.0, none_own ask p q none h.1)
passed_told risen p i ask (Err (faults.Exception class message)) q none passes h =
    ⊎_elim
    (λ standby. inl (standby.0, standby.2))
    (λ rest. ⊎_elim
    (λ refused. absurd (false≢true (sym (refusal_stays p ask class refused.1) ∙ passes)))
    (λ more. ⊎_elim (λ own. absurd (none own.2.0)) (λ rose. inr (rose.0, none_own ask p q none rose.1)) more)
    rest)
    h

-- what the last namenode gave
abbrev pub Comes : Type 0 → Picture → Ask → Result Answer AskFault → Picture → Type 0
Comes risen p ask (Ok answer) q =
    Row p ask answer q ⊎ (FoundNothing answer × risen × Done ask p q) ⊎ (IsFalse answer × risen × DoneOrNot ask p q)
Comes risen p ask (Err fault) q =
    ((fault ≡ faults.NoMemory) × DoneOrNot ask p q)
    ⊎ (((class : List ℕ) × (message : List ℕ) × (fault ≡ faults.Exception class message) × IsRefusal p ask class) × SameButActive p q)
    ⊎ (risen × DoneOrNot ask p q)

kinds_same : (p q : Picture) → SamePicture p q → kinds p ≡ kinds q
kinds_same p q same = fun_ext (λ r. ap (option_map entry_kind) (sym (same.rest.files.names r)))

-- something stands below a path in the one, where it does in the other
below_same : (p q : Picture) (dir : List ℕ) → kinds p ≡ kinds q → HasBelow q.names dir → HasBelow p.names dir
below_same p q dir same has = record {
  path = has.path;
  below = has.below;
  there = some_kind (p.names has.path) (ap (λ (k : List ℕ → Option Kind). is_some (k has.path)) same ∙ kind_some (q.names has.path) has.there);
}
  where
    kind_some : (o : Option Entry) → IsSome o → is_some (option_map entry_kind o) ≡ true
    kind_some None is = absurd (false≢true is)
    kind_some (Some e) is = refl

    some_kind : (o : Option Entry) → is_some (option_map entry_kind o) ≡ true → IsSome o
    some_kind None is = absurd (false≢true is)
    some_kind (Some e) is = refl

above_same : (p q : Picture) (src class : List ℕ) → kinds p ≡ kinds q → StandsForAny (kinds q src) (above_refusal (kinds q) src) class
    → StandsForAny (kinds p src) (above_refusal (kinds p) src) class
above_same p q src class same h = subst (λ (k : List ℕ → Option Kind). StandsForAny (k src) (above_refusal k src) class) (sym same) h

refusal_same : (p q : Picture) (ask : Ask) (class : List ℕ) → kinds p ≡ kinds q → IsRefusal q ask class → IsRefusal p ask class
refusal_same p q (asks.GetBlockLocations src offset length) class same h = subst (λ (k : List ℕ → Option Kind). StandsForNoFile k src class) (sym same) h
refusal_same p q (asks.Create ask) class same h =
    subst (λ (k : List ℕ → Option Kind). StandsForAny (k ask.src) (create_refusal k ask.src (overwrites ask.create_flag) ask.create_parent) class) (sym same) h
refusal_same p q (asks.Append src client flag) class same h = subst (λ (k : List ℕ → Option Kind). StandsForAny (k src) (append_refusal k src) class) (sym same) h
refusal_same p q (asks.GetFileInfo src) class same h = above_same p q src class same h
refusal_same p q (asks.GetListing src from located) class same (inl above) = inl (above_same p q src class same above)
refusal_same p q (asks.GetListing src from located) class same (inr bad) = inr bad
refusal_same p q (asks.Mkdirs src masked parents) class same h =
    subst (λ (k : List ℕ → Option Kind). StandsForAny (Some Directory) (mkdirs_refusal k src parents) class) (sym same) h
refusal_same p q (asks.Delete src recursive) class same (inl above) = inl (above_same p q src class same above)
refusal_same p q (asks.Delete src recursive) class same (inr full) =
    inr (record { alone = full.0.alone; below = below_same p q src same full.0.below }, full.1)
refusal_same p q ask class same h = absurd h

-- one that doesn't pass the ask on, by what is told
gave_told : (risen : Type 0) (p : Picture) (i : ℕ) (ask : Ask) (given : Result Answer AskFault) (q : Picture) → (IsOwn p ask → ⊥) → passes_on given ≡ false
    → ServesTold risen p i ask given q → Comes risen p ask given q
gave_told risen p i ask (Ok answer) q none stays h =
    ⊎_elim (λ by. ⊎_elim (λ row. inl row) (λ own. absurd (none own.0)) by.2) (λ no. inr (inr (no.0, no.1, none_own ask p q none no.2))) h
gave_told risen p i ask (Err faults.NoMemory) q none stays h = inl (refl, none_own ask p q none h.1)
gave_told risen p i ask (Err faults.Broken) q none stays h = absurd (false≢true (sym stays))
gave_told risen p i ask (Err (faults.BadReply fault)) q none stays h = absurd (false≢true (sym stays))
gave_told risen p i ask (Err (faults.Fatal class message)) q none stays h = absurd (false≢true (sym stays))
gave_told risen p i ask (Err (faults.Exception class message)) q none stays h =
    ⊎_elim
    (λ standby. absurd (false≢true (sym stays ∙ ap is_retriable standby.1)))
    (λ rest. ⊎_elim
    (λ refused. inr (inl ((class, message, refl, refused.1), refused.2.rest)))
    (λ more. ⊎_elim (λ own. absurd (none own.2.0)) (λ rose. inr (inr (rose.0, none_own ask p q none rose.1))) more)
    rest)
    h

-- a number is none of these, or one of them
abbrev pub Misses : ℕ → List ℕ → Type 0
Misses a [] = Unit {0}
Misses a (i ∷ others) = (i ≢ a) × Misses a others

abbrev pub Has : ℕ → List ℕ → Type 0
Has a [] = ⊥
Has a (i ∷ others) = (i ≡ a) ⊎ Has a others

misses_has : (a : ℕ) (l : List ℕ) → Misses a l → Has a l → ⊥
misses_has a [] misses has = has
misses_has a (i ∷ others) misses (inl here) = misses.0 here
misses_has a (i ∷ others) misses (inr later) = misses_has a others misses.1 later

misses_push : (a : ℕ) (l : List ℕ) (i : ℕ) → Misses a l → i ≢ a → Misses a (l ++ i ∷ [])
misses_push a [] i misses away = (away, tt)
misses_push a (j ∷ l) i misses away = (misses.0, misses_push a l i misses.1 away)

-- all of these are below a number
abbrev pub Below : ℕ → List ℕ → Type 0
Below n [] = Unit {0}
Below n (i ∷ others) = (i < n) × Below n others

below_at : (n : ℕ) (front : List ℕ) (i : ℕ) (left : List ℕ) → Below n (front ++ i ∷ left) → Below n front × (i < n)
below_at n [] i left below = (tt, below.0)
below_at n (j ∷ front) i left below = (let h = below_at n front i left below.1 in ((below.0, h.0), h.1))

module _ {C : Type 0} (shown : C → Shown) (serves : C → ℕ → Ask → Result Answer AskFault → C → Type 0)
    (rows : (old new : C) (i : ℕ) (ask : Ask) (result : Result Answer AskFault) → serves old i ask result new → Served (shown old) i ask result (shown new))
    (ask : Ask) (start : C) (p : Picture) (told : (shown start).picture ≡ Some p) (repeats : Repeats ask p) where
  -- some namenode has failed since, and the ask was done or not
  abbrev Rises : C → Picture → Type 0
  Rises t q = CallsRose (shown start).counts (shown t) × DoneOrNot ask p q

  -- so far: that, or nothing changed
  abbrev SoFar : Type 0 → C → Picture → Type 0
  SoFar missed t q = Rises t q ⊎ (SamePicture p q × missed)

  no_own : (missed : Type 0) (t : C) (q : Picture) → SoFar missed t q → IsOwn q ask → ⊥
  no_own missed t q (inl rises) own = repeats.not_own q rises.1 own
  no_own missed t q (inr still) own = repeats.not_own q (inl still.0.rest) own

  done_then : (missed : Type 0) (t : C) (q r : Picture) → SoFar missed t q → DoneOrNot ask q r → DoneOrNot ask p r
  done_then missed t q r (inl rises) next = joins ask p repeats q r rises.1 next
  done_then missed t q r (inr still) next = joins ask p repeats q r (inl still.0.rest) next

  done_before : (missed : Type 0) (t : C) (q r : Picture) → SoFar missed t q → Done ask q r → Done ask p r
  done_before missed t q r (inl rises) next = joins_done ask p repeats q r rises.1 next
  done_before missed t q r (inr still) next = joins_done ask p repeats q r (inl still.0.rest) next

  rises_later : (t u : C) → Later (shown t) (shown u) → CallsRose (shown start).counts (shown t) → CallsRose (shown start).counts (shown u)
  rises_later t u later rose = (
    rose.0,
    omega (arith, rose.1, later.namenodes),
    rose_since ((shown start).counts.calls rose.0) ((shown start).counts.calls rose.0) ((shown t).counts.calls rose.0) ((shown u).counts.calls rose.0) (omega arith) rose.2 (later.counts.calls rose.0),
  )

  rises_now : (t u : C) (i : ℕ) → Later (shown start) (shown t) → i < (shown u).namenodes → Rose ((shown t).counts.calls i) ((shown u).counts.calls i) → CallsRose (shown start).counts (shown u)
  rises_now t u i later below rose = (i, below, rose_since ((shown start).counts.calls i) ((shown t).counts.calls i) ((shown u).counts.calls i) ((shown u).counts.calls i) (later.counts.calls i) rose (omega arith))

  one_served : (t u : C) (i : ℕ) (given : Result Answer AskFault) (q : Picture) → (shown t).picture ≡ Some q → serves t i ask given u
      → (r : Picture) × ((shown u).picture ≡ Some r) × ServesTold (Rose ((shown t).counts.calls i) ((shown u).counts.calls i)) q i ask given r
  one_served t u i given q is served = told_after (λ a b. ServesTold (Rose ((shown t).counts.calls i) ((shown u).counts.calls i)) a i ask given b) (shown t).picture (shown u).picture q (rows t u i ask given served).picture is

  -- one step that passes the ask on
  step_on : (missed : Type 0) (t u : C) (i : ℕ) (given : Result Answer AskFault) (q : Picture) → (shown t).picture ≡ Some q → Later (shown start) (shown t) → i < (shown t).namenodes
      → SoFar missed t q → passes_on given ≡ true → serves t i ask given u
      → (r : Picture) × ((shown u).picture ≡ Some r) × Later (shown start) (shown u) × SoFar (missed × (i ≢ p.active)) u r
  step_on missed t u i given q is later below so_far passes served =
      let row = rows t u i ask given served in
      let one = one_served t u i given q is served in
      let later' = later_trans (shown start) (shown t) (shown u) later row.later in
      (one.0, one.1, later', by so_far (passed_told (Rose ((shown t).counts.calls i) ((shown u).counts.calls i)) q i ask given one.0 (no_own missed t q so_far) passes one.2) (omega (arith, below, row.later.namenodes)) row.later)
    where
      by : {r : Picture} → (s : SoFar missed t q) → ((i ≢ q.active) × SamePicture q r) ⊎ (Rose ((shown t).counts.calls i) ((shown u).counts.calls i) × DoneOrNot ask q r) → i < (shown u).namenodes → Later (shown t) (shown u)
          → SoFar (missed × (i ≢ p.active)) u r
      by {r} s (inr rose) below' later' = inl (rises_now t u i later below' rose.0, done_then missed t q r s rose.1)
      by {r} (inl rises) (inl away) below' later' = inl (rises_later t u later' rises.0, joins ask p repeats q r rises.1 (inl away.1.rest))
      by {r} (inr still) (inl away) below' later' = inr (picture_trans p q r still.0 away.1, (still.1, λ here. away.0 (here ∙ sym still.0.active)))

  weaker : (A B : Type 0) (t : C) (q : Picture) → (A → B) → SoFar A t q → SoFar B t q
  weaker A B t q f (inl rises) = inl rises
  weaker A B t q f (inr still) = inr (still.0, f still.1)

  -- where an ask has come to
  abbrev At : Type 0 → C → Type 0
  At missed t = (q : Picture) × ((shown t).picture ≡ Some q) × Later (shown start) (shown t) × SoFar missed t q

  at_weaker : (A B : Type 0) (t : C) → (A → B) → At A t → At B t
  at_weaker A B t f at = (at.0, at.1, at.2, weaker A B t at.0 f at.3)

  at_step : (missed : Type 0) (t u : C) (i : ℕ) (given : Result Answer AskFault) → At missed t → i < (shown start).namenodes → passes_on given ≡ true → serves t i ask given u → At (missed × (i ≢ p.active)) u
  at_step missed t u i given at below passes served = step_on missed t u i given at.0 at.1 at.2 (omega (arith, below, at.2.namenodes)) at.3 passes served

  -- one namenode that passes the ask on
  at_one : (missed : Type 0) (t u : C) (i : ℕ) (given : Result Answer AskFault) → At missed t → i < (shown start).namenodes → passes_on given ≡ true → AsksOne serves i ask t given u → At (missed × (i ≢ p.active)) u
  at_one missed t u i given at below passes (inl once) = at_step missed t u i given at below passes once.0
  at_one missed t u i given at below passes (inr twice) =
      at_weaker ((missed × (i ≢ p.active)) × (i ≢ p.active)) (missed × (i ≢ p.active)) u (λ h. h.0)
      (at_step (missed × (i ≢ p.active)) twice.0 u i given (at_step missed t twice.0 i (Err faults.Broken) at below refl twice.1) below passes twice.2)

  at_all : (front : List ℕ) (missed : Type 0) (t u : C) → At missed t → Below (shown start).namenodes front → PassedOn serves front ask t u → At (missed × Misses p.active front) u
  at_all [] missed t u at below passed = subst (λ (x : C). At (missed × Unit {0}) x) (sym passed) (at_weaker missed (missed × Unit {0}) t (λ h. (h, tt)) at)
  at_all (i ∷ others) missed t u at below passed =
      at_weaker ((missed × (i ≢ p.active)) × Misses p.active others) (missed × ((i ≢ p.active) × Misses p.active others)) u (λ h. (h.0.0, (h.0.1, h.1)))
      (at_all others (missed × (i ≢ p.active)) passed.1 u (at_one missed t passed.1 i passed.0 at below.0 passed.3 passed.2) below.1 passed.4)

  -- what one gives that doesn't pass the ask on, by what was before
  comes_from : (missed risen : Type 0) (t u : C) (q : Picture) (given : Result Answer AskFault) (r : Picture) → SoFar missed t q → Later (shown t) (shown u) → (risen → CallsRose (shown start).counts (shown u))
      → Comes risen q ask given r → Comes (CallsRose (shown start).counts (shown u)) p ask given r
  comes_from missed risen t u q (Ok answer) r (inl rises) later rose (inl row) =
      ⊎_elim (λ by. inl by) (λ again. inr (inl (again.0, rises_later t u later rises.0, again.1))) (answered ask p repeats q r answer rises.1 row)
  comes_from missed risen t u q (Ok answer) r (inr still) later rose (inl row) = inl (repeats.left q r answer still.0.rest row)
  comes_from missed risen t u q (Ok answer) r so_far later rose (inr (inl again)) = inr (inl (again.0, rose again.1, done_before missed t q r so_far again.2))
  comes_from missed risen t u q (Ok answer) r so_far later rose (inr (inr denied)) =
      inr (inr (denied.0, rose denied.1, done_then missed t q r so_far denied.2))
  comes_from missed risen t u q (Err fault) r so_far later rose (inl memory) = inl (memory.0, done_then missed t q r so_far memory.1)
  comes_from missed risen t u q (Err fault) r (inl rises) later rose (inr (inl refused)) = inr (inr (rises_later t u later rises.0, joins ask p repeats q r rises.1 (inl refused.1)))
  comes_from missed risen t u q (Err fault) r (inr still) later rose (inr (inl refused)) =
      inr (inl ((refused.0.0, refused.0.1, refused.0.2, refusal_same p q ask refused.0.0 (kinds_same p q still.0) refused.0.3), same_trans p q r still.0.rest refused.1))
  comes_from missed risen t u q (Err fault) r so_far later rose (inr (inr more)) = inr (inr (rose more.0, done_then missed t q r so_far more.1))

  -- what an ask has come to
  abbrev Told : C → Result Answer AskFault → Type 0
  Told u given = (r : Picture) × ((shown u).picture ≡ Some r) × Comes (CallsRose (shown start).counts (shown u)) p ask given r

  last_step : (missed : Type 0) (t u : C) (i : ℕ) (given : Result Answer AskFault) → At missed t → i < (shown start).namenodes → passes_on given ≡ false → serves t i ask given u → Told u given
  last_step missed t u i given at below stays served =
      let row = rows t u i ask given served in
      let one = one_served t u i given at.0 at.1 served in (
        one.0,
        one.1,
        comes_from missed (Rose ((shown t).counts.calls i) ((shown u).counts.calls i)) t u at.0 given one.0 at.3 row.later
            (rises_now t u i at.2 (omega (arith, below, at.2.namenodes, row.later.namenodes)))
            (gave_told (Rose ((shown t).counts.calls i) ((shown u).counts.calls i)) at.0 i ask given one.0 (no_own missed t at.0 at.3) stays one.2),
      )

  last_one : (missed : Type 0) (t u : C) (i : ℕ) (given : Result Answer AskFault) → At missed t → i < (shown start).namenodes → passes_on given ≡ false → AsksOne serves i ask t given u → Told u given
  last_one missed t u i given at below stays (inl once) = last_step missed t u i given at below stays once.0
  last_one missed t u i given at below stays (inr twice) =
      last_step (missed × (i ≢ p.active)) twice.0 u i given (at_step missed t twice.0 i (Err faults.Broken) at below refl twice.1) below stays twice.2

  -- where the last one passes the ask on too, some namenode has failed: the active one is among those that were asked
  last_passes : (front : List ℕ) (t u : C) (i : ℕ) (given : Result Answer AskFault) → At (Unit {0} × Misses p.active front) t → i < (shown start).namenodes → passes_on given ≡ true → Has p.active (front ++ i ∷ []) → AsksOne serves i ask t given u → Told u given
  last_passes front t u i given at below passes has asked =
      let now = at_one (Unit {0} × Misses p.active front) t u i given at below passes asked in
      (now.0, now.1, by given passes now.3)
    where
      by : {r : Picture} → (g : Result Answer AskFault) → passes_on g ≡ true → SoFar ((Unit {0} × Misses p.active front) × (i ≢ p.active)) u r → Comes (CallsRose (shown start).counts (shown u)) p ask g r
      by (Ok answer) passes so_far = absurd (false≢true passes)
      by (Err fault) passes (inl rises) = inr (inr rises)
      by (Err fault) passes (inr still) = absurd (misses_has p.active (front ++ i ∷ []) (misses_push p.active front i still.1.0.1 still.1.1) has)

  same_self : SamePicture p p
  same_self = record { rest = record { files = record { names = λ y. refl; table = λ id. refl; held = λ node id. refl; defaults = refl }; reads = λ link. refl; writes = λ link. refl }; active = refl }

  -- An ask that went from namenode to namenode, the active one among them.
  pub asked_told : (order : List ℕ) (last : ℕ) (given : Result Answer AskFault) (new : C) → Below (shown start).namenodes order → Has p.active order → AsksInOrder serves order ask start last given new → Told new given
  asked_told order last given new below has asks = by_passing (passes_on given) refl
    where
      parts : Below (shown start).namenodes asks.front × (last < (shown start).namenodes)
      parts = below_at (shown start).namenodes asks.front last asks.left (subst (Below (shown start).namenodes) asks.in_order below)

      before : At (Unit {0} × Misses p.active asks.front) asks.mid
      before = at_all asks.front (Unit {0}) start asks.mid (p, told, later_refl (shown start), inr (same_self, tt)) parts.0 asks.passed

      by_passing : (b : Bool) → passes_on given ≡ b → Told new given
      by_passing false stays = last_one (Unit {0} × Misses p.active asks.front) asks.mid new last given before parts.1 stays asks.asked
      by_passing true passes =
          last_passes asks.front asks.mid new last given before parts.1 passes
          (subst (λ (l : List ℕ). Has p.active (asks.front ++ last ∷ l)) (asks.ends passes) (subst (Has p.active) asks.in_order has)) asks.asked
