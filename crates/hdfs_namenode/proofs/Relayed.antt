-- What an ask of a service comes to for its caller: over any cluster, and over a told picture.
use Rattle.std.proofs.Common.{◌≡◌, inl, inr, ℕ, ◌<◌, Bool, true, false, cond, List, Some, refl, sym, ap, subst, arith}
use Rattle.std.specs.Prelude.{Result, Ok, Err, IfOk}
use Rattle.hdfs_cluster.specs.declared.asks.Ask.{Ask}
use Rattle.hdfs_cluster.specs.declared.asks.Answer.{Answer}
use Rattle.hdfs_cluster.specs.declared.asks.AskFault.{AskFault}
use Rattle.hdfs_cluster.specs.declared.asks.AskFault.TheVariants as faults
use Rattle.hdfs_cluster.specs.declared.errors.HdfsError.{HdfsError}
use Rattle.hdfs_cluster.specs.declared.errors.HdfsError.TheVariants as errors
use Rattle.hdfs_cluster.specs.declared.picture.LastAnswer.TheVariants as last_answers
use Rattle.hdfs_cluster.specs.Failures.{CallsRose, EachAsked}
use Rattle.hdfs_cluster.specs.Counts.{Rose, RoseTwice}
use Rattle.hdfs_cluster.specs.Namenode.{Row, FoundNothing, IsFailure, IsShaped, IsFalse, is_taken, last_of}
use Rattle.hdfs_cluster.specs.Picture.{Picture}
use Rattle.hdfs_cluster.specs.Repeating.{DoneOrNot, Leaves, Repeats}
use Rattle.hdfs_cluster.specs.Shown.{Shown, Served}
use Rattle.hdfs_cluster.proofs.Frames.{same_picture_refl}
use Rattle.hdfs_cluster.specs.Failover.{passes_on}
use Rattle.hdfs_cluster.proofs.Framing.{leaves_refl}
use Rattle.hdfs_cluster.proofs.Relaying.{Comes, asked_told}
use Rattle.hdfs_namenode.specs.Asked.{Asked, ReachesAll, Through, error_of, order_of, outcome_of}
use Rattle.hdfs_namenode.specs.Relaying.{Came, RefusedBy, Relays, RelaysTold, TellsAsk}
use Rattle.hdfs_namenode.proofs.Services.{asked_plain, reaches_has, reaches_service, service_below}

exception_tells : (old new : Shown) (class message : List ℕ) (b : Bool) → is_taken class ≡ b → new.last ≡ last_answers.Exception class message
    → TellsAsk old new (cond b (errors.AlreadyExists message) (errors.RPCError class message))
exception_tells old new class message true is last = (tt, ((class, is, last), tt))
exception_tells old new class message false is last = (tt, ((is, last), tt))

-- what its last answer tells, where it is a fault
fault_tells : (old new : Shown) (last : ℕ) (fault : AskFault) → new.last ≡ last_of (Err fault) → last < new.namenodes
    → (IsFailure (Err fault) → Rose (old.counts.calls last) (new.counts.calls last))
    → (fault ≡ faults.Broken → RoseTwice (old.counts.calls last) (new.counts.calls last))
    → (passes_on (Err fault) ≡ true → EachAsked old.counts new) → TellsAsk old new (error_of last fault)
fault_tells old new last faults.NoMemory is low rose twice each = (tt, (tt, tt))
fault_tells old new last faults.Broken is low rose twice each = (tt, (is, (each refl, low, twice refl)))
fault_tells old new last (faults.BadReply fault) is low rose twice each = (tt, (is, (each refl, (last, low, rose tt))))
fault_tells old new last (faults.Exception class message) is low rose twice each = exception_tells old new class message (is_taken class) refl is
fault_tells old new last (faults.Fatal class message) is low rose twice each = (tt, (is, (each refl, (last, low, rose tt))))

pub relays_given : (old new : Shown) (ask : Ask) (last : ℕ) (given : Result Answer AskFault) → Leaves old new → IfOk given (IsShaped ask) → new.last ≡ last_of given
    → last < new.namenodes → (IsFailure given → Rose (old.counts.calls last) (new.counts.calls last))
    → (given ≡ Err faults.Broken → RoseTwice (old.counts.calls last) (new.counts.calls last))
    → (passes_on given ≡ true → EachAsked old.counts new) → Relays old ask (outcome_of last given) new
relays_given old new ask last (Ok answer) leaves shaped is low rose twice each = record { leaves = leaves; shaped = shaped; tells = tt; fine = is; denied = λ no. (last, low, rose no) }
relays_given old new ask last (Err fault) leaves shaped is low rose twice each = record {
  leaves = leaves;
  shaped = tt;
  tells = fault_tells old new last fault is low rose (λ broken. twice (ap (λ (f : AskFault). Err f) broken)) each;
  fine = tt;
  denied = tt;
}

-- nothing was asked
pub relays_nothing : (a : Shown) (ask : Ask) → Relays a ask (Err errors.NoMemory) a
relays_nothing a ask = record { leaves = leaves_refl a; shaped = tt; tells = (tt, (tt, tt)); fine = tt; denied = tt }

comes_relayed : (risen : Type 0) (p : Picture) (ask : Ask) (last : ℕ) (given : Result Answer AskFault) (q : Picture) → Comes risen p ask given q
    → RelaysTold risen p ask (outcome_of last given) q
comes_relayed risen p ask last (Ok answer) q comes = comes
comes_relayed risen p ask last (Err fault) q (inl memory) = inl (ap (error_of last) memory.0, memory.1)
comes_relayed risen p ask last (Err fault) q (inr (inl refused)) = inr (inl ((refused.0.0, refused.0.1, refused.0.3, ap (error_of last) refused.0.2), refused.1))
comes_relayed risen p ask last (Err fault) q (inr (inr rose)) = inr (inr rose)

-- what is answered is by the row, but for the answers that nothing was found to be deleted and that a file isn't closed
pub relayed_row : (risen : Type 0) (p : Picture) (ask : Ask) (answer : Answer) (q : Picture) → (FoundNothing answer → ⊥) → (IsFalse answer → ⊥)
    → RelaysTold risen p ask (Ok answer) q → Row p ask answer q
relayed_row risen p ask answer q found closed (inl row) = row
relayed_row risen p ask answer q found closed (inr (inl again)) = absurd (found again.0)
relayed_row risen p ask answer q found closed (inr (inr denied)) = absurd (closed denied.0)

-- whatever came of it, the ask had its effect once, or none
pub relayed_done : (risen : Type 0) (p : Picture) (ask : Ask) (result : Result Answer HdfsError) (q : Picture) → IfOk result (IsShaped ask)
    → RelaysTold risen p ask result q → DoneOrNot ask p q
relayed_done risen p ask (Ok answer) q shaped (inl row) = inr (answer, shaped, row)
relayed_done risen p ask (Ok answer) q shaped (inr (inl again)) = inr again.2
relayed_done risen p ask (Ok answer) q shaped (inr (inr denied)) = denied.2
relayed_done risen p ask (Err error) q shaped (inl memory) = memory.1
relayed_done risen p ask (Err error) q shaped (inr (inl refused)) = inl refused.1
relayed_done risen p ask (Err error) q shaped (inr (inr rose)) = rose.1

-- an error that is no want of memory, of an ask that isn't refused, comes only where a namenode has failed
pub relayed_rose : (risen : Type 0) (p : Picture) (ask : Ask) (error : HdfsError) (q : Picture) → (error ≡ errors.NoMemory → ⊥) → (RefusedBy p ask error → ⊥)
    → RelaysTold risen p ask (Err error) q → risen
relayed_rose risen p ask error q some allowed (inl memory) = absurd (some memory.0)
relayed_rose risen p ask error q some allowed (inr (inl refused)) = absurd (allowed refused.0)
relayed_rose risen p ask error q some allowed (inr (inr rose)) = rose.0

module _ {C : Type 0} (shown : C → Shown) (serves : C → ℕ → Ask → Result Answer AskFault → C → Type 0)
    (rows : (old new : C) (i : ℕ) (ask : Ask) (result : Result Answer AskFault) → serves old i ask result new → Served (shown old) i ask result (shown new))
    (write : Bool) (ask : Ask) (old : Through C) (outcome : Result Answer HdfsError) (new : Through C) where
  -- what is told of it
  abbrev pub IsTold : Picture → Type 0
  IsTold p = (q : Picture) × ((shown new.cluster).picture ≡ Some q) × RelaysTold (CallsRose (shown old.cluster).counts (shown new.cluster)) p ask outcome q

  -- over a told picture, where it reaches all namenodes, and the ask may be done again behind an answer that was lost
  pub relayed_told : (p : Picture) → p.active < (shown old.cluster).namenodes → ReachesAll old.proxy (shown old.cluster) → (shown old.cluster).picture ≡ Some p
      → Repeats ask p → Asked serves write ask old outcome new → IsTold p
  relayed_told p active reaches told repeats made =
      let asked = asked_plain serves write ask old outcome new reaches.plain made in
      let came = asked_told shown serves rows ask old.cluster p told repeats (order_of old.proxy) asked.last asked.given new.cluster
      (service_below old.proxy (shown old.cluster) (reaches_service old.proxy (shown old.cluster) reaches))
      (reaches_has old.proxy (shown old.cluster) p.active reaches active) asked.asks in
      let risen = CallsRose (shown old.cluster).counts (shown new.cluster) in (
        came.0,
        came.1,
        subst (λ (r : Result Answer HdfsError). RelaysTold risen p ask r came.0) (sym asked.is) (comes_relayed risen p ask asked.last asked.given came.0 came.2),
      )

-- nothing was asked, for want of memory
pub came_nothing : {s : Shown} {ask : Ask} → Came s ask (Err errors.NoMemory) s
came_nothing {s} {ask} = record {
  relays = relays_nothing s ask;
  told = λ p told repeats. (p, told, inl (refl, inl (same_picture_refl p).rest));
}

-- what it has come to, by what the ask and its result are
pub came_as : {s t : Shown} {ask ask' : Ask} {result result' : Result Answer HdfsError} → ask ≡ ask' → result ≡ result' → Came s ask result t
    → Came s ask' result' t
came_as {s} {t} {ask} {ask'} {result} {result'} one two came =
    subst (λ (r : Result Answer HdfsError). Came s ask' r t) two (subst (λ (a : Ask). Came s a result t) one came)
