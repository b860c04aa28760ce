-- What is asked between two pipelines, and what comes of it.
use Rattle.std.proofs.Common.{◌≡◌, ◌≢◌, ◌⊎◌, inl, inr, ℕ, Bool, List, Some, refl}
use Rattle.std.specs.Prelude.{Result, Ok, Err}
use Rattle.hdfs_cluster.specs.declared.asks.Answer.{Answer}
use Rattle.hdfs_cluster.specs.declared.asks.Ask.{Ask}
use Rattle.hdfs_cluster.specs.declared.asks.AskFault.{AskFault}
use Rattle.hdfs_cluster.specs.declared.errors.HdfsError.{HdfsError}
use Rattle.hdfs_cluster.specs.declared.errors.HdfsError.TheVariants as errors
use Rattle.hdfs_cluster.specs.Failures.{CallsRose}
use Rattle.hdfs_cluster.specs.Effects.{KeepsBytes}
use Rattle.hdfs_cluster.specs.Namenode.{Row, FoundNothing, IsFalse, IsRefusal}
use Rattle.hdfs_cluster.specs.Picture.{Picture, SameButActive}
use Rattle.hdfs_cluster.specs.Repeating.{DoneOrNot, Leaves, Repeats}
use Rattle.hdfs_cluster.specs.Shown.{Shown, SameReadPlaces, Served}
use Rattle.hdfs_cluster.proofs.Frames.{told_weaker}
use Rattle.hdfs_namenode.specs.Asked.{AskedOnce, Through}
use Rattle.hdfs_namenode.specs.Relaying.{Came, TellsAsk}
use Rattle.hdfs_namenode.proofs.Observers.{once_leaves}
use Rattle.hdfs_namenode.proofs.Relayed.{relayed_done, relayed_rose, relayed_row}
use Rattle.hdfs_rebuild.specs.Between.{KeepsLinks}

-- an ask changes no link
pub leaves_links : (a b : Shown) → Leaves a b → KeepsLinks a b
leaves_links a b leaves = record {
  later = leaves.later;
  reads = record {
    links = leaves.reads;
    places = told_weaker KeepsBytes (SameReadPlaces a) a.picture b.picture (λ p q keeps link is. keeps.reads link) leaves.bytes;
  };
  writes = leaves.writes;
}

pub once_links : {C : Type 0} (shown : C → Shown) (serves : C → ℕ → Ask → Result Answer AskFault → C → Type 0)
    → ((old new : C) (i : ℕ) (ask : Ask) (result : Result Answer AskFault) → serves old i ask result new → Served (shown old) i ask result (shown new))
    → (write : Bool) (ask : Ask) (old : Through C) (outcome : Result Answer HdfsError) (new : Through C) → AskedOnce serves write ask old outcome new
    → KeepsLinks (shown old.cluster) (shown new.cluster)
once_links {C} shown serves rows write ask old outcome new asked =
    leaves_links (shown old.cluster) (shown new.cluster) (once_leaves shown serves rows write ask old outcome new asked)

-- what holds of the effect of an ask's row and of none holds
by_done : (R : Type 0) (ask : Ask) (p q : Picture) → (SameButActive p q → R) → ((answer : Answer) → Row p ask answer q → R) → DoneOrNot ask p q → R
by_done R ask p q same row (inl still) = same still
by_done R ask p q same row (inr done) = row done.0 done.2

-- an error is want of memory, or it isn't
memory_or_other : (error : HdfsError) → (error ≡ errors.NoMemory) ⊎ (error ≢ errors.NoMemory)
memory_or_other errors.NoMemory = inl refl
memory_or_other error = inr (λ is. absurd (cc))

-- Why nothing is answered: for want of memory, or since a namenode has failed. The error stands for its last answer.
abbrev pub Fails : Shown → Ask → HdfsError → Shown → Type 0
Fails a ask error b = (error ≡ errors.NoMemory)
    ⊎ ((error ≢ errors.NoMemory) × TellsAsk a b error
    × ((p : Picture) → a.picture ≡ Some p → Repeats ask p → ((class : List ℕ) → IsRefusal p ask class → ⊥) → CallsRose a.counts b))

-- One ask of a service that has all namenodes of the cluster, and what its caller has.
module _ {a b : Shown} {ask : Ask} where
  pub asked_links : {result : Result Answer HdfsError} → Came a ask result b → KeepsLinks a b
  asked_links {result} came = leaves_links a b came.relays.leaves

  -- Over a told picture in which the ask may be done again: what holds of the row's effect and of none holds.
  pub asked_told : {result : Result Answer HdfsError} → Came a ask result b → (R : Picture → Picture → Type 0) (p : Picture) → a.picture ≡ Some p
      → Repeats ask p → ((q : Picture) → SameButActive p q → R p q) → ((q : Picture) (answer : Answer) → Row p ask answer q → R p q)
      → (q : Picture) × (b.picture ≡ Some q) × R p q
  asked_told {result} came R p is repeats same row =
      let x = came.told p is repeats in (
        x.0,
        x.1,
        by_done (R p x.0) ask p x.0 (same x.0) (row x.0) (relayed_done (CallsRose a.counts b) p ask result x.0 came.relays.shaped x.2),
      )

  -- What is answered is by the row.
  pub asked_row : {answer : Answer} → Came a ask (Ok answer) b → (FoundNothing answer → ⊥) → (IsFalse answer → ⊥) → (p : Picture)
      → a.picture ≡ Some p → Repeats ask p → (q : Picture) × (b.picture ≡ Some q) × Row p ask answer q
  asked_row {answer} came found closed p is repeats =
      let x = came.told p is repeats in
      (x.0, x.1, relayed_row (CallsRose a.counts b) p ask answer x.0 found closed x.2)

  pub asked_error : {error : HdfsError} → Came a ask (Err error) b → Fails a ask error b
  asked_error {error} came = by_memory (memory_or_other error)
    where
      by_memory : (error ≡ errors.NoMemory) ⊎ (error ≢ errors.NoMemory) → Fails a ask error b
      by_memory (inl memory) = inl memory
      by_memory (inr other) = inr (
        other,
        came.relays.tells,
        λ p is repeats none.
            (let x = came.told p is repeats in
            relayed_rose (CallsRose a.counts b) p ask error x.0 other (λ refused. none refused.0 refused.2) x.2),
      )
