-- What an ask that goes from namenode to namenode comes to, for the caller.
use Rattle.std.specs.Prelude.{◌≡◌, ◌⊎◌, ◌<◌, true, false, List, All, Any, Contains, ℕ, Option, Some, None, Result, Ok, Err, IfOk, IfErr}
use Rattle.hdfs_cluster.specs.declared.asks.Ask.{Ask}
use Rattle.hdfs_cluster.specs.declared.asks.Ask.TheVariants as asks
use Rattle.hdfs_cluster.specs.declared.asks.Answer.{Answer}
use Rattle.hdfs_cluster.specs.declared.asks.Answer.TheVariants as answers
use Rattle.hdfs_cluster.specs.declared.asks.AskFault.{AskFault}
use Rattle.hdfs_cluster.specs.declared.asks.AskFault.TheVariants as faults
use Rattle.hdfs_cluster.specs.declared.errors.HdfsError.{HdfsError}
use Rattle.hdfs_cluster.specs.declared.errors.HdfsError.TheVariants as errors
use Rattle.hdfs_cluster.specs.declared.errors.IoFault.TheVariants as io_faults
use Rattle.hdfs_cluster.specs.declared.messages.ServerDefaults.{ServerDefaults}
use Rattle.hdfs_cluster.specs.declared.picture.LastAnswer.TheVariants as last_answers
use Rattle.hdfs_cluster.specs.Counts.{Rose, RoseTwice}
use Rattle.hdfs_cluster.specs.Failures.{CallsRose, IsOfAsk, Means}
use Rattle.hdfs_cluster.specs.Namenode.{Row, FoundNothing, IsShaped, IsRefusal, IsFalse, is_retriable}
use Rattle.hdfs_cluster.specs.Picture.{Picture, SameButActive}
use Rattle.hdfs_cluster.specs.Repeating.{Done, DoneOrNot, Leaves, Repeats}
use Rattle.hdfs_cluster.specs.Shown.{Shown, Later}
use Rattle.hdfs_namenode.specs.Asked.{SameService, Through, as_answer, exception_error, order_of}

-- What an error of an ask tells over any cluster: the last answer of a namenode was that for which it stands, and where that was none
-- a namenode has failed, twice where its connection broke. Want of memory tells nothing.
abbrev pub TellsAsk : Shown → Shown → HdfsError → Type 0
TellsAsk old new error = IsOfAsk error × Means old new error

-- Between the two the namenode answered the ask with an exception for which another namenode is asked.
pub record HasPassedOn {C : Type 0} (shown : C → Shown) (serves : C → ℕ → Ask → Result Answer AskFault → C → Type 0) (ask : Ask) (old new : C)
    (i : ℕ) : Type 0 where
  pub before : C
  pub after : C
  pub class : List ℕ
  pub message : List ℕ
  pub retriable : is_retriable class ≡ true
  pub gave : serves before i ask (Err (faults.Exception class message)) after
  pub since : Later (shown old) (shown before)
  pub until : Later (shown after) (shown new)

-- the namenode has failed between the two
abbrev pub RoseAt : Shown → Shown → ℕ → Type 0
RoseAt old new i = Rose (old.counts.calls i) (new.counts.calls i)

-- that, or it passed the ask on
abbrev pub HasGivenUp : {C : Type 0} → (C → Shown) → (C → ℕ → Ask → Result Answer AskFault → C → Type 0) → Ask → C → C → ℕ → Type 0
HasGivenUp shown serves ask old new i = HasPassedOn shown serves ask old new i ⊎ RoseAt (shown old) (shown new) i

-- Why an ask of namenodes in this order has no answer, over any cluster: each of them has passed it on or has failed, and one has failed,
-- the last one twice where its connection broke. Other errors stand for what one has answered, or for want of memory.
abbrev pub HasNoAnswer : {C : Type 0} → (C → Shown) → (C → ℕ → Ask → Result Answer AskFault → C → Type 0) → List ℕ → Ask → C → C → HdfsError → Type 0
HasNoAnswer shown serves order ask old new (errors.IOError (io_faults.Namenode last)) =
    All (HasGivenUp shown serves ask old new) order × Contains order last
    × RoseTwice ((shown old).counts.calls last) ((shown new).counts.calls last)
HasNoAnswer shown serves order ask old new (errors.InvalidRPCResponse fault) =
    All (HasGivenUp shown serves ask old new) order × Any (RoseAt (shown old) (shown new)) order
HasNoAnswer shown serves order ask old new (errors.FatalRPCError class message) =
    All (HasGivenUp shown serves ask old new) order × Any (RoseAt (shown old) (shown new)) order
HasNoAnswer shown serves order ask old new error = Unit {0}

-- Why an ask of a service has no answer: its namenodes were asked in order, it or an msync that went before it, and have given none.
pub record LacksAnswer {C : Type 0} (shown : C → Shown) (serves : C → ℕ → Ask → Result Answer AskFault → C → Type 0) (ask : Ask) (old : Through C)
    (new : C) (error : HdfsError) : Type 0 where
  pub from : Through C
  pub service : SameService old.proxy from.proxy
  pub later : Later (shown old.cluster) (shown from.cluster)
  pub asked : Ask
  pub is : (asked ≡ ask) ⊎ (asked ≡ asks.Msync)
  pub none : HasNoAnswer shown serves (order_of from.proxy) asked from.cluster new error

-- the error stands for an exception that refuses the ask
abbrev pub RefusedBy : Picture → Ask → HdfsError → Type 0
RefusedBy p ask error = (class : List ℕ) × (message : List ℕ) × IsRefusal p ask class × (error ≡ exception_error class message)

-- From one picture to the next, for an ask of several namenodes, some of which has failed or not: what is answered is by the row, but
-- for the answer of a deletion that finds nothing, since a namenode that has failed has done it before, and for the answer that a file isn't
-- closed. An error has changed nothing, or the ask may be done nevertheless.
abbrev pub RelaysTold : Type 0 → Picture → Ask → Result Answer HdfsError → Picture → Type 0
RelaysTold risen p ask (Ok answer) q =
    Row p ask answer q ⊎ (FoundNothing answer × risen × Done ask p q) ⊎ (IsFalse answer × risen × DoneOrNot ask p q)
RelaysTold risen p ask (Err error) q =
    ((error ≡ errors.NoMemory) × DoneOrNot ask p q)
    ⊎ (RefusedBy p ask error × SameButActive p q)
    ⊎ (risen × DoneOrNot ask p q)

-- What an ask leaves over any cluster; its answer is of its ask, and false to `complete` says that a namenode has failed. Its error tells
-- the last answer of a namenode.
pub record Relays (old : Shown) (ask : Ask) (result : Result Answer HdfsError) (new : Shown) : Type 0 where
  pub leaves : Leaves old new
  pub shaped : IfOk result (IsShaped ask)
  pub tells : IfErr result (TellsAsk old new)
  pub fine : IfOk result (λ answer. new.last ≡ last_answers.Fine)
  pub denied : IfOk result (λ answer. IsFalse answer → CallsRose old.counts new)

-- What an ask of all namenodes of a cluster has come to: over any cluster, and over a told picture, from which it may be done more than once.
pub record Came (old : Shown) (ask : Ask) (result : Result Answer HdfsError) (new : Shown) : Type 0 where
  pub relays : Relays old ask result new
  pub told : (p : Picture) → old.picture ≡ Some p → Repeats ask p
      → (q : Picture) × (new.picture ≡ Some q) × RelaysTold (CallsRose old.counts new) p ask result q

-- What asking for the server defaults has come to, which are asked for once: they were known, and nothing was asked; or they were asked for.
pub record CameCached (was : Option ServerDefaults) (old : Shown) (result : Result ServerDefaults HdfsError) (new : Shown) : Type 0 where
  pub known : (kept : ServerDefaults) → was ≡ Some kept → (result ≡ Ok kept) × (new ≡ old)
  pub asked : was ≡ None → Came old asks.GetServerDefaults (as_answer answers.GetServerDefaults result) new
