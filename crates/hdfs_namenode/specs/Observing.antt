-- What goes before an ask, for the one who makes it.
use Rattle.std.specs.Prelude.{◌≡◌, ℕ, ◌==◌, Bool, true, false, Option, Some, None, Result, Ok, Err}
use Rattle.hdfs_cluster.specs.declared.asks.Ask.{Ask}
use Rattle.hdfs_cluster.specs.declared.asks.Ask.TheVariants as asks
use Rattle.hdfs_cluster.specs.declared.asks.Answer.{Answer}
use Rattle.hdfs_cluster.specs.declared.asks.AskFault.{AskFault}
use Rattle.hdfs_cluster.specs.declared.asks.Answer.TheVariants as answers
use Rattle.hdfs_cluster.specs.declared.asks.AskFault.TheVariants as faults
use Rattle.hdfs_cluster.specs.declared.errors.HdfsError.{HdfsError}
use Rattle.hdfs_cluster.specs.declared.errors.HdfsError.TheVariants as errors
use Rattle.hdfs_namenode.specs.Asked.{AskedInOrder, AskedInStep, AskedObserved, Syncs, Through, needs_sync}

-- an msync was answered, or refused
abbrev pub SyncEnds : {C : Type 0} → (C → ℕ → Ask → Result Answer AskFault → C → Type 0) → Through C → Result (Unit {0}) HdfsError → Through C → Type 0
SyncEnds serves old (Ok ok) new = Syncs serves old new
SyncEnds serves old (Err error) new = AskedInOrder serves true asks.Msync old (Err error) new

-- it was, where one is needed, and else nothing
pub record SyncsFirst {C : Type 0} (serves : C → ℕ → Ask → Result Answer AskFault → C → Type 0) (write : Bool) (old : Through C)
    (result : Result (Unit {0}) HdfsError) (new : Through C) : Type 0 where
  pub unneeded : needs_sync write old.proxy ≡ false → (result ≡ Ok tt) × (new ≡ old)
  pub needed : needs_sync write old.proxy ≡ true → SyncEnds serves old result new

-- What comes of an ask of an observer: an answer, want of memory, or that the namenodes are still to be asked in order.
abbrev pub ByObserver : {C : Type 0} → (C → ℕ → Ask → Result Answer AskFault → C → Type 0) → Ask → Through C → Result (Option Answer) HdfsError
    → Through C → Type 0
ByObserver serves ask old (Ok (Some answer)) mid = AskedObserved serves ask old (Ok answer) mid
ByObserver {C} serves ask old (Ok None) mid =
    (outcome : Result Answer HdfsError) (new : Through C) → AskedInOrder serves false ask mid outcome new → AskedObserved serves ask old outcome new
ByObserver serves ask old (Err error) mid = AskedObserved serves ask old (Err error) mid

-- the same of an ask that goes to an observer first or not
abbrev pub InStep : {C : Type 0} → (C → ℕ → Ask → Result Answer AskFault → C → Type 0) → Bool → Ask → Through C → Result (Option Answer) HdfsError
    → Through C → Type 0
InStep serves write ask old (Ok (Some answer)) mid = AskedInStep serves write ask old (Ok answer) mid
InStep {C} serves write ask old (Ok None) mid =
    (outcome : Result Answer HdfsError) (new : Through C) → AskedInOrder serves write ask mid outcome new → AskedInStep serves write ask old outcome new
InStep serves write ask old (Err error) mid = AskedInStep serves write ask old (Err error) mid

-- what an observer has answered, if it has, or that there was no memory
abbrev pub by_observer : Result Answer AskFault → Result (Option Answer) HdfsError
by_observer (Ok answer) = Ok (Some answer)
by_observer (Err faults.NoMemory) = Err errors.NoMemory
by_observer (Err fault) = Ok None

-- an observer has given no answer
abbrev pub is_unanswered : Result (Option Answer) HdfsError → Bool
is_unanswered (Ok None) = true
is_unanswered (Ok (Some answer)) = false
is_unanswered (Err error) = false

-- whether a namenode says that it is an observer, or that there was no memory
abbrev pub said_by : Result Answer AskFault → Result Bool HdfsError
said_by (Ok (answers.GetHaServiceState state)) = Ok (state == 3)
said_by (Err faults.NoMemory) = Err errors.NoMemory
said_by given = Ok false

-- a namenode was asked for its state, and said this
abbrev pub SaysState : {C : Type 0} → (C → ℕ → Ask → Result Answer AskFault → C → Type 0) → ℕ → C → Result Bool HdfsError → C → Type 0
SaysState serves i old result new = (given : Result Answer AskFault) × serves old i asks.GetHaServiceState given new × (result ≡ said_by given)
