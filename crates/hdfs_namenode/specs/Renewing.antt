-- How the leases of a client are renewed.
use Rattle.std.specs.Prelude.{◌≡◌, ◌⊎◌, ◌↔◌, ℕ, ◌<◌, true, List, Contains, Option, Some, None, Result, Ok, Err}
use Rattle.std.specs.Cmp.Lexicographic.{slice_cmp}
use Rattle.std.specs.List.Sorted.{IsStrictlySortedBy}
use Rattle.std.specs.Ordering.{nat_cmp}
use Rattle.hdfs_leases.specs.Leases.{held}
use Rattle.hdfs_leases.specs.declared.file_leases.FileLeases.{FileLeases}
use Rattle.hdfs_cluster.specs.declared.asks.Ask.{Ask}
use Rattle.hdfs_cluster.specs.declared.asks.Ask.TheVariants as asks
use Rattle.hdfs_cluster.specs.declared.asks.Answer.{Answer}
use Rattle.hdfs_cluster.specs.declared.asks.Answer.TheVariants as answers
use Rattle.hdfs_cluster.specs.declared.asks.AskFault.{AskFault}
use Rattle.hdfs_cluster.specs.Requests.{Request, AskOf}
use Rattle.hdfs_cluster.specs.declared.errors.HdfsError.{HdfsError}
use Rattle.hdfs_cluster.specs.declared.errors.HdfsError.TheVariants as errors
use Rattle.hdfs_namenode.specs.Asked.{AskedOnce, Through, as_answer}
use Rattle.hdfs_namenode.specs.declared.leases.LeaseTurn.{LeaseTurn}
use Rattle.hdfs_namenode.specs.declared.leases.LeaseTurn.TheVariants.{Renewed, Missed}

-- leave to renew the leases of a client, in whatever namespaces they are held
abbrev pub LetsRenew : (Request → Type 0) → List ℕ → Type 0
LetsRenew allows client = (namespaces : List (List ℕ)) → allows (AskOf (asks.RenewLease client namespaces))

-- The names are those of the namespaces in which a file stands of which a lease is held, each once, in the order of their bytes.
pub record AreNamespaces (leases : FileLeases) (names : List (List ℕ)) : Type 0 where
  pub ascending : IsStrictlySortedBy (slice_cmp nat_cmp) names
  pub exact : (name : List ℕ) → Contains names name ↔ ((id : ℕ) × (0 < held leases (Some name) id))

-- what a turn with this renewal comes to: none for want of memory
abbrev pub turn_of : Result (Unit {0}) HdfsError → Option LeaseTurn
turn_of (Ok done) = Some Renewed
turn_of (Err errors.NoMemory) = None
turn_of (Err error) = Some Missed

-- A turn ends. Unless it is for want of memory, the next renewal is counted from its moment.
abbrev pub EndsTurn : ℕ → ℕ → Option LeaseTurn → Result LeaseTurn HdfsError → Option ℕ → Type 0
EndsTurn moment last (Some turn) result last' = (result ≡ Ok turn) × (last' ≡ Some moment)
EndsTurn moment last None result last' = (result ≡ Err errors.NoMemory) × (last' ≡ Some last)

-- the leases of a client of this name were to be renewed once, in all namespaces in which they are held
pub record RenewsOnce {C : Type 0} (serves : C → ℕ → Ask → Result Answer AskFault → C → Type 0) (moment last : ℕ) (client : List ℕ)
    (leases : FileLeases) (old : Through C) (result : Result LeaseTurn HdfsError) (last' : Option ℕ) (new : Through C) : Type 0 where
  pub namespaces : List (List ℕ)
  pub all : AreNamespaces leases namespaces
  pub renewed : Result (Unit {0}) HdfsError
  pub asked : AskedOnce serves true (asks.RenewLease client namespaces) old (as_answer (λ done. answers.RenewLease) renewed) new
  pub ends : EndsTurn moment last (turn_of renewed) result last'

-- there was no memory for their names, and nothing was asked
pub record RunsOut {C : Type 0} (last : ℕ) (old : Through C) (result : Result LeaseTurn HdfsError) (last' : Option ℕ) (new : Through C) : Type 0 where
  pub same : new ≡ old
  pub is : result ≡ Err errors.NoMemory
  pub kept : last' ≡ Some last

-- the leases were renewed at this moment, or missed, or there was no memory to ask for it
abbrev pub Renews : {C : Type 0} → (C → ℕ → Ask → Result Answer AskFault → C → Type 0) → ℕ → ℕ → List ℕ → FileLeases → Through C
    → Result LeaseTurn HdfsError → Option ℕ → Through C → Type 0
Renews serves moment last client leases old result last' new =
    RenewsOnce serves moment last client leases old result last' new ⊎ RunsOut last old result last' new
