-- A client's leases are renewed, service by service.
use Rattle.std.specs.Prelude.{◌≡◌, ℕ, ◌-◌, ◌/◌, ◌<◌, ◌≤◌, nat_lt, List, [], ◌∷◌, Option, Some, None, Result, Ok, Err, if◌then◌else◌}
use Rattle.hdfs_cluster.specs.declared.asks.Ask.{Ask}
use Rattle.hdfs_cluster.specs.declared.asks.Answer.{Answer}
use Rattle.hdfs_cluster.specs.declared.asks.AskFault.{AskFault}
use Rattle.hdfs_cluster.specs.declared.errors.HdfsError.{HdfsError}
use Rattle.hdfs_cluster.specs.declared.errors.HdfsError.TheVariants as errors
use Rattle.hdfs_cluster.specs.Requests.{Request}
use Rattle.hdfs_leases.specs.Leases.{HoldsSame, IsIdle, last_of}
use Rattle.hdfs_namenode.specs.Clients.{SameButLeases, leases_of, name_of, through}
use Rattle.hdfs_namenode.specs.Renewing.{LetsRenew, Renews}
use Rattle.hdfs_namenode.specs.declared.leases.LeaseTurn.{LeaseTurn}
use Rattle.hdfs_namenode.specs.declared.leases.LeaseTurn.TheVariants.{Idle, Waiting, Renewed, Missed}
use Rattle.hdfs_namenode.specs.declared.protocol.NamenodeProtocol.{NamenodeProtocol}
use Rattle.hdfs_client.specs.Clients.{service_at}
use Rattle.hdfs_client.specs.declared.client.Client.{Client}

-- What a service did with its leases at a moment. Where none is held it asks nothing, nor where they aren't due.
pub record StepsOnce {C : Type 0} (serves : C → ℕ → Ask → Result Answer AskFault → C → Type 0) (moment : ℕ) (before : NamenodeProtocol) (old : C)
    (turn : Result LeaseTurn HdfsError) (after : NamenodeProtocol) (new : C) : Type 0 where
  pub idle : IsIdle (leases_of before)
      → (turn ≡ Ok Idle) × (last_of (leases_of after) ≡ None) × (through after new ≡ through before old)
  pub first : ¬ IsIdle (leases_of before) → last_of (leases_of before) ≡ None
      → (turn ≡ Ok Waiting) × (last_of (leases_of after) ≡ Some moment) × (through after new ≡ through before old)
  pub waits : (last : ℕ) → ¬ IsIdle (leases_of before) → last_of (leases_of before) ≡ Some last → (moment - last) / 1000 ≤ 30
      → (turn ≡ Ok Waiting) × (last_of (leases_of after) ≡ Some last) × (through after new ≡ through before old)
  pub due : (last : ℕ) → ¬ IsIdle (leases_of before) → last_of (leases_of before) ≡ Some last → 30 < (moment - last) / 1000
      → Renews serves moment last (name_of before) (leases_of before) (through before old) turn (last_of (leases_of after)) (through after new)
  pub held : HoldsSame (leases_of before) (leases_of after)
  pub keeps : SameButLeases before after

-- the services did so one behind another, each once, and came to these turns
abbrev pub StepsAll : {C : Type 0} → (C → ℕ → Ask → Result Answer AskFault → C → Type 0) → ℕ → List NamenodeProtocol → C
    → List (Result LeaseTurn HdfsError) → List NamenodeProtocol → C → Type 0
StepsAll serves moment [] old [] [] new = new ≡ old
StepsAll {C} serves moment (before ∷ services) old (turn ∷ turns) (after ∷ services') new =
    (mid : C) × StepsOnce serves moment before old turn after mid × StepsAll serves moment services mid turns services' new
StepsAll serves moment services old turns services' new = ⊥

-- the order of turns
abbrev pub rank : LeaseTurn → ℕ
rank Idle = 0
rank Waiting = 1
rank Renewed = 2
rank Missed = 3

-- the later of two turns in that order
abbrev pub later : LeaseTurn → LeaseTurn → LeaseTurn
later first second = if nat_lt (rank first) (rank second) then second else first

-- what two steps come to; none where there was no memory for one
abbrev pub both : Option LeaseTurn → Result LeaseTurn HdfsError → Option LeaseTurn
both (Some first) (Ok second) = Some (later first second)
both (Some first) (Err error) = None
both None second = None

-- what all of them come to, behind this
abbrev pub all_of : Option LeaseTurn → List (Result LeaseTurn HdfsError) → Option LeaseTurn
all_of so_far [] = so_far
all_of so_far (turn ∷ turns) = all_of (both so_far turn) turns

-- none is want of memory
abbrev pub or_memory : Option LeaseTurn → Result LeaseTurn HdfsError
or_memory (Some turn) = Ok turn
or_memory None = Err errors.NoMemory

-- All services of a client have done with their leases what was due, each once, in their order, and the caller is told the latest of their
-- turns in the order Idle, Waiting, Renewed, Missed; or that there was no memory for one.
pub record StepsServices {C : Type 0} (serves : C → ℕ → Ask → Result Answer AskFault → C → Type 0) (moment : ℕ) (services : List NamenodeProtocol)
    (old : C) (result : Result LeaseTurn HdfsError) (services' : List NamenodeProtocol) (new : C) : Type 0 where
  pub turns : List (Result LeaseTurn HdfsError)
  pub steps : StepsAll serves moment services old turns services' new
  pub is : result ≡ or_memory (all_of (Some Idle) turns)

-- leave to renew the leases of each service
abbrev pub LetsRenewAll : (Request → Type 0) → Client → Type 0
LetsRenewAll allows client = (k : ℕ) (namenode : NamenodeProtocol) → service_at client k ≡ Some namenode → LetsRenew allows (name_of namenode)
