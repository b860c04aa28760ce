-- How an ask goes from namenode to namenode until one of them answers.
use Rattle.std.specs.Prelude.{◌≡◌, ◌⊎◌, ℕ, zero, suc, ◌+◌, ◌==◌, Bool, true, false, List, [], ◌∷◌, ◌++◌, Result, Ok, Err, if◌then◌else◌}
use Rattle.hdfs_cluster.specs.declared.asks.Ask.{Ask}
use Rattle.hdfs_cluster.specs.declared.asks.Answer.{Answer}
use Rattle.hdfs_cluster.specs.declared.asks.AskFault.{AskFault}
use Rattle.hdfs_cluster.specs.declared.asks.AskFault.TheVariants as faults
use Rattle.hdfs_cluster.specs.Namenode.{is_retriable}

-- the next namenode is asked behind this
abbrev pub passes_on : Result Answer AskFault → Bool
passes_on (Ok answer) = false
passes_on (Err faults.NoMemory) = false
passes_on (Err faults.Broken) = true
passes_on (Err (faults.BadReply fault)) = true
passes_on (Err (faults.Exception class message)) = is_retriable class
passes_on (Err (faults.Fatal class message)) = true

-- the connection broke
abbrev pub is_broken : Result Answer AskFault → Bool
is_broken (Ok answer) = false
is_broken (Err faults.Broken) = true
is_broken (Err fault) = false

-- one namenode was asked: once, or once more where the connection broke
abbrev pub AsksOne : {C : Type 0} → (C → ℕ → Ask → Result Answer AskFault → C → Type 0) → ℕ → Ask → C → Result Answer AskFault → C → Type 0
AsksOne {C} serves i ask old given new =
    (serves old i ask given new × (is_broken given ≡ false))
    ⊎ ((mid : C) × serves old i ask (Err faults.Broken) mid × serves mid i ask given new)

-- these namenodes were asked one behind another, and each passed the ask on
abbrev pub PassedOn : {C : Type 0} → (C → ℕ → Ask → Result Answer AskFault → C → Type 0) → List ℕ → Ask → C → C → Type 0
PassedOn serves [] ask old new = new ≡ old
PassedOn {C} serves (i ∷ others) ask old new =
    (passed : Result Answer AskFault) × (mid : C) × AsksOne serves i ask old passed mid × (passes_on passed ≡ true)
    × PassedOn serves others ask mid new

-- Namenodes were asked in this order: those in front passed the ask on, and the last one asked gave this. None is left
-- behind it, or it didn't pass the ask on.
pub record AsksInOrder {C : Type 0} (serves : C → ℕ → Ask → Result Answer AskFault → C → Type 0) (order : List ℕ) (ask : Ask) (old : C)
    (last : ℕ) (given : Result Answer AskFault) (new : C) : Type 0 where
  pub front : List ℕ
  pub left : List ℕ
  pub in_order : order ≡ front ++ last ∷ left
  pub mid : C
  pub passed : PassedOn serves front ask old mid
  pub asked : AsksOne serves last ask mid given new
  pub ends : passes_on given ≡ true → left ≡ []

-- so many numbers from one on, without this one
abbrev pub numbers_but : ℕ → ℕ → ℕ → List ℕ
numbers_but without from zero = []
numbers_but without from (suc count) =
    if from == without then numbers_but without (from + 1) count else from ∷ numbers_but without (from + 1) count

-- the order in which namenodes are asked: first the one that is remembered, then the others by their numbers
abbrev pub order_from : ℕ → ℕ → ℕ → List ℕ
order_from remembered first count = remembered ∷ numbers_but remembered first count
