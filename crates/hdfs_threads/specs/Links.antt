-- What the two ends of a pipeline's connection show of themselves, and what a call of them does.
use Rattle.std.specs.Prelude.{◌≡◌, ◌≢◌, ℕ, ◌+◌, ◌<◌, ◌≤◌, List, [], ◌∷◌, ◌++◌, Option, Some, None, Result, IfOk, OnOk, OnErr, IfErr}
use Rattle.hdfs_wire.specs.Outgoing.{Outgoing}
use Rattle.hdfs_wire.specs.declared.ack.Ack.{Ack}
use Rattle.hdfs_cluster.specs.declared.asks.LinkFault.{LinkFault}
use Rattle.hdfs_cluster.specs.declared.asks.LinkFault.TheVariants as faults

-- the packets that were sent, where they are told, and how often a send has failed
pub record OutShown : Type 0 where
  pub sent : Option (List Outgoing)
  pub failures : ℕ

-- what was given, an acknowledgement or none, where it is told, and how often none came
pub record InShown : Type 0 where
  pub given : Option (List (Option Ack))
  pub failures : ℕ

-- where a list is told, these stand behind it afterwards
abbrev pub GoesOn : {X : Type 0} → Option (List X) → List X → Option (List X) → Type 0
GoesOn {X} before more after = (told : List X) → before ≡ Some told → after ≡ Some (told ++ more)

-- these packets more were sent
abbrev pub Took : OutShown → List Outgoing → OutShown → Type 0
Took before more after = GoesOn before.sent more after.sent

-- these were given besides
abbrev pub Gave : InShown → List (Option Ack) → InShown → Type 0
Gave before more after = GoesOn before.given more after.given

-- A packet was sent, or none was. A send that fails has a cause, but for want of memory.
pub record Sends {T : Type 0} (before : OutShown) (packet : Outgoing) (result : Result T LinkFault) (after : OutShown) : Type 0 where
  pub later : before.failures ≤ after.failures
  pub took : OnOk result (Took before (packet ∷ []) after)
  pub none : OnErr result (Took before [] after)
  pub cause : IfErr result (λ fault. fault ≢ faults.NoMemory → before.failures < after.failures)

-- An acknowledgement came, or none did. That none comes has a cause; where memory is wanting, nothing was given.
pub record Gives (before : InShown) (result : Result Ack LinkFault) (after : InShown) : Type 0 where
  pub later : before.failures ≤ after.failures
  pub gave : IfOk result (λ ack. Gave before (Some ack ∷ []) after)
  pub none : IfErr result (λ fault. fault ≢ faults.NoMemory → Gave before (None ∷ []) after)
  pub starved : IfErr result (λ fault. fault ≡ faults.NoMemory → Gave before [] after)
  pub cause : IfErr result (λ fault. fault ≢ faults.NoMemory → before.failures < after.failures)

-- how many acknowledgements there are among what was given
abbrev pub count_some : List (Option Ack) → ℕ
count_some [] = 0
count_some (Some ack ∷ given) = 1 + count_some given
count_some (None ∷ given) = count_some given

-- how often none came
abbrev pub count_none : List (Option Ack) → ℕ
count_none [] = 0
count_none (Some ack ∷ given) = count_none given
count_none (None ∷ given) = 1 + count_none given

-- what was given besides has so many acknowledgements, and so often none came
abbrev pub GaveSo : InShown → ℕ → ℕ → InShown → Type 0
GaveSo before acked failed after =
    (more : List (Option Ack)) × Gave before more after × (acked ≡ count_some more) × (failed ≡ count_none more)
