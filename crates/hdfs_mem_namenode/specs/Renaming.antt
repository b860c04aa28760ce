-- How a file of a cluster in memory is renamed.
use Rattle.std.specs.Prelude.{◌≡◌, ◌⊎◌, ℕ, false, List, [], Option, None, if◌then◌else◌}
use Rattle.std.specs.Str.{bytes_eq}
use Rattle.hdfs_cluster.specs.declared.asks.AskFault.{AskFault}
use Rattle.hdfs_cluster.specs.declared.asks.AskFault.TheVariants as faults
use Rattle.hdfs_cluster.specs.Files.{Kind}
use Rattle.hdfs_cluster.specs.Namenode.{StandsForAny}
use Rattle.hdfs_cluster.specs.Refusals.{append_refusal, create_refusal}

-- what stood at one path stands at another, and nothing stands where it stood; what stands at all other paths stays
abbrev pub moved : {X : Type 0} → (List ℕ → Option X) → List ℕ → List ℕ → List ℕ → Option X
moved map src dst q = if bytes_eq dst q then map src else if bytes_eq src q then None else map q

-- A closed file stands at a path, so that it could be appended to, and another path is free in a directory, so that a file could be
-- created there: nothing takes the place of another.
pub record MayMove (kinds : List ℕ → Option Kind) (src dst : List ℕ) : Type 0 where
  pub closed : append_refusal kinds src ≡ None
  pub free : create_refusal kinds dst false false ≡ None

-- the exception of this class stands for why no closed file stands at the first path, or else for why none can stand at the second
abbrev pub IsMoveRefusal : (List ℕ → Option Kind) → List ℕ → List ℕ → List ℕ → Type 0
IsMoveRefusal kinds src dst class =
    StandsForAny (kinds src) (append_refusal kinds src) class
    ⊎ ((append_refusal kinds src ≡ None) × StandsForAny (kinds dst) (create_refusal kinds dst false false) class)

-- that, or want of memory
abbrev pub StandsForUnmoved : (List ℕ → Option Kind) → List ℕ → List ℕ → AskFault → Type 0
StandsForUnmoved kinds src dst faults.NoMemory = Unit {0}
StandsForUnmoved kinds src dst (faults.Exception class message) = IsMoveRefusal kinds src dst class × (message ≡ [])
StandsForUnmoved kinds src dst fault = ⊥
