-- How directories come into a cluster in memory, and how what stands at a path goes.
use Rattle.std.specs.Prelude.{◌≡◌, ◌⊎◌, ℕ, ◌==◌, Bool, true, false, List, [], Option, IsSome}
use Rattle.std.specs.List.{list_any}
use Rattle.std.specs.Str.{bytes_eq}
use Rattle.hdfs_cluster.specs.declared.asks.AskFault.{AskFault}
use Rattle.hdfs_cluster.specs.declared.asks.AskFault.TheVariants as faults
use Rattle.hdfs_cluster.specs.declared.picture.BlockEntry.{BlockEntry}
use Rattle.hdfs_cluster.specs.declared.picture.Entry.{Entry}
use Rattle.hdfs_cluster.specs.declared.picture.Entry.TheVariants as entries
use Rattle.hdfs_cluster.specs.Deleting.{DeletesFrom, IsNotEmpty}
use Rattle.hdfs_cluster.specs.Effects.{blocks_at}
use Rattle.hdfs_cluster.specs.Listing.{IsMissing}
use Rattle.hdfs_cluster.specs.Namenode.{StandsForAny, not_empty}
use Rattle.hdfs_cluster.specs.Picture.{kinds_in}
use Rattle.hdfs_cluster.specs.Refusals.{with_parents, above_refusal}
use Rattle.hdfs_names.specs.Paths.{root, ancestors}
use Rattle.hdfs_mem_namenode.specs.Adding.{Space}

-- nothing changes
pub record SameSpace (old new : Space) : Type 0 where
  pub names : (path : List ℕ) → new.names path ≡ old.names path
  pub table : (id : ℕ) → new.table id ≡ old.table id
  pub held : (node : List ℕ) (id : ℕ) → new.held node id ≡ old.held node id

-- a directory stands at the path, and at each path above it at which nothing stood; all else stays
pub record MakesDirectory (old : Space) (path : List ℕ) (new : Space) : Type 0 where
  pub names : (q : List ℕ) → new.names q ≡ with_parents old.names entries.Dir path entries.Dir q
  pub table : (id : ℕ) → new.table id ≡ old.table id
  pub held : (node : List ℕ) (id : ℕ) → new.held node id ≡ old.held node id

-- whether a block is one of a file at one of these paths
abbrev pub frees : (List ℕ → Option Entry) → List (List ℕ) → ℕ → Bool
frees names keys id = list_any (λ key. list_any (λ other. other == id) (blocks_at (names key))) keys

-- what stands below one of these paths is one of them
abbrev pub IsClosed : (List ℕ → Option Entry) → List (List ℕ) → Type 0
IsClosed names keys = (q : List ℕ) → IsSome (names q) → list_any (λ ancestor. list_any (bytes_eq ancestor) keys) (ancestors q) ≡ true → list_any (bytes_eq q) keys ≡ true

-- What stood at a path and below it is deleted; or nothing stands there, or it is the root, and nothing changes.
abbrev pub DeletesOrNot : (List ℕ → Option Entry) → (ℕ → Option BlockEntry) → List ℕ → Bool → (List ℕ → Option Entry) → (ℕ → Option BlockEntry) → Bool → Type 0
DeletesOrNot names table src recursive names' table' true = DeletesFrom names table src recursive names' table'
DeletesOrNot names table src recursive names' table' false =
    ((src ≡ root) ⊎ IsMissing names src)
    × ((path : List ℕ) → names' path ≡ names path) × ((id : ℕ) → table' id ≡ table id)

-- a file stands above the path, or the directory there isn't empty
abbrev pub StandsForKept : (List ℕ → Option Entry) → List ℕ → Bool → AskFault → Type 0
StandsForKept names src recursive faults.NoMemory = Unit {0}
StandsForKept names src recursive (faults.Exception class message) =
    (StandsForAny (kinds_in names src) (above_refusal (kinds_in names) src) class ⊎ (IsNotEmpty names src recursive × (class ≡ not_empty))) × (message ≡ [])
StandsForKept names src recursive fault = ⊥
