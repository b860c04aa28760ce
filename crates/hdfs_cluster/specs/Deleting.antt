-- What goes with a path that is deleted, and what keeps it from being deleted.
use Rattle.std.specs.Prelude.{◌≡◌, ◌≢◌, ℕ, Bool, true, false, List, Contains, Option, None, IsSome, if◌then◌else◌}
use Rattle.hdfs_cluster.specs.declared.picture.BlockEntry.{BlockEntry}
use Rattle.hdfs_cluster.specs.declared.picture.Entry.{Entry}
use Rattle.hdfs_cluster.specs.Effects.{blocks_at}
use Rattle.hdfs_cluster.specs.Names.{HasBelow, is_within}
use Rattle.hdfs_names.specs.Paths.{root}

-- the block is one of a file at the path or below it
pub record IsBlockWithin (names : List ℕ → Option Entry) (dir : List ℕ) (id : ℕ) : Type 0 where
  pub path : List ℕ
  pub within : is_within dir path ≡ true
  pub has : Contains (blocks_at (names path)) id

-- What stands at a path and below it goes, with the blocks of its files, and all else stays. The path isn't the root, and nothing is below
-- it where nothing may go with it.
pub record DeletesFrom (names : List ℕ → Option Entry) (table : ℕ → Option BlockEntry) (src : List ℕ) (recursive : Bool)
    (names' : List ℕ → Option Entry) (table' : ℕ → Option BlockEntry) : Type 0 where
  pub there : IsSome (names src)
  pub not_root : src ≢ root
  pub alone : recursive ≡ false → HasBelow names src → ⊥
  pub named : (q : List ℕ) → names' q ≡ (if is_within src q then None else names q)
  pub gone : (id : ℕ) → IsBlockWithin names src id → table' id ≡ None
  pub stay : (id : ℕ) → (IsBlockWithin names src id → ⊥) → table' id ≡ table id

-- nothing is to go with a directory, and something is below it
pub record IsNotEmpty (names : List ℕ → Option Entry) (src : List ℕ) (recursive : Bool) : Type 0 where
  pub alone : recursive ≡ false
  pub below : HasBelow names src
