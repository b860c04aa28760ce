-- A cluster and the state of the files, as one command meets them.
use Rattle.std.specs.Prelude.{◌≡◌, ℕ, List, Option, Some, IfSome, true, false}
use Rattle.hdfs_cluster.specs.declared.messages.ServerDefaults.{ServerDefaults}
use Rattle.hdfs_cluster.specs.Files.{State, Writing, Content}
use Rattle.hdfs_names.specs.Paths.{is_path, absolute}
use Rattle.hdfs_model.specs.Steps.{World, is_opened}
use Rattle.hdfs_model.specs.Sessions.{defaults_of}
use Rattle.hdfs_cluster.specs.Shown.{Shown}
use Rattle.hdfs_cluster.specs.Stores.{Agrees}

-- what is known of the defaults is the cluster's
abbrev pub KnowsDefaults : Shown → Option ServerDefaults → Type 0
KnowsDefaults shown known = IfSome known (λ defaults. defaults ≡ defaults_of shown.picture)

-- the world has the cluster's defaults, and so has who knows any
pub record KnowsWorld (world : World) (shown : Shown) (known : Option ServerDefaults) : Type 0 where
  pub defaults : world.defaults ≡ defaults_of shown.picture
  pub knows : KnowsDefaults shown known

-- A cluster that tells its picture, which agrees with the files. A command that calls a file `name` is done at this
-- path, which the session hasn't open, and whose file nobody writes.
pub record Meets (world : World) (shown : Shown) (state : State) (name path : List ℕ) : Type 0 where
  pub agrees : Agrees shown.picture state.files
  pub called : absolute world.home name ≡ path
  pub is_path : is_path path ≡ true
  pub not_open : is_opened state path ≡ false
  pub closed : (content : Content) → state.files path ≡ Some (Writing content) → ⊥
