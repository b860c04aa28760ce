-- When a cluster fits a state of files.
use Rattle.hdfs_cluster.specs.Files.{State, IsState}
use Rattle.hdfs_cluster.specs.Shown.{Shown}
use Rattle.hdfs_cluster.specs.Stores.{Agrees}

-- The cluster tells its picture, which agrees with the files of the state.
pub record Fits (shown : Shown) (state : State) : Type 0 where
  pub is_state : IsState state
  pub agrees : Agrees shown.picture state.files
