-- What is known of the cluster's defaults is known of its picture's.
use Rattle.std.proofs.Common.{◌≡◌, Option, Some, None, sym, ◌∙◌, ap}
use Rattle.hdfs_cluster.specs.declared.messages.ServerDefaults.{ServerDefaults}
use Rattle.hdfs_cluster.specs.Picture.{Picture}
use Rattle.hdfs_cluster.specs.Shown.{Shown}
use Rattle.hdfs_model.specs.Sessions.{defaults_of as cluster_defaults}
use Rattle.hdfs_file_reader.specs.Transferring.{AreDefaultsOf}
use Rattle.hdfs_commands.specs.Meeting.{KnowsDefaults}

-- what is known of the cluster's defaults is known of its picture's, and the other way round
pub told_known : (s : Shown) (p : Picture) (known : Option ServerDefaults) → s.picture ≡ Some p → KnowsDefaults s known → AreDefaultsOf p known
told_known s p None told knows = tt
told_known s p (Some d) told knows = knows ∙ ap cluster_defaults told

pub known_told : (s : Shown) (p : Picture) (known : Option ServerDefaults) → s.picture ≡ Some p → AreDefaultsOf p known → KnowsDefaults s known
known_told s p None told knows = tt
known_told s p (Some d) told knows = knows ∙ sym (ap cluster_defaults told)
