use denote.Shadow.{shadow}
use denote.Text.{Utf8}
use Rattle.std.proofs.Common.{◌≡◌, length}
use Rattle.std.specs.List.{list_any}
use Rattle.std.specs.BTreeMap.{get_by_text}
use Rattle.hdfs_cluster.specs.Files.{is_file}
use Rattle.hdfs_names.specs.Paths.{ancestors}
use Rattle.hdfs_cluster.specs.Picture.{kinds_in}
use Rattle.hdfs_mem_namenode.proofs.namespace.Namespace.is_below_file.Given as goal

abbrev pub invariant-loop-front : goal.invariant-loop-front
invariant-loop-front l = record {
  utf8 : shadow (Utf8 l.path);
  same : list_any (λ a. is_file (kinds_in (get_by_text l.self.names) a)) (ancestors l.path) ≡ list_any (λ a. is_file (kinds_in (get_by_text l.self.names) a)) (ancestors l.fn.src);
}

abbrev pub decreases-loop-front : goal.decreases-loop-front
decreases-loop-front l = length (ancestors l.path)
