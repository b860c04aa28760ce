use Rattle.std.proofs.Common.{◌≡◌, length}
use Rattle.std.specs.List.{list_any}
use Rattle.std.specs.Str.{IsUtf8}
use Rattle.hdfs_cluster.specs.Files.{is_file, kinds_of}
use Rattle.hdfs_names.specs.Paths.{ancestors}
use Rattle.hdfs_plain.specs.Plain.{files_of}
use Rattle.hdfs_plain.proofs.files.PlainFiles.has_file_above.Given as goal

abbrev pub invariant-up : goal.invariant-up
invariant-up l = record {
  text : IsUtf8 l.rest;
  same : list_any (λ a. is_file (kinds_of (files_of l.self) a)) (ancestors l.fn.path) ≡ list_any (λ a. is_file (kinds_of (files_of l.self) a)) (ancestors l.rest);
}

abbrev pub decreases-up : goal.decreases-up
decreases-up l = length (ancestors l.rest)
