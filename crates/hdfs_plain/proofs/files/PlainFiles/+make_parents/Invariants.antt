use Rattle.std.proofs.Common.{length}
use Rattle.hdfs_names.specs.Paths.{ancestors}
use Rattle.hdfs_plain.proofs.files.PlainFiles.+make_parents.Given as goal

abbrev pub decreases-make_parents : goal.decreases-make_parents
decreases-make_parents l = length (ancestors l.path.now)
