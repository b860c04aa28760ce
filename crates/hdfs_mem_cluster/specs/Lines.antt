-- The lines that a cluster in memory keeps.
use Rattle.std.specs.Prelude.{◌≡◌, ℕ, false, List}
use Rattle.std.specs.List.{list_any}
use Rattle.hdfs_cluster.specs.declared.store.Line.{Line}
use Rattle.hdfs_cluster.specs.declared.store.Line.TheVariants as lines
use Rattle.hdfs_mem_faults.specs.Series.{is_fault}
use Rattle.hdfs_mem_cluster.specs.declared.loaded.Kept.{Kept}
use Rattle.hdfs_mem_cluster.specs.declared.loaded.Kept.TheVariants as keeps

-- the line that was loaded
abbrev pub line_of : Kept → Line
line_of (keeps.Dir path) = lines.Dir path
line_of (keeps.File path attributes bytes) = lines.File path attributes bytes
line_of (keeps.Short path block node len) = lines.Short path block node len
line_of (keeps.Fault fault) = lines.Fault fault

-- no namenode has failed before a fault was loaded
abbrev pub NeedsFault : List Line → ℕ → Type 0
NeedsFault loaded calls = list_any is_fault loaded ≡ false → calls ≡ 0
