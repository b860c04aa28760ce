-- None of the lines so far is a fault.
use Rattle.std.proofs.Common.{◌≡◌, false, map, take}
use Rattle.std.specs.List.{list_any}
use Rattle.hdfs_mem_faults.specs.Series.{is_fault}
use Rattle.hdfs_mem_cluster.specs.Lines.{line_of}
use Rattle.hdfs_mem_cluster.proofs.responding.has_fault.Given as goal

abbrev pub invariant-loop-line : goal.invariant-loop-line
invariant-loop-line l = list_any is_fault (map line_of (take l.line-index l.lines)) ≡ false
