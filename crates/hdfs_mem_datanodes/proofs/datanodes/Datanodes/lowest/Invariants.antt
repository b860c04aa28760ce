use Rattle.std.proofs.Common.{◌≡◌}
use Rattle.hdfs_mem_datanodes.specs.Uuids.{lowest}
use Rattle.hdfs_mem_datanodes.proofs.datanodes.Datanodes.lowest.Given as goal

abbrev pub invariant-loop-number : goal.invariant-loop-number
invariant-loop-number l = l.nodes ≡ lowest l.number
