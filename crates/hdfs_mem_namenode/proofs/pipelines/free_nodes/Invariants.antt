use Rattle.std.proofs.Common.{◌≡◌}
use Rattle.std.specs.BTreeSet.{contains_text}
use Rattle.hdfs_mem_namenode.specs.Adding.{free_nodes}
use Rattle.hdfs_mem_namenode.proofs.pipelines.free_nodes.Given as goal

abbrev pub invariant-loop-number : goal.invariant-loop-number
invariant-loop-number l = l.free ≡ free_nodes (contains_text l.barred) l.most l.number
