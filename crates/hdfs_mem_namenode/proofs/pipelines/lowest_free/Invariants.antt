use Rattle.std.specs.BTreeSet.{contains_text}
use Rattle.hdfs_mem_namenode.specs.Pipelines.{AreBarred}
use Rattle.hdfs_mem_namenode.proofs.pipelines.lowest_free.Given as goal

abbrev pub invariant-loop-number : goal.invariant-loop-number
invariant-loop-number l = AreBarred (contains_text l.barred) l.number
