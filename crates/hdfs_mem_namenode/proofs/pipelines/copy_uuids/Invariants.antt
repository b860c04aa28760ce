use Rattle.std.proofs.Common.{◌≡◌, take}
use Rattle.hdfs_cluster.specs.Effects.{names_of}
use Rattle.hdfs_mem_namenode.proofs.pipelines.copy_uuids.Given as goal

abbrev pub invariant-loop-node : goal.invariant-loop-node
invariant-loop-node l = l.copies ≡ names_of (take l.node-index l.nodes)
