use Rattle.std.proofs.Common.{◌≡◌, take}
use Rattle.hdfs_cluster.specs.Sending.{uuids}
use Rattle.hdfs_mem_namenode.proofs.namenode.infos.Given as goal

abbrev pub invariant-loop-uuid : goal.invariant-loop-uuid
invariant-loop-uuid l = uuids l.infos.items ≡ take l.uuid-index l.nodes
