-- How far the datanodes were gone through.
use Rattle.std.proofs.Common.{◌≡◌, map, take}
use Rattle.hdfs_rebuild.proofs.recovery.ids_of.Given as goal

abbrev pub invariant-loop-node : goal.invariant-loop-node
invariant-loop-node l = l.ids ≡ map (λ node. node.id) (take l.node-index l.nodes)
