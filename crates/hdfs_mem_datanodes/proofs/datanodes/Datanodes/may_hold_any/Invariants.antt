use Rattle.std.proofs.Common.{◌≡◌, [], take, All}
use Rattle.hdfs_mem_datanodes.specs.Nodes.{held_in}
use Rattle.hdfs_mem_datanodes.proofs.datanodes.Datanodes.may_hold_any.Given as goal

abbrev pub invariant-loop-uuid : goal.invariant-loop-uuid
invariant-loop-uuid l = All (λ node. held_in l.fn.self node l.block ≡ []) (take l.uuid-index l.uuids)
