use Rattle.std.proofs.Common.{◌≡◌, ◌||◌, ℕ, List, take}
use Rattle.std.specs.BTreeSet.{contains_text}
use Rattle.hdfs_mem_datanodes.specs.Nodes.{is_named}
use Rattle.hdfs_mem_namenode.proofs.pipelines.bar.Given as goal

abbrev pub invariant-loop-node : goal.invariant-loop-node
invariant-loop-node l = (uuid : List ℕ) → contains_text l.barred uuid ≡ (is_named (take l.node-index l.nodes) uuid || contains_text l.fn.barred uuid)
