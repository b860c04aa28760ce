use Rattle.std.proofs.Common.{◌≡◌, ◌||◌, ℕ, List, take}
use Rattle.std.specs.BTreeSet.{contains_text}
use Rattle.hdfs_mem_namenode.specs.Pipelines.{is_addressed}
use Rattle.hdfs_mem_namenode.proofs.pipelines.bar_hosts.Given as goal

abbrev pub invariant-loop-node : goal.invariant-loop-node
invariant-loop-node l = (uuid : List ℕ) → contains_text l.barred uuid ≡ (is_addressed (take l.node-index l.nodes) uuid || contains_text l.fn.barred uuid)
