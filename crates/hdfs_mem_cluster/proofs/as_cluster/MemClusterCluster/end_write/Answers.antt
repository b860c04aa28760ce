-- A write link is gone.
use Rattle.std.proofs.Common.{None, map, refl}
use Rattle.hdfs_mem_cluster.specs.Lines.{line_of}
use Rattle.hdfs_mem_faults.proofs.Following.{end_follows}
use Rattle.hdfs_mem_cluster.proofs.Acknowledging.{ended_write}
use Rattle.hdfs_mem_cluster.proofs.Asking.{counts_end}
use Rattle.hdfs_mem_cluster.proofs.Counting.{same_namenodes, falls_end}
use Rattle.hdfs_mem_cluster.proofs.Earlier.{later_earlier}
use Rattle.hdfs_mem_cluster.proofs.Places.{changes_write}
use Rattle.hdfs_mem_cluster.proofs.as_cluster.MemClusterCluster.end_write.Goals as goal

pub invariant_of-self : goal.invariant_of-self
invariant_of-self c =
    let m = c.args.self.now in
    let faults' = c.end.new.self in
    record {
      counted = m.counted;
      unfailed = m.unfailed;
      follows = end_follows m.faults faults' (map line_of m.loaded.items) c.args.link c.end.ensures m.follows;
      earlier = later_earlier m.links m.faults faults' (falls_end m.faults faults' c.args.link c.end.ensures) m.earlier;
    }

pub returns-clause-ends : goal.returns-clause-ends
returns-clause-ends c =
    let m = c.args.self.now in
    ended_write m.space m.config.settings m.last m.calls (map line_of m.loaded.items) m.faults c.end.new.self (falls_end m.faults c.end.new.self c.args.link c.end.ensures) m.nodes m.links (record m.links { writes = c.try_remove-gone.new.self }) c.args.link None
    (changes_write m.links c.try_remove-gone.new.self c.args.link None c.try_remove-gone.ensures.updates) refl refl

pub returns-clause-ended : goal.returns-clause-ended
returns-clause-ended c =
    let m = c.args.self.now in
    ended_write m.space m.config.settings m.last m.calls (map line_of m.loaded.items) m.faults c.end.new.self (falls_end m.faults c.end.new.self c.args.link c.end.ensures) m.nodes m.links (record m.links { writes = c.try_remove-gone.new.self }) c.args.link None
    (changes_write m.links c.try_remove-gone.new.self c.args.link None c.try_remove-gone.ensures.updates) refl refl

pub returns-clause-counted : goal.returns-clause-counted
returns-clause-counted c =
    let m = c.args.self.now in
    counts_end m _ c.args.link c.end.ensures (changes_write m.links c.try_remove-gone.new.self c.args.link None c.try_remove-gone.ensures.updates) refl (same_namenodes m.config.settings m.calls m.faults c.end.new.self c.end.ensures.asks)
