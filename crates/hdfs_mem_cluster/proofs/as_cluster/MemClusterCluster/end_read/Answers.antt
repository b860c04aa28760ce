-- A read link is gone.
use Rattle.std.proofs.Common.{None, map}
use Rattle.hdfs_mem_cluster.specs.Lines.{line_of}
use Rattle.hdfs_mem_cluster.proofs.Earlier.{changed_earlier}
use Rattle.hdfs_mem_cluster.proofs.Giving.{ended_read}
use Rattle.hdfs_mem_cluster.proofs.Places.{changes_read}
use Rattle.hdfs_mem_cluster.proofs.as_cluster.MemClusterCluster.end_read.Goals as goal

pub invariant_of-self : goal.invariant_of-self
invariant_of-self c =
    let m = c.args.self.now in
    record { counted = m.counted; unfailed = m.unfailed; follows = m.follows; earlier = changed_earlier m.links (record m.links { reads = c.try_remove-ended.new.self }) m.faults c.args.link None (changes_read m.links c.try_remove-ended.new.self c.args.link None c.try_remove-ended.ensures.updates) (λ read is. absurd (cc)) m.earlier }

pub returns-clause-ended : goal.returns-clause-ended
returns-clause-ended c =
    let m = c.args.self.now in
    ended_read m.space m.config.settings m.last m.calls (map line_of m.loaded.items) m.faults m.nodes m.links (record m.links { reads = c.try_remove-ended.new.self }) c.args.link
    (changes_read m.links c.try_remove-ended.new.self c.args.link None c.try_remove-ended.ensures.updates)
