-- Each of its tallies has failed no more often than numbers are planned, and so the four together fit.
use Rattle.std.proofs.Common.{arith}
use Rattle.hdfs_mem_faults.proofs.Bounds.{failed_few}
use Rattle.hdfs_mem_faults.proofs.node_plan.NodePlan.failed.Goals as goal

pub overflow_add-result : goal.overflow_add-result
overflow_add-result c =
    let node = c.args.self.now in
    omega (arith, failed_few node.acks, failed_few node.sends)

pub overflow_add-result-2 : goal.overflow_add-result-2
overflow_add-result-2 c =
    let node = c.args.self.now in
    omega (arith, failed_few node.acks, failed_few node.sends, failed_few node.reads)

pub overflow_add-result-3 : goal.overflow_add-result-3
overflow_add-result-3 c =
    let node = c.args.self.now in
    omega (arith, failed_few node.acks, failed_few node.sends, failed_few node.reads, failed_few node.opens)
