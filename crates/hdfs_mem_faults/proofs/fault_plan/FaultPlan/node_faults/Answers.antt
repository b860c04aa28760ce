-- Neither its calls nor set-ups fail so often that the two together don't fit.
use Rattle.std.proofs.Common.{arith}
use Rattle.hdfs_mem_faults.specs.NodePlans.{node_at}
use Rattle.hdfs_mem_faults.proofs.Bounds.{firsts_few, node_few}
use Rattle.hdfs_mem_faults.proofs.fault_plan.FaultPlan.node_faults.Goals as goal

pub overflow_add-result : goal.overflow_add-result
overflow_add-result c =
    let plan = c.args.self.now in
    omega (arith, c.failed.ensures, c.first_faults.ensures, node_few (node_at plan.nodes c.args.uuid.now), firsts_few plan.links c.args.uuid.now)
