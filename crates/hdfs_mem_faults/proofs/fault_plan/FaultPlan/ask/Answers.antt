-- One ask is counted, in the tally of its namenode.
use Rattle.hdfs_mem_faults.proofs.Asking.{counts_asked}
use Rattle.hdfs_mem_faults.proofs.fault_plan.FaultPlan.ask.Goals as goal

pub returns : goal.returns
returns c = counts_asked c.args.self.now c.count.new.self c.args.namenode c.count.ensures.others c.count.result c.count.ensures.counted
