-- A tally of no asks changes nothing that is seen.
use Rattle.hdfs_mem_faults.proofs.Asking.{same_asked}
use Rattle.hdfs_mem_faults.proofs.fault_plan.FaultPlan.add_namenode.Goals as goal

pub returns-clause-same : goal.returns-clause-same
returns-clause-same c = same_asked c.args.self.now c.add.new.self c.args.namenode c.add.ensures.others c.add.ensures.same
