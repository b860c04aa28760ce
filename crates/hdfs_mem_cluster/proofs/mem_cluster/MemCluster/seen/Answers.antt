-- Objects fail only where faults were loaded for them.
use Rattle.hdfs_mem_cluster.proofs.Counting.{links_planned, nodes_planned}
use Rattle.hdfs_mem_cluster.proofs.Failing.{asks_planned, calls_planned}
use Rattle.hdfs_mem_cluster.proofs.mem_cluster.MemCluster.seen.Goals as goal

pub returns-in_err-all_calls-clause-planned : goal.returns-in_err-all_calls-clause-planned
returns-in_err-all_calls-clause-planned c = nodes_planned c.args.self.now

pub returns-in_err-all_calls-clause-planned_links : goal.returns-in_err-all_calls-clause-planned_links
returns-in_err-all_calls-clause-planned_links c = links_planned c.args.self.now

pub returns-in_err-all_faults-clause-planned : goal.returns-in_err-all_faults-clause-planned
returns-in_err-all_faults-clause-planned c = nodes_planned c.args.self.now

pub returns-in_err-all_faults-clause-planned_links : goal.returns-in_err-all_faults-clause-planned_links
returns-in_err-all_faults-clause-planned_links c = links_planned c.args.self.now

pub returns-clause-planned : goal.returns-clause-planned
returns-clause-planned c = nodes_planned c.args.self.now

pub returns-clause-planned_links : goal.returns-clause-planned_links
returns-clause-planned_links c = links_planned c.args.self.now

pub returns-in_err-all_calls-clause-planned_calls : goal.returns-in_err-all_calls-clause-planned_calls
returns-in_err-all_calls-clause-planned_calls c = calls_planned c.args.self.now

pub returns-in_err-all_faults-clause-planned_calls : goal.returns-in_err-all_faults-clause-planned_calls
returns-in_err-all_faults-clause-planned_calls c = calls_planned c.args.self.now

pub returns-clause-planned_calls : goal.returns-clause-planned_calls
returns-clause-planned_calls c = calls_planned c.args.self.now

pub returns-in_err-all_calls-clause-planned_asks : goal.returns-in_err-all_calls-clause-planned_asks
returns-in_err-all_calls-clause-planned_asks c = asks_planned c.args.self.now

pub returns-in_err-all_faults-clause-planned_asks : goal.returns-in_err-all_faults-clause-planned_asks
returns-in_err-all_faults-clause-planned_asks c = asks_planned c.args.self.now

pub returns-clause-planned_asks : goal.returns-clause-planned_asks
returns-clause-planned_asks c = asks_planned c.args.self.now
