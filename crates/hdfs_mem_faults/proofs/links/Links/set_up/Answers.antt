-- Set-ups have failed no more often than they were planned to, and so one failure more can be counted.
use Rattle.std.proofs.Common.{[], arith}
use Rattle.hdfs_mem_faults.proofs.Failing.{fails-len}
use Rattle.hdfs_mem_faults.proofs.links.Links.set_up.Goals as goal

pub fail-requires-clause-links : goal.fail-requires-clause-links
fail-requires-clause-links c =
    let old = c.args.self.now in
    omega (arith, old.counted [], fails-len old.kinds old.set_ups, old.few)

pub fail-requires-clause-firsts : goal.fail-requires-clause-firsts
fail-requires-clause-firsts c = λ d.
    let old = c.args.self.now in
    omega (arith, old.counted d, fails-len old.kinds old.set_ups, old.few)
