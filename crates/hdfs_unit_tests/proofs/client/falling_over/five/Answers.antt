-- The cluster that is told what to give allows all.
use Rattle.hdfs_commands.proofs.Allowing.{lets_any}
use Rattle.hdfs_unit_tests.proofs.client.falling_over.five.Goals as goal

pub run_one-requires-clause-allowed : goal.run_one-requires-clause-allowed
run_one-requires-clause-allowed c = lets_any (λ ask answer. Unit {0}) (λ request. tt)
