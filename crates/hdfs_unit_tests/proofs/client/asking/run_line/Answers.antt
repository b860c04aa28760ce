-- A cluster in memory allows all.
use Rattle.hdfs_commands.proofs.Allowing.{lets_any}
use Rattle.hdfs_unit_tests.proofs.client.asking.run_line.Goals as goal

pub run_one-requires-clause-allowed : goal.run_one-requires-clause-allowed
run_one-requires-clause-allowed c = lets_any (λ ask answer. Unit {0}) (λ request. tt)
