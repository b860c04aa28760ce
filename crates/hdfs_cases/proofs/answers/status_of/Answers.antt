-- A cluster in memory allows all.
use Rattle.hdfs_commands.proofs.Allowing.{lets_any}
use Rattle.hdfs_cases.proofs.answers.status_of.Goals as goal

pub top-requires-clause-allowed : goal.top-requires-clause-allowed
top-requires-clause-allowed c = lets_any (λ ask answer. Unit {0}) (λ request. tt)
