-- A cluster in memory lets all be asked.
use Rattle.hdfs_client.proofs.Leave.{lets_text}
use Rattle.hdfs_step_tests.proofs.memory.globbing.glob.Goals as goal

pub glob_status-found-requires-clause-allowed : goal.glob_status-found-requires-clause-allowed
glob_status-found-requires-clause-allowed c = λ before text behind is. lets_text _ _ text (λ request. tt)
