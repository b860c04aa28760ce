-- A cluster in memory lets all be asked.
use Rattle.hdfs_client.proofs.Leave.{lets_close}
use Rattle.hdfs_step_tests.proofs.memory.leasing.close.Goals as goal

pub close-closed-requires-clause-allowed : goal.close-closed-requires-clause-allowed
close-closed-requires-clause-allowed c = λ file is.
    let at = c.requires.writer.0 file is in
    (at.0, at.1, lets_close (λ ask answer. Unit {0}) _ _ _ (λ request. tt))
