-- A cluster in memory lets all be asked, and answers what it may.
use Rattle.hdfs_client.proofs.Leave.{lets_append}
use Rattle.hdfs_step_tests.proofs.memory.storing.append_by.Goals as goal

pub append-requires-clause-allowed : goal.append-requires-clause-allowed
append-requires-clause-allowed c = λ to namenode leads at. lets_append (λ ask answer. Unit {0}) _ _ (λ request. tt)

pub write_by-requires-clause-writer : goal.write_by-requires-clause-writer
write_by-requires-clause-writer c =
    let stands = c.in-Ok.ensures.stands in
    (stands.0, stands.1)
