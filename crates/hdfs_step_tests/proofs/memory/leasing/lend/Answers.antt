-- A cluster in memory lets all be asked, and answers what it may.
use Rattle.hdfs_client.proofs.Leave.{lets_create}
use Rattle.hdfs_step_tests.proofs.memory.leasing.lend.Goals as goal

pub create-requires-clause-allowed : goal.create-requires-clause-allowed
create-requires-clause-allowed c = λ to namenode leads at. lets_create (λ ask answer. Unit {0}) _ _ _ _ (λ request. tt)

pub end-requires-clause-writer : goal.end-requires-clause-writer
end-requires-clause-writer c =
    let stands = c.in-Ok.ensures.stands in
    (stands.0, stands.1)
