use Rattle.hdfs_streams.proofs.mem_streams.Failing.begin.Goals as goal

pub returns-then-contains-clause-cause : goal.returns-then-contains-clause-cause
returns-then-contains-clause-cause c = record { later = c.raise.ensures.later; failed = c.raise.ensures.rose }
