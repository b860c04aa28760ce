-- A new reader stands in any cluster, and the cluster that is told what to give allows all.
use Rattle.hdfs_fakes.specs.Fakes.{shown_of}
use Rattle.hdfs_unit_tests.proofs.client.falling_over.read_block.Goals as goal

pub next-piece-requires-clause-stands : goal.next-piece-requires-clause-stands
next-piece-requires-clause-stands c = c.in-Ok.ensures.stands (shown_of c.args.cluster.now)

pub next-piece-requires-clause-allowed : goal.next-piece-requires-clause-allowed
next-piece-requires-clause-allowed c = λ k ask asked. tt
