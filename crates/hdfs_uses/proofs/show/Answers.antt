-- A cluster in memory lets all be asked.
use Rattle.hdfs_client.proofs.Leave.{lets_text}
use Rattle.hdfs_uses.proofs.show.Goals as goal

pub footers-found-requires-clause-allowed : goal.footers-found-requires-clause-allowed
footers-found-requires-clause-allowed c = λ before text behind is. lets_text _ _ text (λ request. tt)

pub footers-found-requires-clause-reads : goal.footers-found-requires-clause-reads
footers-found-requires-clause-reads c = (
  tt,
  λ path to leads. record { locates = tt; defaults = λ some. tt; reads = λ block located end k ask is. tt },
)
