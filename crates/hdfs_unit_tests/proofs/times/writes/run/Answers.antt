-- A cluster in memory allows all.
use Rattle.std.specs.Prelude.{slice_index_or}
use Rattle.hdfs_commands.proofs.Allowing.{lets_any}
use Rattle.hdfs_unit_tests.proofs.times.writes.run.Goals as goal

pub run_session-answer-requires-clause-allowed : goal.run_session-answer-requires-clause-allowed
run_session-answer-requires-clause-allowed c = λ k other low. lets_any (λ ask answer. Unit {0}) (λ request. tt) c.args.settings.now (slice_index_or c.args.commands.now k other)
