-- Any command may be run.
use Rattle.std.specs.Prelude.{slice_index_or}
use Rattle.hdfs_unit_tests.proofs.client.asking.run_one.Goals as goal

pub run_session-answer-requires-clause-allowed : goal.run_session-answer-requires-clause-allowed
run_session-answer-requires-clause-allowed g c = λ k other low. c.requires.allowed c.in_ok-settings.settings (slice_index_or _ k other)
