-- A cluster in memory allows all, and answers what it likes.
use Rattle.hdfs_commands.specs.Session.{settings_of}
use Rattle.hdfs_commands.proofs.Allowing.{answers_any, lets_any}
use Rattle.hdfs_unit_tests.proofs.client.asking.apply.Goals as goal

pub apply-answer-requires-clause-allowed : goal.apply-answer-requires-clause-allowed
apply-answer-requires-clause-allowed c = λ fine placed. lets_any (λ ask answer. Unit {0}) (λ request. tt) (settings_of c.args.session.now) _

pub apply-answer-requires-clause-answered : goal.apply-answer-requires-clause-answered
apply-answer-requires-clause-answered c = answers_any (λ ask answer. tt) c.args.session.now
