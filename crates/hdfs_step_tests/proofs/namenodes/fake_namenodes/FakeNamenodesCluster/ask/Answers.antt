-- An ask of a namenode that answers.
use Rattle.std.proofs.Common.{rules}
use Rattle.hdfs_step_tests.proofs.Answered.{answered}
use Rattle.hdfs_step_tests.proofs.namenodes.fake_namenodes.FakeNamenodesCluster.ask.Goals as goal

pub returns-in-Some-clause-serves : goal.returns-in-Some-clause-serves
returns-in-Some-clause-serves c =
    answered c.args.self.now c.saturating_add-self.result c.args.i c.args.ask.now c.in-Some.answer c.in-Some.ensures.1 (search rules) (search rules)

pub returns-in-Some-clause-served : goal.returns-in-Some-clause-served
returns-in-Some-clause-served c =
    answered c.args.self.now c.saturating_add-self.result c.args.i c.args.ask.now c.in-Some.answer c.in-Some.ensures.1 (search rules) (search rules)
