-- The copy's entries have the same texts.
use Rattle.hdfs_names.proofs.Configured.{cloned, same_values}
use Rattle.hdfs_names.proofs.settings.Configuration.copy.Goals as goal

pub returns-clause-entries : goal.returns-clause-entries
returns-clause-entries c = cloned _ _ c.in_ok-clone.ensures.cases

pub returns-clause-values : goal.returns-clause-values
returns-clause-values c = same_values (record { map = c.in_ok-clone.field-0 }) c.args.self.now (cloned _ _ c.in_ok-clone.ensures.cases)
