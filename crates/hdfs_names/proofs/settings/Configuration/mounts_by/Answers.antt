-- An entry that tells of a mount, and one that doesn't.
use Rattle.hdfs_names.specs.Configurations.{mount_by}
use Rattle.hdfs_names.proofs.Configured.{mount_end, is_table}
use Rattle.hdfs_names.proofs.settings.Configuration.mounts_by.Goals as goal

pub returns-clause-mounts : goal.returns-clause-mounts
returns-clause-mounts c = mount_end (mount_by c.args.link.now c.args.fallback.now) _ c.entries.key-iterator _ c.in-None.ensures.steps.0 c.entries.invariant

pub returns-clause-entries : goal.returns-clause-entries
returns-clause-entries c = is_table _ c.into_iter-key-iterator.ensures.into_iter_gives.5
