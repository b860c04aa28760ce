-- The goals of FileLeases::is_idle.
use Rattle.std.proofs.Common.{rules, refl}
use Rattle.hdfs_leases.proofs.Idle.{idle_without_files, no_files_if_idle}
use Rattle.hdfs_leases.proofs.file_leases.FileLeases.is_idle.Goals as goal

pub returns-then-is_empty : goal.returns-then-is_empty
returns-then-is_empty c = (
  λ yes. idle_without_files c.args.self.now (c.if-is_empty.ensures.0 refl) (c.is_empty-then-is_empty.ensures.0 yes),
  λ idle. c.is_empty-then-is_empty.ensures.1 (no_files_if_idle c.args.self.now idle).1,
)

pub returns-else-is_empty : goal.returns-else-is_empty
returns-else-is_empty c = (
  λ yes. let bad : ⊥ = search rules in absurd bad,
  λ idle. c.is_empty.ensures.1 (no_files_if_idle c.args.self.now idle).0,
)
