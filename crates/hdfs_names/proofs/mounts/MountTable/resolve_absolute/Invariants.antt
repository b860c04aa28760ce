-- No link so far matches.
use Rattle.std.proofs.Common.{◌≡◌, drop}
use Rattle.hdfs_names.specs.Mounts.{first_match}
use Rattle.hdfs_names.proofs.mounts.MountTable.resolve_absolute.Given as goal

abbrev pub invariant-links : goal.invariant-links
invariant-links l = first_match l.self.fallback 0 l.self.mounts l.path ≡ first_match l.self.fallback l.number (drop l.number l.links) l.path
