-- The mounts so far, and those of the entries that are left.
use Rattle.std.proofs.Common.{◌≡◌, ◌++◌, map}
use Rattle.std.specs.List.{filter_map}
use Rattle.hdfs_names.specs.Configurations.{entries_of, pair_text, mount_text, mount_by}
use Rattle.hdfs_names.proofs.settings.Configuration.mounts_by.Given as goal

abbrev pub invariant-entries : goal.invariant-entries
invariant-entries l =
    map mount_text l.mounts.items ++ filter_map (mount_by l.link l.fallback) (map pair_text l.key-iterator) ≡ filter_map (mount_by l.link l.fallback) (entries_of l.self)
