-- The names of the namespaces so far, and of those that are left.
use Rattle.std.proofs.Common.{◌≡◌, ◌++◌, map, string_bytes}
use Rattle.std.specs.BTreeMap.{keys}
use Rattle.hdfs_leases.proofs.file_leases.FileLeases.namespaces.Given as goal

abbrev pub invariant-names : goal.invariant-names
invariant-names l = l.names ++ map string_bytes l.namespace-iterator ≡ map string_bytes (keys l.self.named)
