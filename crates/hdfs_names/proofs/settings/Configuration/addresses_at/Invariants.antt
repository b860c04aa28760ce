-- The addresses of the ids so far.
use Rattle.std.proofs.Common.{◌≡◌, map, string_bytes}
use Rattle.std.specs.List.{filter_map}
use Rattle.hdfs_names.specs.Settings.{address_key}
use Rattle.hdfs_names.specs.Configurations.{setting}
use Rattle.hdfs_names.proofs.settings.Configuration.addresses_at.Given as goal

abbrev pub invariant-ids : goal.invariant-ids
invariant-ids l = map string_bytes l.addresses.items ≡ filter_map (λ id. setting l.self (address_key l.nameservice id)) (map (λ x. x.now) l.yielded)
