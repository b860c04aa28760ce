-- What is in the map, followed by the pairs that are left.
use Rattle.std.proofs.Common.{◌≡◌, ℕ, List, map, string_bytes}
use Rattle.std.specs.Option.{option_map}
use Rattle.std.specs.Vec.Iter.{into_iter_items}
use Rattle.std.specs.BTreeMap.{get_by_text, IsOrdered}
use Rattle.std.specs.String.{string_cmp}
use Rattle.hdfs_names.specs.Settings.{later, last_value}
use Rattle.hdfs_names.specs.Configurations.{pair_text}
use Rattle.hdfs_names.proofs.settings.Configuration.new.Given as goal

abbrev pub invariant-pairs : goal.invariant-pairs
invariant-pairs l = record {
  values : (key : List ℕ) → later (option_map string_bytes (get_by_text l.map key)) (last_value (map pair_text (into_iter_items l.key-iterator)) key)
      ≡ last_value (map pair_text l.fn.pairs.items) key;
  ordered : IsOrdered string_cmp l.map;
}
