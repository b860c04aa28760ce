use Rattle.std.proofs.Common.{◌≡◌, ◌≤◌, length, drop}
use Rattle.std.specs.List.{filter}
use Rattle.hdfs_model.specs.Walks.{in_order, is_listed}
use Rattle.hdfs_plain.proofs.names.walk.Given as goal

-- those from a place on are found, in order
abbrev pub invariant-paths : goal.invariant-paths
invariant-paths l = record {
  within : l.left ≤ length l.paths;
  found : l.found.items ≡ in_order (filter (is_listed l.recursive l.dir) (drop l.left l.paths));
}

abbrev pub decreases-paths : goal.decreases-paths
decreases-paths l = l.left
