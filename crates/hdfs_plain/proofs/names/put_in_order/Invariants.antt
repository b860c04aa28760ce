use Rattle.std.proofs.Common.{◌≡◌, ◌++◌, take, drop}
use Rattle.hdfs_model.specs.Walks.{put_path}
use Rattle.hdfs_plain.proofs.names.put_in_order.Given as goal

-- the path goes behind those so far
abbrev pub invariant-places : goal.invariant-places
invariant-places l = record {
  same : l.found.items ≡ l.initial.found.items;
  put : put_path l.path l.found.items ≡ take l.at l.found.items ++ put_path l.path (drop l.at l.found.items);
}
