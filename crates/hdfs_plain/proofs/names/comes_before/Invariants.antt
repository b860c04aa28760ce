use Rattle.std.proofs.Common.{◌≡◌, ◌-◌, ◌≤◌, length, drop}
use Rattle.hdfs_model.specs.Walks.{comes_before}
use Rattle.hdfs_plain.proofs.names.comes_before.Given as goal

-- the bytes so far are the same
abbrev pub invariant-bytes : goal.invariant-bytes
invariant-bytes l = record {
  first : l.at ≤ length l.a;
  second : l.at ≤ length l.b;
  rest : comes_before l.a l.b ≡ comes_before (drop l.at l.a) (drop l.at l.b);
}

abbrev pub decreases-bytes : goal.decreases-bytes
decreases-bytes l = length l.a - l.at
