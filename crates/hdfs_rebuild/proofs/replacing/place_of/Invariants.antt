use Rattle.std.proofs.Common.{◌≡◌, ◌+◌, ◌-◌, ◌≤◌, drop, length}
use Rattle.hdfs_rebuild.specs.Replacing.{place_of}
use Rattle.hdfs_rebuild.proofs.replacing.place_of.Given as goal

abbrev pub invariant-same : goal.invariant-same
invariant-same l = record {
  within : l.place ≤ length l.others;
  short : l.place ≤ length l.nodes;
  parts : place_of (drop l.place l.others) (drop l.place l.nodes) + l.place ≡ place_of l.others l.nodes;
}

abbrev pub decreases-same : goal.decreases-same
decreases-same l = length l.others - l.place
