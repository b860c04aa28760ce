use Rattle.std.proofs.Common.{◌≡◌, ℕ, ◌<◌, List, length, Some}
use Rattle.hdfs_ec.specs.Coding.{place}
use Rattle.hdfs_ec.proofs.places.are_long.Given as goal

abbrev pub invariant-loop-i : goal.invariant-loop-i
invariant-loop-i l = (k : ℕ) (shard : List ℕ) → k < l.i → place l.places k ≡ Some shard → length shard ≡ l.size
