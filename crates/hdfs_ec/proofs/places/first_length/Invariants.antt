use Rattle.std.proofs.Common.{◌≡◌, ℕ, ◌<◌, List, Some}
use Rattle.hdfs_ec.specs.Coding.{place}
use Rattle.hdfs_ec.proofs.places.first_length.Given as goal

abbrev pub invariant-loop-i : goal.invariant-loop-i
invariant-loop-i l = (k : ℕ) (shard : List ℕ) → k < l.i → place l.places k ≡ Some shard → ⊥
