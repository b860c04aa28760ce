-- The marks behind the loop are those of both, those ahead the old ones.
use Rattle.std.proofs.Common.{◌≡◌, ◌<◌, ◌≤◌, ℕ, false, get_or, length, ◌||◌}
use Rattle.hdfs_globs.proofs.places.join.Given as goal

abbrev pub invariant-loop-at : goal.invariant-loop-at
invariant-loop-at l = record {
  long : length l.ended ≡ length l.fn.ended;
  behind : (k : ℕ) → k < l.at → get_or l.ended k false ≡ get_or l.fn.ended k false || get_or l.places k false;
  ahead : (k : ℕ) → l.at ≤ k → get_or l.ended k false ≡ get_or l.fn.ended k false;
}
