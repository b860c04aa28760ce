-- The marks behind the loop are the shifted ones, those ahead the old ones.
use Rattle.std.proofs.Common.{◌≡◌, ◌<◌, ◌≤◌, ℕ, false, get_or, length}
use Rattle.hdfs_globs.specs.Patterns.{one_of}
use Rattle.hdfs_globs.specs.Places.{shifted}
use Rattle.hdfs_globs.proofs.places.shift.Given as goal

abbrev pub invariant-loop-at : goal.invariant-loop-at
invariant-loop-at l = record {
  long : length l.places ≡ length l.fn.places;
  behind : (k : ℕ) → k < l.at → get_or l.places k false ≡ shifted (one_of l.wanted) l.text (λ j. get_or l.fn.places j false) k;
  ahead : (k : ℕ) → l.at ≤ k → get_or l.places k false ≡ get_or l.fn.places k false;
  came : l.came ≡ shifted (one_of l.wanted) l.text (λ j. get_or l.fn.places j false) l.at;
}
