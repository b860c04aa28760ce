-- A mark at the first place, and none so far behind it.
use Rattle.std.proofs.Common.{◌≡◌, ◌∷◌, true, false, replicate}
use Rattle.hdfs_globs.proofs.places.Reached.new.Given as goal

abbrev pub invariant-loop : goal.invariant-loop
invariant-loop l = l.places.items ≡ true ∷ replicate l.counter false
