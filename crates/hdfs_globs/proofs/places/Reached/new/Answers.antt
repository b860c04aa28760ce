-- The marks are those of the start.
use Rattle.std.proofs.Common.{arith, replicate, nat_eq, ap, ◌∷◌, ◌∙◌, ℕ, true, false, ◌≡◌}
use Rattle.hdfs_globs.proofs.Standing.{marks-at, start-marks}
use Rattle.hdfs_globs.proofs.places.Reached.new.Goals as goal

pub returns : goal.returns
returns c =
    let n : c.loop.counter ≡ c.args.count = omega arith in
    record {
      places = marks-at c.args.count _ _ (λ j. nat_eq j 0) (c.loop.invariant ∙ ap (λ (k : ℕ). true ∷ replicate k false) n) (start-marks c.args.count);
      groups = rw c.new-groups.ensures.items tt;
    }
