-- What a change at one number key of a map keeps.
use Rattle.std.proofs.Common.{◌≡◌, ◌≢◌, ℕ, false, arith}
use Rattle.std.proofs.lemmas.Bool.Decides.{nat_tests}
use Rattle.std.specs.Ordering.{nat_cmp}
use Rattle.std.specs.BTreeMap.{is_at}

pub is_at_other : (k b : ℕ) → b ≢ k → is_at (nat_cmp k) b ≡ false
is_at_other k b apart = grind (arith, nat_tests)
