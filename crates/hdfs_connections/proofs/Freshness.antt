-- The first connection that is fresh, one connection after another.
use Rattle.std.proofs.Common.{◌≡◌, ℕ, ◌+◌, ◌<◌, ◌≤◌, Bool, true, false, nat_le, List, ◌∷◌, cond, ap, arith}
use Rattle.std.proofs.lemmas.Bool.Decides.{nat_tests}
use Rattle.hdfs_connections.specs.declared.connection_cache.Kept.{Kept}
use Rattle.hdfs_connections.specs.Connections.{fresh}

-- one that is fresh ends the search
pub fresh_first : (moment : ℕ) (kept : Kept) (behind : List Kept) → moment ≤ kept.moment + 2999 → fresh moment (kept ∷ behind) ≡ kept ∷ behind
unfolding fresh
fresh_first moment kept behind soon =
    let test : nat_le moment (kept.moment + 2999) ≡ true = grind (arith, nat_tests, soon) in
    ap (λ (b : Bool). cond b (kept ∷ behind) (fresh moment behind)) test

-- one that is stale is passed over
pub stale_first : (moment : ℕ) (kept : Kept) (behind : List Kept) → kept.moment + 2999 < moment → fresh moment (kept ∷ behind) ≡ fresh moment behind
unfolding fresh
stale_first moment kept behind late =
    let test : nat_le moment (kept.moment + 2999) ≡ false = grind (arith, nat_tests, late) in
    ap (λ (b : Bool). cond b (kept ∷ behind) (fresh moment behind)) test
