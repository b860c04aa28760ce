-- Replicas that lines leave whole.
use Rattle.std.proofs.Common.{◌≡◌, ◌≢◌, ◌⊎◌, inl, inr, ⊎_elim, ℕ, zero, suc, ◌<◌, ◌&&◌, ◌||◌, not, eqb, nat_lt, Bool, true, false, List, refl, sym, subst, arith}
use Rattle.std.proofs.lemmas.Bool.Decides.{nat_tests}
use Rattle.hdfs_cluster.specs.declared.store.Line.{Line}
use Rattle.hdfs_cluster.specs.Replicas.{any_below, left_of, other_whole}

-- one of two is true where the first is, or where the second is
or_either : (a b : Bool) → (a ≡ true) ⊎ (b ≡ true) → (a || b) ≡ true
or_either true b is = refl
or_either false b (inl is) = absurd (cc (is))
or_either false b (inr is) = is

-- a number that is below the next one is below, or the same
below_next : (d n : ℕ) → d < suc n → (d < n) ⊎ (d ≡ n)
below_next d n lt = by_test (nat_lt d n) refl
  where
    by_test : (b : Bool) → nat_lt d n ≡ b → (d < n) ⊎ (d ≡ n)
    by_test true is = inl (grind (arith, nat_tests))
    by_test false is = inr (grind (arith, nat_tests))

-- a number below a bound that passes a test
any_below_at : (test : ℕ → Bool) (n d : ℕ) → d < n → test d ≡ true → any_below test n ≡ true
any_below_at test zero d lt is = absurd (omega (arith, lt))
any_below_at test (suc n) d lt is = or_either (any_below test n) (test n) (⊎_elim
    (λ below. inl (any_below_at test n d below is))
    (λ same. inr (subst (λ (m : ℕ). test m ≡ true) same is))
    (below_next d n lt))

-- a replica on another datanode is whole
pub whole_on : (lines : List Line) (path : List ℕ) (block node whole count d : ℕ) → d < count → d ≢ node → left_of lines path block d whole ≡ whole → true ≡ other_whole lines path block node whole count
whole_on lines path block node whole count d lt other is =
    sym (any_below_at (λ d. not (eqb d node) && eqb (left_of lines path block d whole) whole) count d lt (both (eqb d node) (eqb (left_of lines path block d whole) whole) (grind (arith, nat_tests)) (grind (arith, nat_tests))))
  where
    both : (a b : Bool) → a ≡ false → b ≡ true → (not a && b) ≡ true
    both true b off on = absurd (cc (off))
    both false b off on = on
