-- The order in which a proxy asks has each of its namenodes.
use Rattle.std.proofs.Common.{◌≡◌, ◌≢◌, inl, inr, ℕ, zero, suc, ◌+◌, ◌<◌, ◌≤◌, ◌==◌, Bool, true, false, cond, ◌∷◌, refl, sym, ◌∙◌, arith}
use Rattle.std.proofs.lemmas.Bool.Decides.{nat_tests}
use Rattle.hdfs_cluster.specs.Failover.{numbers_but, order_from}
use Rattle.hdfs_cluster.proofs.Relaying.{Below, Has}

equal_from : (x y : ℕ) → (x == y) ≡ true → x ≡ y
equal_from x y h = grind (arith, nat_tests, h)

apart_from : (x y : ℕ) → (x == y) ≡ false → x ≡ y → ⊥
apart_from x y h is = grind (arith, nat_tests, h, is)

numbers_has : (without from count a : ℕ) → from ≤ a → a < from + count → a ≢ without → Has a (numbers_but without from count)
numbers_has without from zero a low high apart = absurd (omega (arith, low, high))
numbers_has without from (suc count) a low high apart =
    by (from == without) refl (λ other. numbers_has without (from + 1) count a (omega (arith, low, other)) (omega (arith, high)) apart)
  where
    first : (b : Bool) → (from == a) ≡ b → (from ≢ a → Has a (numbers_but without (from + 1) count)) → Has a (from ∷ numbers_but without (from + 1) count)
    first true is later = inl (equal_from from a is)
    first false is later = inr (later (apart_from from a is))

    by : (b : Bool) → (from == without) ≡ b → (from ≢ a → Has a (numbers_but without (from + 1) count)) → Has a (cond b (numbers_but without (from + 1) count) (from ∷ numbers_but without (from + 1) count))
    by true is later = later (λ here. apart (sym here ∙ equal_from from without is))
    by false is later = first (from == a) refl later

pub order_has : (remembered first count a : ℕ) → first ≤ a → a < first + count → Has a (order_from remembered first count)
order_has remembered first count a low high = by (remembered == a) refl
  where
    by : (b : Bool) → (remembered == a) ≡ b → Has a (remembered ∷ numbers_but remembered first count)
    by true is = inl (equal_from remembered a is)
    by false is = inr (numbers_has remembered first count a low high (λ here. apart_from remembered a is (sym here)))

numbers_below : (n without from count : ℕ) → from + count ≤ n → Below n (numbers_but without from count)
numbers_below n without from zero within = tt
numbers_below n without from (suc count) within = by (from == without) (numbers_below n without (from + 1) count (omega (arith, within)))
  where
    by : (b : Bool) → Below n (numbers_but without (from + 1) count) → Below n (cond b (numbers_but without (from + 1) count) (from ∷ numbers_but without (from + 1) count))
    by true later = later
    by false later = (omega (arith, within), later)

pub order_below : (n remembered first count : ℕ) → remembered < n → first + count ≤ n → Below n (order_from remembered first count)
order_below n remembered first count below within = (below, numbers_below n remembered first count within)
