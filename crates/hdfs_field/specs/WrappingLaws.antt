-- Whole numbers modulo 2^32 obey the laws of a commutative ring.
use mathlib.Core.HLevel.{is_prop→PathP}
use Rattle.std.specs.Prelude.{◌≡◌, ℕ, ◌+◌, ◌-◌, ◌*◌, ◌%◌, ◌^◌, ◌<◌, ◌==◌, ◌↔◌, true}
use Rattle.std.specs.Coded.{le_prop}
use Rattle.std.proofs.Common.{sym, ap, ◌∙◌}
use Rattle.std.proofs.Math.Nat.{add_comm, add_assoc, add-zero, mul_comm, mul_assoc, mul-one, mul-add, mod-eq_of_lt, add-mod-mod, mod-add-mod, add-mod_right, sub-add_cancel, le_trans, le_of_lt, le-add_left}
use Rattle.std.proofs.lemmas.Nat.{mul-mod_first, mul-mod_second}
use Rattle.std.proofs.lemmas.Bool.{eqb-true, eq-eqb}
use Rattle.hdfs_field.specs.declared.wrap32.Wrap32.{Wrap32}
use Rattle.hdfs_field.specs.Rings.{IsCommutativeRing}
use Rattle.hdfs_field.specs.Wrapping.{wrapping}

-- numbers of one value are equal
pub same_number : (a b : Wrap32) → a.value ≡ b.value → a ≡ b
same_number a b e = λ i. record { value = e i; in_range = is_prop→PathP (λ j. e j < 2 ^ 32) (λ j. le_prop) a.in_range b.in_range i }

-- ---- the laws modulo m

sums_assoc : (a b c m : ℕ) → ((a + b) % m + c) % m ≡ (a + (b + c) % m) % m
sums_assoc a b c m = mod-add-mod (a + b) m c ∙ ap (λ (x : ℕ). x % m) (add_assoc a b c) ∙ sym (add-mod-mod a (b + c) m)

products_assoc : (a b c m : ℕ) → ((a * b) % m * c) % m ≡ (a * ((b * c) % m)) % m
products_assoc a b c m = mul-mod_first (a * b) c m ∙ ap (λ (x : ℕ). x % m) (mul_assoc a b c) ∙ sym (mul-mod_second a (b * c) m)

products_sum : (a b c m : ℕ) → (a * ((b + c) % m)) % m ≡ ((a * b) % m + (a * c) % m) % m
products_sum a b c m =
    mul-mod_second a (b + c) m ∙ ap (λ (x : ℕ). x % m) (mul-add a b c) ∙ sym (add-mod-mod (a * b) (a * c) m) ∙ sym (mod-add-mod (a * b) m ((a * c) % m))

difference_sum : (a b m : ℕ) → a < m → b < m → ((a + m - b) % m + b) % m ≡ a
difference_sum a b m left right =
    let within = le_trans (le_of_lt right) (le-add_left m a) in
    mod-add-mod (a + m - b) m b ∙ ap (λ (x : ℕ). x % m) (sub-add_cancel within) ∙ add-mod_right a m ∙ mod-eq_of_lt left

pub wrapping_lawful : IsCommutativeRing wrapping
wrapping_lawful = record {
  sum_assoc = λ a b c. same_number _ _ (sums_assoc a.value b.value c.value (2 ^ 32));
  sum_comm = λ a b. same_number _ _ (ap (λ (x : ℕ). x % 2 ^ 32) (add_comm a.value b.value));
  sum_zero = λ a. same_number _ _ (ap (λ (x : ℕ). x % 2 ^ 32) (add-zero a.value) ∙ mod-eq_of_lt a.in_range);
  difference_back = λ a b. same_number _ _ (difference_sum a.value b.value (2 ^ 32) a.in_range b.in_range);
  product_assoc = λ a b c. same_number _ _ (products_assoc a.value b.value c.value (2 ^ 32));
  product_comm = λ a b. same_number _ _ (ap (λ (x : ℕ). x % 2 ^ 32) (mul_comm a.value b.value));
  product_one = λ a. same_number _ _ (ap (λ (x : ℕ). x % 2 ^ 32) (mul-one a.value) ∙ mod-eq_of_lt a.in_range);
  product_sum = λ a b c. same_number _ _ (products_sum a.value b.value c.value (2 ^ 32));
}

pub wrapping_equal : (a b : Wrap32) → ((a.value == b.value) ≡ true) ↔ (a ≡ b)
wrapping_equal a b = (λ h. same_number a b (eqb-true _ _ h), λ e. eq-eqb _ _ (ap (λ (x : Wrap32). x.value) e))
