-- The field of 256 elements obeys the laws of a field.
use mathlib.Core.HLevel.{is_prop→PathP}
use Rattle.std.specs.Prelude.{◌≡◌, ◌≢◌, ℕ, ◌%◌, ◌<◌, ◌==◌, ◌↔◌, true, bit_xor}
use Rattle.std.specs.Coded.{le_prop}
use Rattle.std.proofs.Common.{sym, ap, ◌∙◌}
use Rattle.std.proofs.Math.Nat.{mod-eq_of_lt}
use Rattle.std.proofs.lemmas.Nat.{xor_comm}
use Rattle.std.proofs.lemmas.Bool.{eqb-true, eq-eqb, false≢true}
use Rattle.hdfs_wire.proofs.Xor.{xor-zero, xor_assoc, xor_back}
use Rattle.hdfs_field.specs.declared.gf256.GF256.{GF256}
use Rattle.hdfs_field.specs.Rings.{IsCommutativeRing, IsField}
use Rattle.hdfs_field.specs.Elements.{element, product, quotient, gf256, gf256_quotient}
use Rattle.hdfs_field.specs.Products.{xor-lt, product-lt, product-comm, product-assoc, product-one, product_below-right}
use Rattle.hdfs_field.specs.Inverses.{quotient-back, quotient-lt}

-- elements of one number are equal
pub same_element : (a b : GF256) → a.value ≡ b.value → a ≡ b
same_element a b e = λ i. record { value = e i; in_range = is_prop→PathP (λ j. e j < 256) (λ j. le_prop) a.in_range b.in_range i }

-- the number of a sum, of a product and of a quotient is below 256 as it is
pub sum-value : (a b : GF256) → (gf256.sum a b).value ≡ bit_xor a.value b.value
sum-value a b = mod-eq_of_lt (xor-lt a.value b.value a.in_range b.in_range)

pub product-value : (a b : GF256) → (gf256.product a b).value ≡ product a.value b.value
product-value a b = mod-eq_of_lt (product-lt a.value b.value b.in_range)

pub quotient-value : (a b : GF256) → (gf256_quotient a b).value ≡ quotient a.value b.value
quotient-value a b = mod-eq_of_lt (quotient-lt a.value b.value b.in_range)

pub not_zero : (b : GF256) → b ≢ element 0 → b.value ≢ 0
not_zero b some e = some (same_element b (element 0) e)

pub gf256_lawful : IsCommutativeRing gf256
gf256_lawful = record {
  sum_assoc = λ a b c. same_element _ _ (ap (λ (x : ℕ). bit_xor x c.value % 256) (sum-value a b) ∙ ap (λ (x : ℕ). x % 256) (xor_assoc a.value b.value c.value) ∙ sym (ap (λ (x : ℕ). bit_xor a.value x % 256) (sum-value b c)));
  sum_comm = λ a b. same_element _ _ (ap (λ (x : ℕ). x % 256) (xor_comm a.value b.value));
  sum_zero = λ a. same_element _ _ (ap (λ (x : ℕ). x % 256) (xor-zero a.value) ∙ mod-eq_of_lt a.in_range);
  difference_back = λ a b. same_element _ _ (ap (λ (x : ℕ). bit_xor x b.value % 256) (sum-value a b) ∙ ap (λ (x : ℕ). x % 256) (xor_back a.value b.value) ∙ mod-eq_of_lt a.in_range);
  product_assoc = λ a b c. same_element _ _ (ap (λ (x : ℕ). product x c.value % 256) (product-value a b) ∙ ap (λ (x : ℕ). x % 256) (product-assoc a.value b.value c.value b.in_range c.in_range) ∙ sym (ap (λ (x : ℕ). product a.value x % 256) (product-value b c)));
  product_comm = λ a b. same_element _ _ (ap (λ (x : ℕ). x % 256) (product-comm a.value b.value a.in_range b.in_range));
  product_one = λ a. same_element _ _ (ap (λ (x : ℕ). x % 256) (product-one a.value a.in_range) ∙ mod-eq_of_lt a.in_range);
  product_sum = λ a b c. same_element _ _ (
      ap (λ (x : ℕ). product a.value x % 256) (sum-value b c) ∙ ap (λ (x : ℕ). x % 256) (product_below-right 8 a.value b.value c.value b.in_range c.in_range)
      ∙ sym (ap (λ (x : ℕ). bit_xor x (gf256.product a c).value % 256) (product-value a b) ∙ ap (λ (x : ℕ). bit_xor (product a.value b.value) x % 256) (product-value a c)));
}

pub gf256_field : IsField gf256 gf256_quotient
gf256_field = record {
  apart = λ e. false≢true (ap (λ (x : GF256). x.value == 0) e);
  quotient_back = λ a b some. same_element _ _ (
      ap (λ (x : ℕ). product x b.value % 256) (quotient-value a b)
      ∙ ap (λ (x : ℕ). x % 256) (quotient-back a.value b.value a.in_range b.in_range (not_zero b some)) ∙ mod-eq_of_lt a.in_range);
}

pub gf256_equal : (a b : GF256) → ((a.value == b.value) ≡ true) ↔ (a ≡ b)
gf256_equal a b = (λ h. same_element a b (eqb-true _ _ h), λ e. eq-eqb _ _ (ap (λ (x : GF256). x.value) e))
