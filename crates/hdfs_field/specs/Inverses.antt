-- The power 254 of an element other than zero is its inverse.
use Rattle.std.specs.Prelude.{◌≡◌, ◌≢◌, ℕ, zero, suc, ◌<◌, ◌==◌, ◌||◌, true, refl}
use Rattle.std.proofs.Common.{ap, ◌∙◌, lit<, inl, inr}
use Rattle.std.proofs.lemmas.Bool.{eqb-true, or_cases}
use Rattle.hdfs_field.specs.Elements.{product_below, product, power_product, quotient}
use Rattle.hdfs_field.specs.Below.{holds_below, holds_below-at}
use Rattle.hdfs_field.specs.Products.{product-lt, product-assoc, product-one}

pub power_product-lt : (n b : ℕ) → b < 256 → power_product n b < 256
unfolding power_product
power_product-lt zero b lt = lit< tt
power_product-lt (suc n) b lt = product-lt (product b b) (power_product n (product b b)) (power_product-lt n (product b b) (product-lt b b lt))

inverses : holds_below 256 (λ b. (b == 0) || (product (power_product 7 b) b == 1)) ≡ true
unfolding product_below power_product
inverses = refl

pub inverse-product : (b : ℕ) → b < 256 → b ≢ 0 → product (power_product 7 b) b ≡ 1
inverse-product b lt some = elim (or_cases _ _ (holds_below-at 256 (λ (n : ℕ). (n == 0) || (product (power_product 7 n) n == 1)) b inverses lt)) [
  | inl e ↦ absurd (some (eqb-true _ _ e))
  | inr e ↦ eqb-true _ _ e
]

pub quotient-lt : (a b : ℕ) → b < 256 → quotient a b < 256
quotient-lt a b lt = product-lt a (power_product 7 b) (power_product-lt 7 b lt)

pub quotient-back : (a b : ℕ) → a < 256 → b < 256 → b ≢ 0 → product (quotient a b) b ≡ a
quotient-back a b left right some =
    product-assoc a (power_product 7 b) b (power_product-lt 7 b right) right ∙ ap (product a) (inverse-product b right some) ∙ product-one a left
