-- Each element but 0 is a power of x. Exponents add up in a product, and x^255 is 1.
use Rattle.std.proofs.Common.{◌≡◌, ◌≢◌, ℕ, zero, suc, ◌+◌, ◌-◌, ◌<◌, ◌||◌, eqb, ltb, true, get_or, inl, inr, refl, sym, ap, ◌∙◌, lit<, arith}
use Rattle.std.proofs.lemmas.Bool.{eqb-true, or_cases, ltb-true}
use Rattle.hdfs_field.specs.declared.gf256.tables.TheConstants.{POWERS, EXPONENTS}
use Rattle.hdfs_field.specs.Elements.{shifted, product, power_product, quotient}
use Rattle.hdfs_field.specs.Powers.{power}
use Rattle.hdfs_field.specs.Below.{holds_below, holds_below-at}
use Rattle.hdfs_field.specs.Products.{shifted-lt, shifted-product, product-comm, product-assoc, product-one}
use Rattle.hdfs_field.specs.Inverses.{power_product-lt, inverse-product}
use Rattle.hdfs_field.proofs.Halves.{product-zero}

-- ---- the tables

entries_follow : holds_below 509 (λ n. eqb (get_or POWERS (suc n) 0) (shifted (get_or POWERS n 0))) ≡ true
entries_follow = refl

pub powers : (n : ℕ) → n < 510 → get_or POWERS n 0 ≡ power n
unfolding power
powers zero lt = refl
powers (suc n) lt =
    eqb-true _ _ (holds_below-at 509 (λ (m : ℕ). eqb (get_or POWERS (suc m) 0) (shifted (get_or POWERS m 0))) n entries_follow (omega arith))
    ∙ ap shifted (powers n (omega arith))

exponents_small : holds_below 256 (λ a. ltb (get_or EXPONENTS a 0) 255) ≡ true
exponents_small = refl

pub exponent-lt : (a : ℕ) → a < 256 → get_or EXPONENTS a 0 < 255
exponent-lt a lt = ltb-true _ _ (holds_below-at 256 (λ (n : ℕ). ltb (get_or EXPONENTS n 0) 255) a exponents_small lt)

exponents_hold : holds_below 256 (λ a. eqb a 0 || eqb (get_or POWERS (get_or EXPONENTS a 0) 0) a) ≡ true
exponents_hold = refl

pub exponent-is : (a : ℕ) → a < 256 → a ≢ 0 → power (get_or EXPONENTS a 0) ≡ a
exponent-is a lt some =
    let small = exponent-lt a lt in
    elim (or_cases _ _ (holds_below-at 256 (λ (n : ℕ). eqb n 0 || eqb (get_or POWERS (get_or EXPONENTS n 0) 0) n) a exponents_hold lt)) [
      | inl e ↦ absurd (some (eqb-true _ _ e))
      | inr e ↦ sym (powers (get_or EXPONENTS a 0) (omega arith)) ∙ eqb-true _ _ e
    ]

-- ---- products

power-lt : (n : ℕ) → power n < 256
unfolding power
power-lt zero = lit< tt
power-lt (suc n) = shifted-lt (power n) (power-lt n)

power-sum : (i j : ℕ) → product (power i) (power j) ≡ power (i + j)
unfolding power
power-sum zero j =
    let e : j ≡ 0 + j = omega arith in
    product-comm 1 (power j) (lit< tt) (power-lt j) ∙ product-one (power j) (power-lt j) ∙ ap power e
power-sum (suc i) j =
    let e : suc (i + j) ≡ suc i + j = omega arith in
    shifted-product (power i) (power j) (power-lt i) (power-lt j) ∙ ap shifted (power-sum i j) ∙ ap power e

pub product-powers : (a b i j : ℕ) → power i ≡ a → power j ≡ b → i < 255 → j < 255 → get_or POWERS (i + j) 0 ≡ product a b
product-powers a b i j left right small less =
    powers (i + j) (omega arith) ∙ sym (power-sum i j) ∙ ap (λ (x : ℕ). product x (power j)) left ∙ ap (product a) right

pub zero-product : (b : ℕ) → b < 256 → product 0 b ≡ 0
zero-product b lt = product-comm 0 b (lit< tt) lt ∙ product-zero b lt

-- ---- quotients

power_round : power 255 ≡ 1
unfolding power
power_round = refl

power-again : (n : ℕ) → power (n + 255) ≡ power n
power-again n = sym (power-sum n 255) ∙ ap (product (power n)) power_round ∙ product-one (power n) (power-lt n)

-- what gives a, times b, is the quotient of a by b
divides : (a b x : ℕ) → x < 256 → b < 256 → b ≢ 0 → product x b ≡ a → x ≡ quotient a b
divides a b x small lt some e =
    let inverse = power_product 7 b in
    let fits = power_product-lt 7 b lt in
    sym (product-one x small) ∙ ap (product x) (sym (product-comm b inverse lt fits ∙ inverse-product b lt some))
    ∙ sym (product-assoc x b inverse lt fits) ∙ ap (λ (y : ℕ). product y inverse) e

pub quotient-powers : (a b i j : ℕ) → power i ≡ a → power j ≡ b → i < 255 → j < 255 → b < 256 → b ≢ 0 → get_or POWERS (i + 255 - j) 0 ≡ quotient a b
quotient-powers a b i j left right small less lt some =
    let k = i + 255 - j in
    let whole : k + j ≡ i + 255 = omega arith in
    powers k (omega arith)
    ∙ divides a b (power k) (power-lt k) lt some
    (sym (ap (product (power k)) right) ∙ power-sum k j ∙ ap power whole ∙ power-again i ∙ left)

pub zero-quotient : (b : ℕ) → b < 256 → quotient 0 b ≡ 0
zero-quotient b lt = zero-product (power_product 7 b) (power_product-lt 7 b lt)
