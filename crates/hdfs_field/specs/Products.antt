-- The product in the field is linear in each of its factors, and it commutes and associates.
use Rattle.std.specs.Prelude.{◌≡◌, ℕ, zero, suc, ◌+◌, ◌*◌, ◌/◌, ◌%◌, ◌^◌, ◌<◌, ◌==◌, nat_lt, ◌⊎◌, true, false, if◌then◌else◌, bit_xor, refl}
use Rattle.std.proofs.Common.{sym, ap, ◌∙◌, subst, inl, inr, lit<}
use Rattle.std.proofs.Math.Nat.{add-zero, mul_comm}
use Rattle.std.proofs.lemmas.Nat.{xor_block, xor_shr, xor_of_8}
use Rattle.std.proofs.lemmas.Bool.{eqb-true, ltb-true}
use Rattle.hdfs_wire.proofs.Xor.{xor-zero, xor-self, xor_medial, xor-half, xor-parity}
use Rattle.hdfs_wire.proofs.Register.{two_cases}
use Rattle.hdfs_field.specs.Polynomials.{modulus}
use Rattle.hdfs_field.specs.Elements.{shifted, product_below, product}
use Rattle.hdfs_field.specs.Below.{holds_below, holds_below-at, odd_part, odd_part-holds, spanned}

pub odd_part-none : (a : ℕ) → odd_part a 0 ≡ 0
odd_part-none a = odd_part-holds (λ (x : ℕ). x ≡ 0) a 0 refl refl

pub odd_part-right : (a b c : ℕ) → odd_part a (bit_xor b c) ≡ bit_xor (odd_part a b) (odd_part a c)
odd_part-right a b c = elim (a % 2 == 1) as (λ t. (if t then bit_xor b c else 0) ≡ bit_xor (if t then b else 0) (if t then c else 0)) [ true ↦ refl | false ↦ refl ]

-- c where the bit is set
abbrev taken : ℕ → ℕ → ℕ
taken bit c = if bit == 1 then c else 0

taken-xor : (c u v : ℕ) → (u ≡ 0) ⊎ (u ≡ 1) → (v ≡ 0) ⊎ (v ≡ 1) → taken (bit_xor u v) c ≡ bit_xor (taken u c) (taken v c)
taken-xor c u v (inl e) second = subst (λ (x : ℕ). taken (bit_xor x v) c ≡ bit_xor (taken x c) (taken v c)) (sym e) refl
taken-xor c u v (inr e) (inl f) = subst (λ (x : ℕ). taken (bit_xor u x) c ≡ bit_xor (taken u c) (taken x c)) (sym f)
    (subst (λ (x : ℕ). taken (bit_xor x 0) c ≡ bit_xor (taken x c) 0) (sym e) (sym (xor-zero c)))
taken-xor c u v (inr e) (inr f) = subst (λ (x : ℕ). taken (bit_xor u x) c ≡ bit_xor (taken u c) (taken x c)) (sym f)
    (subst (λ (x : ℕ). taken (bit_xor x 1) c ≡ bit_xor (taken x c) c) (sym e) (sym (xor-self c)))

pub odd_part-left : (a b c : ℕ) → odd_part (bit_xor a b) c ≡ bit_xor (odd_part a c) (odd_part b c)
odd_part-left a b c = ap (λ (x : ℕ). taken x c) (xor-parity a b) ∙ taken-xor c (a % 2) (b % 2) (two_cases a) (two_cases b)

pub double-xor : (a b : ℕ) → 2 * bit_xor a b ≡ bit_xor (2 * a) (2 * b)
double-xor a b =
    let plain = λ (n : ℕ). add-zero (n * 2 ^ 1) ∙ mul_comm n 2 in
    sym (plain (bit_xor a b)) ∙ sym (xor_block 1 a b 0 0 (lit< tt) (lit< tt)) ∙ ap (λ (x : ℕ). bit_xor x (b * 2 ^ 1 + 0)) (plain a) ∙ ap (bit_xor (2 * a)) (plain b)

-- ---- x times an element

shifted_small : holds_below 256 (λ b. nat_lt (shifted b) 256) ≡ true
shifted_small = refl

pub shifted-lt : (b : ℕ) → b < 256 → shifted b < 256
shifted-lt b lt = ltb-true _ _ (holds_below-at 256 (λ (n : ℕ). nat_lt (shifted n) 256) b shifted_small lt)

shifted_split : holds_below 256 (λ b. shifted b == bit_xor (2 * b) (odd_part (b / 128) modulus)) ≡ true
shifted_split = refl

pub shifted-parts : (b : ℕ) → b < 256 → shifted b ≡ bit_xor (2 * b) (odd_part (b / 128) modulus)
shifted-parts b lt = eqb-true _ _ (holds_below-at 256 (λ (n : ℕ). shifted n == bit_xor (2 * n) (odd_part (n / 128) modulus)) b shifted_split lt)

pub xor-lt : (a b : ℕ) → a < 256 → b < 256 → bit_xor a b < 256
xor-lt a b left right = xor_of_8 a b left right

pub shifted-xor : (a b : ℕ) → a < 256 → b < 256 → shifted (bit_xor a b) ≡ bit_xor (shifted a) (shifted b)
shifted-xor a b left right =
    shifted-parts (bit_xor a b) (xor-lt a b left right)
    ∙ ap (λ (x : ℕ). bit_xor (2 * bit_xor a b) (odd_part x modulus)) (xor_shr a b 7)
    ∙ ap (bit_xor (2 * bit_xor a b)) (odd_part-left (a / 128) (b / 128) modulus)
    ∙ ap (λ (x : ℕ). bit_xor x (bit_xor (odd_part (a / 128) modulus) (odd_part (b / 128) modulus))) (double-xor a b)
    ∙ xor_medial (2 * a) (2 * b) (odd_part (a / 128) modulus) (odd_part (b / 128) modulus)
    ∙ sym (ap (λ (x : ℕ). bit_xor x (bit_xor (2 * b) (odd_part (b / 128) modulus))) (shifted-parts a left))
    ∙ sym (ap (bit_xor (shifted a)) (shifted-parts b right))

shifted-odd_part : (a b : ℕ) → odd_part a (shifted b) ≡ shifted (odd_part a b)
shifted-odd_part a b = elim (a % 2 == 1) as (λ t. (if t then shifted b else 0) ≡ shifted (if t then b else 0)) [ true ↦ refl | false ↦ refl ]

odd_part-lt : (a b : ℕ) → b < 256 → odd_part a b < 256
odd_part-lt a b lt = odd_part-holds (λ (x : ℕ). x < 256) a b (lit< tt) lt

-- ---- the product

pub product_below-lt : (n a b : ℕ) → b < 256 → product_below n a b < 256
unfolding product_below
product_below-lt zero a b lt = lit< tt
product_below-lt (suc n) a b lt = xor-lt (odd_part a b) (product_below n (a / 2) (shifted b)) (odd_part-lt a b lt) (product_below-lt n (a / 2) (shifted b) (shifted-lt b lt))

pub product_below-right : (n a b c : ℕ) → b < 256 → c < 256 → product_below n a (bit_xor b c) ≡ bit_xor (product_below n a b) (product_below n a c)
unfolding product_below
product_below-right zero a b c left right = refl
product_below-right (suc n) a b c left right =
    let rest = product_below-right n (a / 2) (shifted b) (shifted c) (shifted-lt b left) (shifted-lt c right) in
    ap (λ (x : ℕ). bit_xor (odd_part a (bit_xor b c)) (product_below n (a / 2) x)) (shifted-xor b c left right)
    ∙ ap (bit_xor (odd_part a (bit_xor b c))) rest
    ∙ ap (λ (x : ℕ). bit_xor x (bit_xor (product_below n (a / 2) (shifted b)) (product_below n (a / 2) (shifted c)))) (odd_part-right a b c)
    ∙ xor_medial (odd_part a b) (odd_part a c) (product_below n (a / 2) (shifted b)) (product_below n (a / 2) (shifted c))

pub product_below-left : (n a b c : ℕ) → product_below n (bit_xor a b) c ≡ bit_xor (product_below n a c) (product_below n b c)
unfolding product_below
product_below-left zero a b c = refl
product_below-left (suc n) a b c =
    ap (λ (x : ℕ). bit_xor (odd_part (bit_xor a b) c) (product_below n x (shifted c))) (xor-half a b)
    ∙ ap (bit_xor (odd_part (bit_xor a b) c)) (product_below-left n (a / 2) (b / 2) (shifted c))
    ∙ ap (λ (x : ℕ). bit_xor x (bit_xor (product_below n (a / 2) (shifted c)) (product_below n (b / 2) (shifted c)))) (odd_part-left a b c)
    ∙ xor_medial (odd_part a c) (odd_part b c) (product_below n (a / 2) (shifted c)) (product_below n (b / 2) (shifted c))

product_below-shifted : (n a b : ℕ) → b < 256 → product_below n a (shifted b) ≡ shifted (product_below n a b)
unfolding product_below
product_below-shifted zero a b lt = refl
product_below-shifted (suc n) a b lt =
    let next = shifted-lt b lt in
    ap (bit_xor (odd_part a (shifted b))) (product_below-shifted n (a / 2) (shifted b) next)
    ∙ ap (λ (x : ℕ). bit_xor x (shifted (product_below n (a / 2) (shifted b)))) (shifted-odd_part a b)
    ∙ sym (shifted-xor (odd_part a b) (product_below n (a / 2) (shifted b)) (odd_part-lt a b lt) (product_below-lt n (a / 2) (shifted b) next))

product_below-none : (n a : ℕ) → product_below n a 0 ≡ 0
unfolding product_below
product_below-none zero a = refl
product_below-none (suc n) a = ap (λ (x : ℕ). bit_xor x (product_below n (a / 2) 0)) (odd_part-none a) ∙ product_below-none n (a / 2)

none-product_below : (n b : ℕ) → product_below n 0 b ≡ 0
unfolding product_below
none-product_below zero b = refl
none-product_below (suc n) b = none-product_below n (shifted b)

pub product-lt : (a b : ℕ) → b < 256 → product a b < 256
product-lt a b lt = product_below-lt 8 a b lt

-- ---- it commutes

-- a number below 256 that commutes with b
record Commutes (b a : ℕ) : Type 0 where
  pub below : a < 256
  pub same : product a b ≡ product b a

commutes-sum : (b : ℕ) → b < 256 → (x y : ℕ) → Commutes b x → Commutes b y → Commutes b (bit_xor x y)
commutes-sum b lt x y p q = record {
  below = xor-lt x y p.below q.below;
  same = product_below-left 8 x y b ∙ ap (λ (z : ℕ). bit_xor z (product y b)) p.same ∙ ap (bit_xor (product b x)) q.same ∙ sym (product_below-right 8 b x y p.below q.below);
}

commutes-none : (b : ℕ) → Commutes b 0
commutes-none b = record { below = lit< tt; same = none-product_below 8 b ∙ sym (product_below-none 8 b) }

powers_small : holds_below 8 (λ i. nat_lt (2 ^ i) 256) ≡ true
powers_small = refl

power-lt : (i : ℕ) → i < 8 → 2 ^ i < 256
power-lt i lt = ltb-true _ _ (holds_below-at 8 (λ (n : ℕ). nat_lt (2 ^ n) 256) i powers_small lt)

powers_commute : holds_below 8 (λ j. holds_below 8 (λ i. product (2 ^ i) (2 ^ j) == product (2 ^ j) (2 ^ i))) ≡ true
unfolding product_below
powers_commute = refl

powers-comm : (j i : ℕ) → j < 8 → i < 8 → Commutes (2 ^ j) (2 ^ i)
powers-comm j i left right =
    let row = holds_below-at 8 (λ (n : ℕ). holds_below 8 (λ (m : ℕ). product (2 ^ m) (2 ^ n) == product (2 ^ n) (2 ^ m))) j powers_commute left in
    record { below = power-lt i right; same = eqb-true _ _ (holds_below-at 8 (λ (m : ℕ). product (2 ^ m) (2 ^ j) == product (2 ^ j) (2 ^ m)) i row right) }

power-comm : (j a : ℕ) → j < 8 → a < 256 → Commutes (2 ^ j) a
power-comm j a left right = spanned (Commutes (2 ^ j)) (commutes-sum (2 ^ j) (power-lt j left)) (commutes-none (2 ^ j)) (λ i lt. powers-comm j i left lt) a right

turned : (b a : ℕ) → a < 256 → Commutes a b → Commutes b a
turned b a lt p = record { below = lt; same = sym p.same }

pub product-comm : (a b : ℕ) → a < 256 → b < 256 → product a b ≡ product b a
product-comm a b left right =
    let all = spanned (Commutes b) (commutes-sum b right) (commutes-none b) (λ i lt. turned b (2 ^ i) (power-lt i lt) (power-comm i b lt right)) a left in
    all.same

-- ---- it associates

pub shifted-product : (b c : ℕ) → b < 256 → c < 256 → product (shifted b) c ≡ shifted (product b c)
shifted-product b c left right =
    product-comm (shifted b) c (shifted-lt b left) right ∙ product_below-shifted 8 c b left ∙ ap shifted (product-comm c b right left)

odd_part-product : (a b c : ℕ) → product (odd_part a b) c ≡ odd_part a (product b c)
odd_part-product a b c = elim (a % 2 == 1) as (λ t. product (if t then b else 0) c ≡ (if t then product b c else 0)) [ true ↦ refl | false ↦ none-product_below 8 c ]

product_below-assoc : (n a b c : ℕ) → b < 256 → c < 256 → product (product_below n a b) c ≡ product_below n a (product b c)
unfolding product_below
product_below-assoc zero a b c left right = none-product_below 8 c
product_below-assoc (suc n) a b c left right =
    let rest = product_below-assoc n (a / 2) (shifted b) c (shifted-lt b left) right in
    product_below-left 8 (odd_part a b) (product_below n (a / 2) (shifted b)) c
    ∙ ap (λ (x : ℕ). bit_xor x (product (product_below n (a / 2) (shifted b)) c)) (odd_part-product a b c)
    ∙ ap (bit_xor (odd_part a (product b c))) (rest ∙ ap (product_below n (a / 2)) (shifted-product b c left right))

pub product-assoc : (a b c : ℕ) → b < 256 → c < 256 → product (product a b) c ≡ product a (product b c)
product-assoc a b c left right = product_below-assoc 8 a b c left right

-- ---- one

ones_keep : holds_below 256 (λ a. product a 1 == a) ≡ true
unfolding product_below
ones_keep = refl

pub product-one : (a : ℕ) → a < 256 → product a 1 ≡ a
product-one a lt = eqb-true _ _ (holds_below-at 256 (λ (n : ℕ). product n 1 == n) a ones_keep lt)
