-- The product in the field is the product of polynomials, less a multiple of the modulus; and there is no other.
use Rattle.std.proofs.Common.{◌≡◌, ℕ, zero, suc, ◌*◌, ◌/◌, ◌^◌, ◌<◌, ◌||◌, not, eqb, ltb, true, refl, sym, ap, ◌∙◌, subst, inl, inr, arith}
use Rattle.std.specs.Prelude.{bit_xor}
use Rattle.std.proofs.Math.Nat.{pow-suc}
use Rattle.std.proofs.lemmas.Nat.{xor_comm, xor_lt}
use Rattle.std.proofs.lemmas.Bool.{eqb-true, lt-ltb}
use Rattle.hdfs_wire.proofs.Xor.{xor-zero, xor-self, xor_assoc, xor_back, xor_cancel_left, xor_medial, xor-half}
use Rattle.hdfs_wire.proofs.Register.{two_cases}
use Rattle.hdfs_field.specs.Polynomials.{polynomial_product, modulus, IsProductOf}
use Rattle.hdfs_field.specs.Elements.{shifted, product_below, product}
use Rattle.hdfs_field.specs.Below.{holds_below, holds_below-at, odd_part}
use Rattle.hdfs_field.specs.Products.{odd_part-none, odd_part-right, odd_part-left, double-xor, shifted-lt, shifted-parts, product-lt, xor-lt}

-- ---- the product of polynomials is linear in each factor

pub polynomial_product-right : (n a b c : ℕ) → polynomial_product n a (bit_xor b c) ≡ bit_xor (polynomial_product n a b) (polynomial_product n a c)
unfolding polynomial_product
polynomial_product-right zero a b c = refl
polynomial_product-right (suc n) a b c =
    ap (λ (x : ℕ). bit_xor (odd_part a (bit_xor b c)) (polynomial_product n (a / 2) x)) (double-xor b c)
    ∙ ap (bit_xor (odd_part a (bit_xor b c))) (polynomial_product-right n (a / 2) (2 * b) (2 * c))
    ∙ ap (λ (x : ℕ). bit_xor x (bit_xor (polynomial_product n (a / 2) (2 * b)) (polynomial_product n (a / 2) (2 * c)))) (odd_part-right a b c)
    ∙ xor_medial (odd_part a b) (odd_part a c) (polynomial_product n (a / 2) (2 * b)) (polynomial_product n (a / 2) (2 * c))

pub polynomial_product-left : (n a b c : ℕ) → polynomial_product n (bit_xor a b) c ≡ bit_xor (polynomial_product n a c) (polynomial_product n b c)
unfolding polynomial_product
polynomial_product-left zero a b c = refl
polynomial_product-left (suc n) a b c =
    ap (λ (x : ℕ). bit_xor (odd_part (bit_xor a b) c) (polynomial_product n x (2 * c))) (xor-half a b)
    ∙ ap (bit_xor (odd_part (bit_xor a b) c)) (polynomial_product-left n (a / 2) (b / 2) (2 * c))
    ∙ ap (λ (x : ℕ). bit_xor x (bit_xor (polynomial_product n (a / 2) (2 * c)) (polynomial_product n (b / 2) (2 * c)))) (odd_part-left a b c)
    ∙ xor_medial (odd_part a c) (odd_part b c) (polynomial_product n (a / 2) (2 * c)) (polynomial_product n (b / 2) (2 * c))

polynomial_product-none : (n a : ℕ) → polynomial_product n a 0 ≡ 0
unfolding polynomial_product
polynomial_product-none zero a = refl
polynomial_product-none (suc n) a = ap (λ (x : ℕ). bit_xor x (polynomial_product n (a / 2) 0)) (odd_part-none a) ∙ polynomial_product-none n (a / 2)

none-polynomial_product : (n b : ℕ) → polynomial_product n 0 b ≡ 0
unfolding polynomial_product
none-polynomial_product zero b = refl
none-polynomial_product (suc n) b = none-polynomial_product n (2 * b)

-- a further power that the factor lacks changes nothing
polynomial_product-more : (n a b : ℕ) → a < 2 ^ n → polynomial_product (suc n) a b ≡ polynomial_product n a b
unfolding polynomial_product
polynomial_product-more zero a b lt = let e : 0 ≡ a = omega arith in subst (λ (x : ℕ). polynomial_product 1 x b ≡ 0) e refl
polynomial_product-more (suc n) a b lt =
    let twice : 2 ^ suc n ≡ 2 ^ n * 2 = pow-suc 2 n in
    ap (bit_xor (odd_part a b)) (polynomial_product-more n (a / 2) (2 * b) (omega arith))

-- ---- the quotient of a product by the modulus

pub record Divided (n a b : ℕ) : Type 0 where
  pub quotient : ℕ
  pub below : quotient < 2 ^ n
  pub split : polynomial_product (suc n) a b ≡ bit_xor (polynomial_product n quotient modulus) (product_below (suc n) a b)

odd_part-lt : (k a b : ℕ) → b < 2 ^ k → 0 < 2 ^ k → odd_part a b < 2 ^ k
odd_part-lt k a b lt some = elim (two_cases a) [ inl e ↦ rw e some | inr e ↦ rw e lt ]

twice-parts : (b : ℕ) → b < 256 → 2 * b ≡ bit_xor (odd_part (b / 128) modulus) (shifted b)
twice-parts b lt =
    sym (xor_back (2 * b) (odd_part (b / 128) modulus)) ∙ ap (λ (x : ℕ). bit_xor x (odd_part (b / 128) modulus)) (sym (shifted-parts b lt)) ∙ xor_comm (shifted b) (odd_part (b / 128) modulus)

multiple : (n a c m : ℕ) → polynomial_product n a (odd_part c m) ≡ polynomial_product n (odd_part c a) m
multiple n a c m = elim (two_cases c) [
  | inl e ↦ rw e (polynomial_product-none n a ∙ sym (none-polynomial_product n m))
  | inr e ↦ rw e refl
]

xor_move : (p q r s : ℕ) → bit_xor p (bit_xor q (bit_xor r s)) ≡ bit_xor (bit_xor q r) (bit_xor p s)
xor_move p q r s =
    ap (bit_xor p) (sym (xor_assoc q r s)) ∙ sym (xor_assoc p (bit_xor q r) s) ∙ ap (λ (x : ℕ). bit_xor x s) (xor_comm p (bit_xor q r)) ∙ xor_assoc (bit_xor q r) p s

pub divided : (n a b : ℕ) → a < 2 ^ suc n → b < 256 → Divided n a b
unfolding polynomial_product product_below
divided zero a b lt fits = record { quotient = 0; below = omega arith; split = refl }
divided (suc n) a b lt fits =
    let twice : 2 ^ suc (suc n) ≡ 2 ^ suc n * 2 = pow-suc 2 (suc n) in
    let double : 2 ^ suc n ≡ 2 ^ n * 2 = pow-suc 2 n in
    let half : a / 2 < 2 ^ suc n = omega arith in
    let rest = divided n (a / 2) (shifted b) half (shifted-lt b fits) in
    let extra = odd_part (b / 128) (a / 2) in
    let one : polynomial_product (suc n) (a / 2) (2 * b) ≡ bit_xor (polynomial_product (suc n) extra modulus) (polynomial_product (suc n) (a / 2) (shifted b)) =
    ap (polynomial_product (suc n) (a / 2)) (twice-parts b fits) ∙ polynomial_product-right (suc n) (a / 2) (odd_part (b / 128) modulus) (shifted b)
    ∙ ap (λ (x : ℕ). bit_xor x (polynomial_product (suc n) (a / 2) (shifted b))) (multiple (suc n) (a / 2) (b / 128) modulus) in
    let two : polynomial_product (suc n) (a / 2) (shifted b) ≡ bit_xor (polynomial_product (suc n) rest.quotient modulus) (product_below (suc n) (a / 2) (shifted b)) =
    rest.split ∙ ap (λ (x : ℕ). bit_xor x (product_below (suc n) (a / 2) (shifted b))) (sym (polynomial_product-more n rest.quotient modulus rest.below)) in
    record {
      quotient = bit_xor extra rest.quotient;
      below = xor_lt (suc n) extra rest.quotient (odd_part-lt (suc n) (b / 128) (a / 2) half (omega arith)) (omega (arith, rest.below));
      split =
          ap (bit_xor (odd_part a b)) (one ∙ ap (bit_xor (polynomial_product (suc n) extra modulus)) two)
          ∙ xor_move (odd_part a b) (polynomial_product (suc n) extra modulus) (polynomial_product (suc n) rest.quotient modulus) (product_below (suc n) (a / 2) (shifted b))
          ∙ ap (λ (x : ℕ). bit_xor x (bit_xor (odd_part a b) (product_below (suc n) (a / 2) (shifted b)))) (sym (polynomial_product-left (suc n) extra rest.quotient modulus));
    }

pub product-is : (a b : ℕ) → a < 256 → b < 256 → IsProductOf a b (product a b)
product-is a b left right =
    let whole = divided 7 a b left right in
    record { small = product-lt a b right; quotient = whole.quotient; below = whole.below; split = whole.split }

-- ---- no other

multiples_large : holds_below 128 (λ q. eqb q 0 || not (ltb (polynomial_product 7 q modulus) 256)) ≡ true
unfolding polynomial_product
multiples_large = refl

small_multiple : (q : ℕ) → q < 128 → polynomial_product 7 q modulus < 256 → q ≡ 0
small_multiple q lt small =
    let h = holds_below-at 128 (λ (n : ℕ). eqb n 0 || not (ltb (polynomial_product 7 n modulus) 256)) q multiples_large lt in
    let low = lt-ltb (polynomial_product 7 q modulus) 256 small in
    eqb-true q 0 (grind (arith, h, low))

xor_same : (a b : ℕ) → bit_xor a b ≡ 0 → a ≡ b
xor_same a b e = sym (xor_back a b) ∙ ap (λ (x : ℕ). bit_xor x b) e

xor_swap : (a b r s : ℕ) → bit_xor a r ≡ bit_xor b s → bit_xor a b ≡ bit_xor r s
xor_swap a b r s e =
    let left : bit_xor (bit_xor a r) (bit_xor b r) ≡ bit_xor a b = xor_medial a r b r ∙ ap (bit_xor (bit_xor a b)) (xor-self r) ∙ xor-zero (bit_xor a b) in
    let right : bit_xor (bit_xor b s) (bit_xor b r) ≡ bit_xor r s =
    xor_medial b s b r ∙ ap (λ (x : ℕ). bit_xor x (bit_xor s r)) (xor-self b) ∙ xor_comm s r in
    sym left ∙ ap (λ (x : ℕ). bit_xor x (bit_xor b r)) e ∙ right

pub product-only : (a b r s : ℕ) → IsProductOf a b r → IsProductOf a b s → r ≡ s
product-only a b r s first second =
    let p = first.quotient in
    let q = second.quotient in
    let e = xor_swap (polynomial_product 7 p modulus) (polynomial_product 7 q modulus) r s (sym first.split ∙ second.split) in
    let between : polynomial_product 7 (bit_xor p q) modulus ≡ bit_xor r s = polynomial_product-left 7 p q modulus ∙ e in
    let P : ℕ → Type 0 = λ n. n < 256 in
    let small = subst P (sym between) (xor-lt r s first.small second.small) in
    let same = xor_same p q (small_multiple (bit_xor p q) (xor_lt 7 p q first.below second.below) small) in
    xor_cancel_left (polynomial_product 7 q modulus) r s (ap (λ (x : ℕ). bit_xor (polynomial_product 7 x modulus) r) (sym same) ∙ sym first.split ∙ second.split)
