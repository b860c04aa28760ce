-- A byte is the sum of its low half and of sixteen times its high half, so its product with an element is a sum of two products.
use Rattle.std.proofs.Common.{◌≡◌, ℕ, ◌%◌, ◌/◌, ◌<◌, true, ◌==◌, refl, sym, ap, ◌∙◌, arith}
use Rattle.std.specs.Prelude.{bit_xor}
use Rattle.std.proofs.lemmas.Bool.{eqb-true}
use Rattle.std.proofs.lemmas.Nat.{xor_comm}
use Rattle.hdfs_wire.proofs.Xor.{zero-xor}
use Rattle.hdfs_field.specs.Elements.{product, product_below, shifted}
use Rattle.hdfs_field.specs.Below.{holds_below, holds_below-at}
use Rattle.hdfs_field.specs.Products.{product-lt, product-comm, product-assoc, product-one, product_below-right}

halves_add : holds_below 256 (λ b. b == bit_xor (b % 16) (product 16 (b / 16))) ≡ true
unfolding product_below
halves_add = refl

-- the two halves of a byte add up to it
byte-halves : (b : ℕ) → b < 256 → b ≡ bit_xor (b % 16) (product 16 (b / 16))
byte-halves b lt = eqb-true _ _ (holds_below-at 256 (λ (n : ℕ). n == bit_xor (n % 16) (product 16 (n / 16))) b halves_add lt)

-- the product with a byte, by its halves
pub product-halves : (c b : ℕ) → c < 256 → b < 256 → product c b ≡ bit_xor (product c (b % 16)) (product (product c 16) (b / 16))
product-halves c b small lt =
    let low : b % 16 < 256 = omega arith in
    let high : b / 16 < 256 = omega arith in
    ap (product c) (byte-halves b lt) ∙ product_below-right 8 c (b % 16) (product 16 (b / 16)) low (product-lt 16 (b / 16) high)
    ∙ ap (bit_xor (product c (b % 16))) (sym (product-assoc c 16 (b / 16) (omega arith) high))

bits_add : holds_below 256 (λ b. b == bit_xor (b % 2) (product 2 (b / 2))) ≡ true
unfolding product_below
bits_add = refl

byte-bits : (b : ℕ) → b < 256 → b ≡ bit_xor (b % 2) (product 2 (b / 2))
byte-bits b lt = eqb-true _ _ (holds_below-at 256 (λ (n : ℕ). n == bit_xor (n % 2) (product 2 (n / 2))) b bits_add lt)

doubles : holds_below 256 (λ b. product 2 b == shifted b) ≡ true
unfolding product_below
doubles = refl

product-two : (b : ℕ) → b < 256 → product 2 b ≡ shifted b
product-two b lt = eqb-true _ _ (holds_below-at 256 (λ (n : ℕ). product 2 n == shifted n) b doubles lt)

-- the product with a byte, by the byte without its lowest bit
product-bits : (c b : ℕ) → c < 256 → b < 256 → product c b ≡ bit_xor (product c (b % 2)) (shifted (product c (b / 2)))
product-bits c b small lt =
    let half : b / 2 < 256 = omega arith in
    let low : b % 2 < 256 = omega arith in
    let twice : product c (product 2 (b / 2)) ≡ shifted (product c (b / 2))
    = sym (product-assoc c 2 (b / 2) (omega arith) half) ∙ ap (λ (x : ℕ). product x (b / 2)) (product-comm c 2 small (omega arith))
    ∙ product-assoc 2 c (b / 2) small half ∙ product-two (product c (b / 2)) (product-lt c (b / 2) half) in
    ap (product c) (byte-bits b lt) ∙ product_below-right 8 c (b % 2) (product 2 (b / 2)) low (product-lt 2 (b / 2) half)
    ∙ ap (bit_xor (product c (b % 2))) twice

pub product-zero : (c : ℕ) → c < 256 → product c 0 ≡ 0
unfolding product_below
product-zero c lt = product-comm c 0 lt (omega arith)

-- an entry of the table, of an odd number and of an even one
pub product-odd : (c b : ℕ) → c < 256 → b < 256 → b % 2 ≡ 1 → product c b ≡ bit_xor (shifted (product c (b / 2))) c
product-odd c b small lt odd =
    product-bits c b small lt ∙ ap (λ (x : ℕ). bit_xor (product c x) (shifted (product c (b / 2)))) odd
    ∙ ap (λ (x : ℕ). bit_xor x (shifted (product c (b / 2)))) (product-one c small) ∙ xor_comm c (shifted (product c (b / 2)))

pub product-even : (c b : ℕ) → c < 256 → b < 256 → b % 2 ≡ 0 → product c b ≡ shifted (product c (b / 2))
product-even c b small lt even =
    product-bits c b small lt ∙ ap (λ (x : ℕ). bit_xor (product c x) (shifted (product c (b / 2)))) even
    ∙ ap (λ (x : ℕ). bit_xor x (shifted (product c (b / 2)))) (product-zero c small) ∙ zero-xor (shifted (product c (b / 2)))
