-- The laws of the bitwise difference.
use Rattle.std.proofs.Common.{◌≡◌, ℕ, ◌+◌, ◌*◌, ◌/◌, ◌%◌, ◌^◌, refl, sym, ap, ◌∙◌, arith}
use Rattle.std.specs.Prelude.{bit_xor}
use Rattle.std.proofs.lemmas.Nat.{xor_block, xor_shr, xor_mod, xor_comm}
use Rattle.std.proofs.lemmas.Nat.Bits.{same_from_bits, bit_at_xor, bit_at-zero, bit_at-lt}

pub xor-zero : (a : ℕ) → bit_xor a 0 ≡ a
xor-zero a = same_from_bits (bit_xor a 0) a (λ i. rw (bit_at_xor a 0 i, bit_at-zero i) (omega (arith, bit_at-lt a i)))

pub zero-xor : (a : ℕ) → bit_xor 0 a ≡ a
zero-xor a = refl

pub xor_assoc : (a b c : ℕ) → bit_xor (bit_xor a b) c ≡ bit_xor a (bit_xor b c)
xor_assoc a b c = same_from_bits (bit_xor (bit_xor a b) c) (bit_xor a (bit_xor b c)) (λ i.
    rw (bit_at_xor (bit_xor a b) c i, bit_at_xor a b i, bit_at_xor a (bit_xor b c) i, bit_at_xor b c i) (omega arith))

pub xor_back : (a p : ℕ) → bit_xor (bit_xor a p) p ≡ a
xor_back a p = same_from_bits (bit_xor (bit_xor a p) p) a (λ i.
    rw (bit_at_xor (bit_xor a p) p i, bit_at_xor a p i) (omega (arith, bit_at-lt a i, bit_at-lt p i)))

pub xor_medial : (a b c d : ℕ) → bit_xor (bit_xor a b) (bit_xor c d) ≡ bit_xor (bit_xor a c) (bit_xor b d)
xor_medial a b c d =
    xor_assoc a b (bit_xor c d) ∙ ap (bit_xor a) (sym (xor_assoc b c d) ∙ ap (λ (x : ℕ). bit_xor x d) (xor_comm b c) ∙ xor_assoc c b d)
    ∙ sym (xor_assoc a c (bit_xor b d))

pub xor_cancel : (a b p : ℕ) → bit_xor a p ≡ bit_xor b p → a ≡ b
xor_cancel a b p e = sym (xor_back a p) ∙ ap (λ (x : ℕ). bit_xor x p) e ∙ xor_back b p

pub xor_cancel_left : (r a b : ℕ) → bit_xor r a ≡ bit_xor r b → a ≡ b
xor_cancel_left r a b e = xor_cancel a b r (xor_comm a r ∙ e ∙ xor_comm r b)

pub xor-half : (a b : ℕ) → bit_xor a b / 2 ≡ bit_xor (a / 2) (b / 2)
xor-half a b = xor_shr a b 1

pub xor-parity : (a b : ℕ) → bit_xor a b % 2 ≡ bit_xor (a % 2) (b % 2)
xor-parity a b = xor_mod a b 1

-- a number is its high part and its low byte, and its upper bits and its lowest
pub xor_byte : (r : ℕ) → bit_xor (r / 256 * 256) (r % 256) ≡ r
xor_byte r =
    let e = xor_block 8 (r / 256) 0 0 (r % 256) (omega arith) (omega arith) in
    let left : r / 256 * 2 ^ 8 + 0 ≡ r / 256 * 256 = omega arith in
    let right : 0 * 2 ^ 8 + r % 256 ≡ r % 256 = omega arith in
    let high = xor-zero (r / 256) in
    let whole : r / 256 * 2 ^ 8 + r % 256 ≡ r = omega arith in
    sym (ap (λ (x : ℕ). bit_xor x (r % 256)) left) ∙ sym (ap (λ (x : ℕ). bit_xor (r / 256 * 2 ^ 8 + 0) x) right) ∙ e ∙ ap (λ (x : ℕ). x * 2 ^ 8 + r % 256) high ∙ whole

pub xor_bit : (b : ℕ) → bit_xor (b % 2) (b / 2 * 2) ≡ b
xor_bit b =
    let e = xor_block 1 0 (b / 2) (b % 2) 0 (omega arith) (omega arith) in
    let left : 0 * 2 ^ 1 + b % 2 ≡ b % 2 = omega arith in
    let right : b / 2 * 2 ^ 1 + 0 ≡ b / 2 * 2 = omega arith in
    let low = xor-zero (b % 2) in
    let whole : b / 2 * 2 ^ 1 + b % 2 ≡ b = omega arith in
    sym (ap (λ (x : ℕ). bit_xor x (b / 2 * 2)) left) ∙ sym (ap (λ (x : ℕ). bit_xor (0 * 2 ^ 1 + b % 2) x) right) ∙ e ∙ ap (λ (x : ℕ). b / 2 * 2 ^ 1 + x) low ∙ whole

pub xor-self : (a : ℕ) → bit_xor a a ≡ 0
xor-self a = sym (ap (λ (x : ℕ). bit_xor x a) (zero-xor a)) ∙ xor_back 0 a
