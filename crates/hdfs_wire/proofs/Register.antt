-- A byte goes through the register as a whole: what enters is the difference of the two, and zeros behind it.
use Rattle.std.proofs.Common.{◌≡◌, ℕ, zero, suc, ◌+◌, ◌*◌, ◌/◌, ◌%◌, ◌^◌, ◌<◌, ◌⊎◌, cond, eqb, List, [], ◌∷◌, ◌++◌, length, refl, sym, ap, ◌∙◌, add-one, lit<, arith, inl, inr}
use Rattle.std.specs.Prelude.{bit_xor}
use Rattle.std.proofs.Math.Nat.{pow-suc}
use Rattle.std.proofs.lemmas.Nat.{xor_comm, shr_below}
use Rattle.std.proofs.lemmas.Bool.{cases_eq}
use Rattle.hdfs_wire.specs.CrcTables.{zero_byte, zero_bytes}
use Rattle.hdfs_wire.specs.Crc.{enter_bit, enter_bits, enter}
use Rattle.hdfs_wire.proofs.Steps.{IsBytes, IsBytes-rest}
use Rattle.hdfs_wire.proofs.Xor.{xor-zero, xor-self, xor_assoc, xor_medial, xor-half, xor-parity, xor_byte, xor_bit}

-- a zero enters
abbrev pub zero_bit : ℕ → ℕ → ℕ
zero_bit p r = enter_bit p r 0

-- what is xored in behind the shift
abbrev picked : ℕ → ℕ → ℕ
picked p v = cond (eqb v 0) 0 p

pub two_cases : (v : ℕ) → (v % 2 ≡ 0) ⊎ (v % 2 ≡ 1)
two_cases v = elim (cases_eq (v % 2) 0) [ inl e ↦ inl e | inr n ↦ inr (omega arith) ]

zero_bit-picked : (p r : ℕ) → zero_bit p r ≡ bit_xor (r / 2) (picked p (r % 2))
zero_bit-picked p r = elim (two_cases r) [
  | inl e ↦ rw (e, xor-zero) refl
  | inr e ↦ rw e refl
]

picked-xor : (p a b : ℕ) → picked p (bit_xor a b % 2) ≡ bit_xor (picked p (a % 2)) (picked p (b % 2))
picked-xor p a b = rw xor-parity (elim (two_cases a) [
  | inl ea ↦ elim (two_cases b) [ inl eb ↦ rw (ea, eb) refl | inr eb ↦ rw (ea, eb) refl ]
  | inr ea ↦ elim (two_cases b) [ inl eb ↦ rw (ea, eb) (sym (xor-zero p)) | inr eb ↦ rw (ea, eb) (sym (xor-self p)) ]
])

pub zero_bit-xor : (p a b : ℕ) → zero_bit p (bit_xor a b) ≡ bit_xor (zero_bit p a) (zero_bit p b)
zero_bit-xor p a b =
    zero_bit-picked p (bit_xor a b) ∙ ap (λ (x : ℕ). bit_xor x (picked p (bit_xor a b % 2))) (xor-half a b) ∙ ap (bit_xor (bit_xor (a / 2) (b / 2))) (picked-xor p a b)
    ∙ xor_medial (a / 2) (b / 2) (picked p (a % 2)) (picked p (b % 2))
    ∙ sym (ap (λ (x : ℕ). bit_xor x (bit_xor (b / 2) (picked p (b % 2)))) (zero_bit-picked p a)) ∙ sym (ap (bit_xor (zero_bit p a)) (zero_bit-picked p b))

pub enter_bit-xor : (p r b : ℕ) → b < 2 → enter_bit p r b ≡ zero_bit p (bit_xor r b)
enter_bit-xor p r b lt =
    let none : b / 2 ≡ 0 = omega arith in
    let same : b % 2 ≡ b = omega arith in
    let half : bit_xor r b / 2 ≡ r / 2 = xor-half r b ∙ ap (bit_xor (r / 2)) none ∙ xor-zero (r / 2) in
    let odd : bit_xor r b % 2 ≡ bit_xor (r % 2) b = xor-parity r b ∙ ap (bit_xor (r % 2)) same in
    rw (half, odd) (elim (two_cases r) [
      | inl e ↦ elim (cases_eq b 0) [ inl f ↦ rw (e, f) refl | inr n ↦ (let f : b ≡ 1 = omega arith in rw (e, f) refl) ]
      | inr e ↦ elim (cases_eq b 0) [ inl f ↦ rw (e, f) refl | inr n ↦ (let f : b ≡ 1 = omega arith in rw (e, f) refl) ]
    ])

-- zeros enter, count of them
abbrev pub zero_bits : ℕ → ℕ → ℕ → ℕ
zero_bits p zero r = r
zero_bits p (suc count) r = zero_bits p count (zero_bit p r)

pub zero_bits-xor : (p k a b : ℕ) → zero_bits p k (bit_xor a b) ≡ bit_xor (zero_bits p k a) (zero_bits p k b)
zero_bits-xor p zero a b = refl
zero_bits-xor p (suc k) a b = ap (zero_bits p k) (zero_bit-xor p a b) ∙ zero_bits-xor p k (zero_bit p a) (zero_bit p b)

zero_bit-double : (p v : ℕ) → zero_bit p (v * 2) ≡ v
zero_bit-double p v =
    let even : v * 2 % 2 ≡ 0 = omega arith in
    let half : v * 2 / 2 ≡ v = omega arith in
    rw (even, half) refl

pub zero_bits-shifted : (p k v : ℕ) → zero_bits p k (v * 2 ^ k) ≡ v
zero_bits-shifted p zero v = let e : v * 2 ^ 0 ≡ v = omega arith in e
zero_bits-shifted p (suc k) v =
    let e : v * 2 ^ suc k ≡ v * 2 ^ k * 2 = rw pow-suc (omega arith) in
    ap (λ (x : ℕ). zero_bits p k (zero_bit p x)) e ∙ ap (zero_bits p k) (zero_bit-double p (v * 2 ^ k)) ∙ zero_bits-shifted p k v

pub enter_bits-xor : (p k r b : ℕ) → b < 2 ^ k → enter_bits p k r b ≡ zero_bits p k (bit_xor r b)
unfolding enter_bits
enter_bits-xor p zero r b lt = let none : b ≡ 0 = omega arith in rw (none, xor-zero) refl
enter_bits-xor p (suc k) r b lt =
    let wide : b < 2 ^ (k + 1) = rw add-one lt in
    let below : b / 2 < 2 ^ k = shr_below b k 1 wide in
    let low : b % 2 < 2 = omega arith in
    let split : bit_xor r b ≡ bit_xor (bit_xor r (b % 2)) (b / 2 * 2) = ap (bit_xor r) (sym (xor_bit b)) ∙ sym (xor_assoc r (b % 2) (b / 2 * 2)) in
    let one : zero_bit p (bit_xor r b) ≡ bit_xor (enter_bit p r (b % 2)) (b / 2) =
    ap (zero_bit p) split ∙ zero_bit-xor p (bit_xor r (b % 2)) (b / 2 * 2) ∙ ap (bit_xor (zero_bit p (bit_xor r (b % 2)))) (zero_bit-double p (b / 2))
    ∙ ap (λ (x : ℕ). bit_xor x (b / 2)) (sym (enter_bit-xor p r (b % 2) low)) in
    enter_bits-xor p k (enter_bit p r (b % 2)) (b / 2) below ∙ ap (zero_bits p k) (sym one)

-- ---- bytes

pub zero_byte-bits : (p r : ℕ) → zero_byte p r ≡ zero_bits p 8 r
zero_byte-bits p r = enter_bits-xor p 8 r 0 (lit< tt) ∙ ap (zero_bits p 8) (xor-zero r)

byte_step : (p a c b : ℕ) → b < 256 → enter_bits p 8 (bit_xor a c) b ≡ bit_xor (zero_byte p a) (enter_bits p 8 c b)
byte_step p a c b lt =
    enter_bits-xor p 8 (bit_xor a c) b lt ∙ ap (zero_bits p 8) (xor_assoc a c b) ∙ zero_bits-xor p 8 a (bit_xor c b) ∙ ap (bit_xor (zero_bits p 8 a)) (sym (enter_bits-xor p 8 c b lt))
    ∙ ap (λ (x : ℕ). bit_xor x (enter_bits p 8 c b)) (sym (zero_byte-bits p a))

pub enter-xor : (p a c : ℕ) (bytes : List ℕ) → IsBytes bytes → enter p (bit_xor a c) bytes ≡ bit_xor (zero_bytes p (length bytes) a) (enter p c bytes)
unfolding enter zero_bytes
enter-xor p a c [] fits = refl
enter-xor p a c (b ∷ bytes) fits =
    ap (λ (x : ℕ). enter p x bytes) (byte_step p a c b (fits 0)) ∙ enter-xor p (zero_byte p a) (enter_bits p 8 c b) bytes (IsBytes-rest b bytes fits)

first_step : (p r b : ℕ) → b < 256 → enter_bits p 8 r b ≡ bit_xor (zero_byte p (bit_xor (r % 256) b)) (r / 256)
first_step p r b lt =
    let split : bit_xor r b ≡ bit_xor (bit_xor (r % 256) b) (r / 256 * 256) =
    ap (λ (x : ℕ). bit_xor x b) (sym (xor_byte r)) ∙ xor_assoc (r / 256 * 256) (r % 256) b ∙ xor_comm (r / 256 * 256) (bit_xor (r % 256) b) in
    enter_bits-xor p 8 r b lt ∙ ap (zero_bits p 8) split ∙ zero_bits-xor p 8 (bit_xor (r % 256) b) (r / 256 * 256) ∙ ap (bit_xor (zero_bits p 8 (bit_xor (r % 256) b))) (zero_bits-shifted p 8 (r / 256))
    ∙ ap (λ (x : ℕ). bit_xor x (r / 256)) (sym (zero_byte-bits p (bit_xor (r % 256) b)))

-- what a byte does, by what the zeros behind it do
pub enter-first : (p r b : ℕ) (bytes : List ℕ) → IsBytes (b ∷ bytes) → enter p r (b ∷ bytes) ≡ bit_xor (zero_bytes p (suc (length bytes)) (bit_xor (r % 256) b)) (enter p (r / 256) bytes)
unfolding enter zero_bytes
enter-first p r b bytes fits =
    ap (λ (x : ℕ). enter p x bytes) (first_step p r b (fits 0)) ∙ enter-xor p (zero_byte p (bit_xor (r % 256) b)) (r / 256) bytes (IsBytes-rest b bytes fits)

pub enter-append : (p r : ℕ) (a b : List ℕ) → enter p r (a ++ b) ≡ enter p (enter p r a) b
unfolding enter
enter-append p r [] b = refl
enter-append p r (x ∷ a) b = enter-append p (enter_bits p 8 r x) a b

pub enter-one : (p r b : ℕ) → b < 256 → enter p r (b ∷ []) ≡ bit_xor (zero_bytes p 1 (bit_xor (r % 256) b)) (r / 256)
unfolding enter zero_bytes
enter-one p r b lt = first_step p r b lt

pub enter-none : (p r : ℕ) → enter p r [] ≡ r
unfolding enter
enter-none p r = refl

pub zero_bytes-add : (p a b v : ℕ) → zero_bytes p a (zero_bytes p b v) ≡ zero_bytes p (b + a) v
unfolding zero_bytes
zero_bytes-add p a zero v = let e : 0 + a ≡ a = omega arith in rw e refl
zero_bytes-add p a (suc b) v = let e : suc b + a ≡ suc (b + a) = omega arith in rw e (zero_bytes-add p a b (zero_byte p v))
