-- No step of the register loses anything, so one changed byte changes the sum.
use Rattle.std.proofs.Common.{◌≡◌, ◌≢◌, ℕ, zero, suc, ◌+◌, ◌*◌, ◌/◌, ◌%◌, ◌^◌, ◌<◌, ◌≤◌, List, [], ◌∷◌, ◌++◌, sym, ap, ◌∙◌, arith, inl, inr, lit<}
use Rattle.std.specs.Prelude.{bit_xor}
use Rattle.std.proofs.lemmas.Nat.{xor_block, xor_lt}
use Rattle.hdfs_wire.specs.Crc.{enter_bit, enter_bits, enter, checksum}
use Rattle.hdfs_wire.proofs.Register.{zero_bit, zero_bits, two_cases, enter_bit-xor, enter_bits-xor, enter-append}
use Rattle.hdfs_wire.proofs.Xor.{xor_cancel, xor_cancel_left}

-- a polynomial of 32 bits with its top bit set, by its other bits
module _ (p q : ℕ) (low : q < 2 ^ 31) (top : p ≡ 2 ^ 31 + q) where
  with_top : (x : ℕ) → x < 2 ^ 31 → 2 ^ 31 ≤ bit_xor x p
  with_top x lt =
      let e = xor_block 31 0 1 x q lt low in
      let left : 0 * 2 ^ 31 + x ≡ x = omega arith in
      let right : 1 * 2 ^ 31 + q ≡ p = omega arith in
      let sum : bit_xor x p ≡ 1 * 2 ^ 31 + bit_xor x q = sym (ap (λ (y : ℕ). bit_xor y p) left) ∙ sym (ap (bit_xor (0 * 2 ^ 31 + x)) right) ∙ e in
      omega arith

  zero_bit-lt : (r : ℕ) → r < 2 ^ 32 → zero_bit p r < 2 ^ 32
  zero_bit-lt r lt = elim (two_cases r) [
    | inl e ↦ rw e (omega arith)
    | inr e ↦ rw e (xor_lt 32 (r / 2) p (omega arith) (omega arith))
  ]

  zero_bit-apart : (a b : ℕ) → a < 2 ^ 32 → b < 2 ^ 32 → zero_bit p a ≡ zero_bit p b → a ≡ b
  zero_bit-apart a b la lb e = elim (two_cases a) [
    | inl ea ↦ elim (two_cases b) [
      | inl eb ↦ (let h : a / 2 ≡ b / 2 = rw (ea, eb) at e in omega arith)
      | inr eb ↦ (let h : a / 2 ≡ bit_xor (b / 2) p = rw (ea, eb) at e in let t = with_top (b / 2) (omega arith) in absurd (omega arith))
    ]
    | inr ea ↦ elim (two_cases b) [
      | inl eb ↦ (let h : bit_xor (a / 2) p ≡ b / 2 = rw (ea, eb) at e in let t = with_top (a / 2) (omega arith) in absurd (omega arith))
      | inr eb ↦ (let h : bit_xor (a / 2) p ≡ bit_xor (b / 2) p = rw (ea, eb) at e in let k = xor_cancel (a / 2) (b / 2) p h in omega arith)
    ]
  ]

  zero_bits-apart : (k a b : ℕ) → a < 2 ^ 32 → b < 2 ^ 32 → zero_bits p k a ≡ zero_bits p k b → a ≡ b
  zero_bits-apart zero a b la lb e = e
  zero_bits-apart (suc k) a b la lb e = zero_bit-apart a b la lb (zero_bits-apart k (zero_bit p a) (zero_bit p b) (zero_bit-lt a la) (zero_bit-lt b lb) e)

  in_width : (r bit : ℕ) → r < 2 ^ 32 → bit < 2 → bit_xor r bit < 2 ^ 32
  in_width r bit lr lb = xor_lt 32 r bit lr (omega arith)

  enter_bit-lt : (r bit : ℕ) → r < 2 ^ 32 → bit < 2 → enter_bit p r bit < 2 ^ 32
  enter_bit-lt r bit lr lb = rw (enter_bit-xor p r bit lb) (zero_bit-lt (bit_xor r bit) (in_width r bit lr lb))

  enter_bit-apart : (a b bit : ℕ) → a < 2 ^ 32 → b < 2 ^ 32 → bit < 2 → enter_bit p a bit ≡ enter_bit p b bit → a ≡ b
  enter_bit-apart a b bit la lb lt e =
      xor_cancel a b bit (zero_bit-apart (bit_xor a bit) (bit_xor b bit) (in_width a bit la lt) (in_width b bit lb lt) (sym (enter_bit-xor p a bit lt) ∙ e ∙ enter_bit-xor p b bit lt))

  enter_bits-lt : (k r byte : ℕ) → r < 2 ^ 32 → enter_bits p k r byte < 2 ^ 32
  unfolding enter_bits
  enter_bits-lt zero r byte lr = lr
  enter_bits-lt (suc k) r byte lr = enter_bits-lt k (enter_bit p r (byte % 2)) (byte / 2) (enter_bit-lt r (byte % 2) lr (omega arith))

  enter_bits-apart : (k a b byte : ℕ) → a < 2 ^ 32 → b < 2 ^ 32 → enter_bits p k a byte ≡ enter_bits p k b byte → a ≡ b
  unfolding enter_bits
  enter_bits-apart zero a b byte la lb e = e
  enter_bits-apart (suc k) a b byte la lb e =
      let lt : byte % 2 < 2 = omega arith in
      enter_bit-apart a b (byte % 2) la lb lt (enter_bits-apart k (enter_bit p a (byte % 2)) (enter_bit p b (byte % 2)) (byte / 2) (enter_bit-lt a (byte % 2) la lt) (enter_bit-lt b (byte % 2) lb lt) e)

  enter-lt : (r : ℕ) (bytes : List ℕ) → r < 2 ^ 32 → enter p r bytes < 2 ^ 32
  unfolding enter
  enter-lt r [] lr = lr
  enter-lt r (b ∷ bytes) lr = enter-lt (enter_bits p 8 r b) bytes (enter_bits-lt 8 r b lr)

  enter-apart : (a b : ℕ) (bytes : List ℕ) → a < 2 ^ 32 → b < 2 ^ 32 → enter p a bytes ≡ enter p b bytes → a ≡ b
  unfolding enter
  enter-apart a b [] la lb e = e
  enter-apart a b (x ∷ bytes) la lb e = enter_bits-apart 8 a b x la lb (enter-apart (enter_bits p 8 a x) (enter_bits p 8 b x) bytes (enter_bits-lt 8 a x la) (enter_bits-lt 8 b x lb) e)

  bytes-apart : (r x y : ℕ) → r < 2 ^ 32 → x < 256 → y < 256 → enter_bits p 8 r x ≡ enter_bits p 8 r y → x ≡ y
  bytes-apart r x y lr lx ly e =
      xor_cancel_left r x y (zero_bits-apart 8 (bit_xor r x) (bit_xor r y) (xor_lt 32 r x lr (omega arith)) (xor_lt 32 r y lr (omega arith)) (sym (enter_bits-xor p 8 r x lx) ∙ e ∙ enter_bits-xor p 8 r y ly))

  pub checksum-lt : (bytes : List ℕ) → checksum p bytes < 2 ^ 32
  unfolding checksum
  checksum-lt bytes = xor_lt 32 (enter p 0xffffffff bytes) 0xffffffff (enter-lt 0xffffffff bytes (lit< tt)) (lit< tt)

  pub sums_differ : (front back : List ℕ) (x y : ℕ) → x < 256 → y < 256 → x ≢ y → checksum p (front ++ x ∷ back) ≢ checksum p (front ++ y ∷ back)
  unfolding checksum enter
  sums_differ front back x y lx ly ne e =
      let start : ℕ = enter p 0xffffffff front in
      let width : start < 2 ^ 32 = enter-lt 0xffffffff front (lit< tt) in
      let whole = xor_cancel (enter p 0xffffffff (front ++ x ∷ back)) (enter p 0xffffffff (front ++ y ∷ back)) 0xffffffff e in
      let behind : enter p (enter_bits p 8 start x) back ≡ enter p (enter_bits p 8 start y) back =
      sym (enter-append p 0xffffffff front (x ∷ back)) ∙ whole ∙ enter-append p 0xffffffff front (y ∷ back) in
      ne (bytes-apart start x y width lx ly (enter-apart (enter_bits p 8 start x) (enter_bits p 8 start y) back (enter_bits-lt 8 start x width) (enter_bits-lt 8 start y width) behind))
