-- The code of x times an element.
use Rattle.std.proofs.Common.{◌≡◌, ℕ, ◌-◌, ◌*◌, ◌<◌, ◌≤◌, ◌||◌, eqb, ltb, true, refl, inl, inr, arith}
use Rattle.std.specs.Prelude.{bit_xor}
use Rattle.std.proofs.lemmas.Bool.{eqb-true, or_cases, ltb-true, cond_above}
use Rattle.hdfs_field.specs.Polynomials.{modulus}
use Rattle.hdfs_field.specs.Elements.{shifted}
use Rattle.hdfs_field.specs.Below.{holds_below, holds_below-at}

overflows : holds_below 256 (λ b. ltb b 128 || eqb (bit_xor (2 * (b - 128)) 0x1d) (bit_xor (2 * b) modulus)) ≡ true
overflows = refl

pub overflow_taken : (b : ℕ) → b < 256 → 128 ≤ b → bit_xor (2 * (b - 128)) 0x1d ≡ bit_xor (2 * b) modulus
overflow_taken b lt high =
    elim (or_cases (ltb b 128) (eqb (bit_xor (2 * (b - 128)) 0x1d) (bit_xor (2 * b) modulus)) (holds_below-at 256 (λ (n : ℕ). ltb n 128 || eqb (bit_xor (2 * (n - 128)) 0x1d) (bit_xor (2 * n) modulus)) b overflows lt)) [
      | inl e ↦ absurd (omega (arith, ltb-true b 128 e))
      | inr e ↦ eqb-true _ _ e
    ]

pub shifted_high : (b : ℕ) → b < 256 → 128 ≤ b → bit_xor (2 * (b - 128)) 0x1d ≡ shifted b
shifted_high b lt high = cond_above b 128 (2 * b) (bit_xor (2 * b) modulus) (bit_xor (2 * (b - 128)) 0x1d) high (overflow_taken b lt high)
