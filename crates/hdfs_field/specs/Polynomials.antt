-- Polynomials over two elements: bit i of a number is the coefficient of x^i, and a sum is a xor.
use Rattle.std.specs.Prelude.{◌≡◌, ℕ, zero, suc, ◌*◌, ◌/◌, ◌%◌, ◌<◌, ◌==◌, bit_xor, if◌then◌else◌}

-- The product of a and b, where a has fewer than n powers: b where a has the power 1, and x b times what a has above it.
unfoldable pub polynomial_product : ℕ → ℕ → ℕ → ℕ
polynomial_product zero a b = 0
polynomial_product (suc n) a b = bit_xor (if a % 2 == 1 then b else 0) (polynomial_product n (a / 2) (2 * b))

-- the polynomial x^8 + x^4 + x^3 + x^2 + 1
abbrev pub modulus : ℕ
modulus = 0x11d

-- r is the product of a and b modulo that polynomial: it is below x^8, and the product is r and a multiple of the modulus
pub record IsProductOf (a b r : ℕ) : Type 0 where
  pub small : r < 256
  pub quotient : ℕ
  pub below : quotient < 128
  pub split : polynomial_product 8 a b ≡ bit_xor (polynomial_product 7 quotient modulus) r
