-- The field of 256 elements: polynomials over two elements modulo x^8 + x^4 + x^3 + x^2 + 1.
use Rattle.std.specs.Prelude.{◌≡◌, ℕ, zero, suc, ◌*◌, ◌/◌, ◌%◌, ◌==◌, nat_lt, bit_xor, if◌then◌else◌}
use Rattle.std.proofs.Common.{lit<}
use Rattle.std.proofs.Math.Nat.{mod-lt}
use Rattle.hdfs_field.specs.declared.gf256.GF256.{GF256}
use Rattle.hdfs_field.specs.Rings.{Operations}
use Rattle.hdfs_field.specs.Polynomials.{modulus, IsProductOf}

-- the element of this number, of which the low eight bits count
abbrev pub element : ℕ → GF256
element n = record { value = n % 256; in_range = mod-lt n (lit< tt) }

-- x times an element
abbrev pub shifted : ℕ → ℕ
shifted b = if nat_lt b 128 then 2 * b else bit_xor (2 * b) modulus

-- the product of a and b, where a has fewer than n powers: b where a has the power 1, and x b times what a has above it
unfoldable pub product_below : ℕ → ℕ → ℕ → ℕ
product_below zero a b = 0
product_below (suc n) a b = bit_xor (if a % 2 == 1 then b else 0) (product_below n (a / 2) (shifted b))

-- the product of two elements
abbrev pub product : ℕ → ℕ → ℕ
product a b = product_below 8 a b

-- the inverse by Fermat: b^254, of which the powers are b^2, b^4 and so on, seven of them
unfoldable pub power_product : ℕ → ℕ → ℕ
power_product zero b = 1
power_product (suc n) b = product (product b b) (power_product n (product b b))

-- the quotient of two elements
abbrev pub quotient : ℕ → ℕ → ℕ
quotient a b = product a (power_product 7 b)

-- the operations of the field
abbrev pub gf256 : Operations GF256
gf256 = record {
  zero = element 0;
  one = element 1;
  sum = λ a b. element (bit_xor a.value b.value);
  difference = λ a b. element (bit_xor a.value b.value);
  product = λ a b. element (product a.value b.value);
}

-- division in the field
abbrev pub gf256_quotient : GF256 → GF256 → GF256
gf256_quotient a b = element (quotient a.value b.value)

-- r is the product of a and b: the polynomial one, modulo x^8 + x^4 + x^3 + x^2 + 1
pub record MultipliesTo (a b r : GF256) : Type 0 where
  pub is : r ≡ gf256.product a b
  pub polynomial : IsProductOf a.value b.value r.value

-- r is the quotient of a by b: r times b is a
pub record DividesTo (a b r : GF256) : Type 0 where
  pub is : r ≡ gf256_quotient a b
  pub polynomial : IsProductOf r.value b.value a.value
