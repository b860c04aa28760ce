-- Commutative rings and fields: their operations and their laws.
use Rattle.std.specs.Prelude.{◌≡◌, ◌≢◌}

-- the operations of a ring
pub record Operations (T : Type 0) : Type 0 where
  pub zero : T
  pub one : T
  pub sum : T → T → T
  pub difference : T → T → T
  pub product : T → T → T

-- the laws of a commutative ring
pub record IsCommutativeRing {T : Type 0} (ring : Operations T) : Type 0 where
  pub sum_assoc : (a b c : T) → ring.sum (ring.sum a b) c ≡ ring.sum a (ring.sum b c)
  pub sum_comm : (a b : T) → ring.sum a b ≡ ring.sum b a
  pub sum_zero : (a : T) → ring.sum a ring.zero ≡ a
  pub difference_back : (a b : T) → ring.sum (ring.difference a b) b ≡ a
  pub product_assoc : (a b c : T) → ring.product (ring.product a b) c ≡ ring.product a (ring.product b c)
  pub product_comm : (a b : T) → ring.product a b ≡ ring.product b a
  pub product_one : (a : T) → ring.product a ring.one ≡ a
  pub product_sum : (a b c : T) → ring.product a (ring.sum b c) ≡ ring.sum (ring.product a b) (ring.product a c)

-- the further laws of a field: one is not zero, and every quotient by another element than zero takes its product back
pub record IsField {T : Type 0} (ring : Operations T) (quotient : T → T → T) : Type 0 where
  pub apart : ring.one ≢ ring.zero
  pub quotient_back : (a b : T) → b ≢ ring.zero → ring.product (quotient a b) b ≡ a
