-- The value of digits, digit by digit.
use Rattle.std.proofs.Common.{◌≡◌, ℕ, ◌+◌, ◌-◌, ◌*◌, ◌^◌, ◌≤◌, ◌<◌, List, [], ◌∷◌, length, get_or, drop, refl, arith, add-one, drop-cons}
use Rattle.std.proofs.Math.Nat.{mul-le-mul_left}
use Rattle.hdfs_script.specs.Numbers.{value_from}

-- more digits make no smaller number
pub value_from_at_least : (base : ℕ) → 1 ≤ base → (xs : List ℕ) (v : ℕ) → v ≤ value_from base v xs
value_from_at_least base one [] v = omega arith
value_from_at_least base one (c ∷ rest) v =
    omega (arith, value_from_at_least base one rest (v * base + (c - 48)), mul-le-mul_left v one)

-- one digit more
pub value_from-drop : (base v i : ℕ) (ds : List ℕ) → i < length ds → value_from base v (drop i ds) ≡ value_from base (v * base + (get_or ds i 0 - 48)) (drop (i + 1) ds)
value_from-drop base v i ds within = rw (add-one, drop-cons ds i 0) refl

-- where the digits up to a place are too many already
pub too_large : (base v i : ℕ) (ds : List ℕ) (total : ℕ) → 1 ≤ base → i < length ds → value_from base v (drop i ds) ≡ total → 2 ^ 64 ≤ v * base + (get_or ds i 0 - 48) → 2 ^ 64 ≤ total
too_large base v i ds total one within is large =
    omega (arith, value_from_at_least base one (drop (i + 1) ds) (v * base + (get_or ds i 0 - 48)), value_from-drop base v i ds within, is, large)
