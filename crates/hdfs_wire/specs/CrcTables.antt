-- Tables for a polynomial: what a byte leaves in the register behind zeros.
use Rattle.std.specs.Prelude.{◌≡◌, ℕ, zero, suc, ◌+◌, ◌<◌, List, [], slice_index, slice_index_or}
use Rattle.hdfs_wire.specs.Crc.{enter_bits}

-- a byte of zeros enters
abbrev pub zero_byte : ℕ → ℕ → ℕ
zero_byte polynomial register = enter_bits polynomial 8 register 0

-- the register after so many bytes of zero
unfoldable pub zero_bytes : ℕ → ℕ → ℕ → ℕ
zero_bytes polynomial zero register = register
zero_bytes polynomial (suc count) register = zero_bytes polynomial count (zero_byte polynomial register)

-- the table at k has what each byte leaves, once it and k bytes of zeros more than from have gone through the register
abbrev pub AreTables : ℕ → ℕ → List (List ℕ) → Type 0
AreTables polynomial from tables = (k v : ℕ) → k < 8 → v < 256 → slice_index (slice_index_or tables k []) v ≡ zero_bytes polynomial (suc (from + k)) v
