-- Checksums bit by bit: a register of 32 bits that each bit of the data goes through.
use Rattle.std.specs.Prelude.{◌≢◌, ℕ, zero, suc, ◌/◌, ◌%◌, ◌<◌, ◌==◌, List, [], ◌∷◌, ◌++◌, bit_xor, if◌then◌else◌}

-- A bit of data enters: the register is shifted right by one, and xored with the polynomial where its low bit
-- differed from the bit of data.
abbrev pub enter_bit : ℕ → ℕ → ℕ → ℕ
enter_bit polynomial register bit =
    if register % 2 == bit then register / 2 else bit_xor (register / 2) polynomial

-- the lowest bits of a byte enter, count of them, the lowest first
unfoldable pub enter_bits : ℕ → ℕ → ℕ → ℕ → ℕ
enter_bits polynomial zero register byte = register
enter_bits polynomial (suc count) register byte = enter_bits polynomial count (enter_bit polynomial register (byte % 2)) (byte / 2)

-- the bytes enter one after the other
unfoldable pub enter : ℕ → ℕ → List ℕ → ℕ
enter polynomial register [] = register
enter polynomial register (byte ∷ bytes) = enter polynomial (enter_bits polynomial 8 register byte) bytes

-- the register begins with all bits set, and at the end each bit is turned
unfoldable pub checksum : ℕ → List ℕ → ℕ
checksum polynomial bytes = bit_xor (enter polynomial 0xffffffff bytes) 0xffffffff

-- CRC-32C, of the polynomial 1edc6f41, lowest power at the top bit
abbrev pub crc32c_of : List ℕ → ℕ
crc32c_of bytes = checksum 0x82f63b78 bytes

-- CRC-32, of the polynomial 04c11db7, lowest power at the top bit
abbrev pub crc32_of : List ℕ → ℕ
crc32_of bytes = checksum 0xedb88320 bytes

-- two texts of one length that differ in exactly one byte have different sums
abbrev pub TellsOneByte : (List ℕ → ℕ) → Type 0
TellsOneByte sum = (front back : List ℕ) (x y : ℕ) → x < 256 → y < 256 → x ≢ y → sum (front ++ x ∷ back) ≢ sum (front ++ y ∷ back)
