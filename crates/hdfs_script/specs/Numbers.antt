-- Numbers and bytes as a script writes them.
use Rattle.std.specs.Prelude.{ℕ, ◌+◌, ◌-◌, ◌*◌, nat_le, nat_lt, Bool, not, ◌&&◌, ◌||◌, ◌==◌, List, [], ◌∷◌, length, slice_index, Option, Some, None, if◌then◌else◌, codes}
use Rattle.std.specs.List.{list_all}
use Rattle.std.specs.Result.{result_ok}
use Rattle.std.specs.Str.{bytes_eq}
use Rattle.hex.specs.Hex.{decode_of}

-- a digit of a base up to ten
abbrev pub is_digit : ℕ → ℕ → Bool
is_digit base c = nat_le 48 c && nat_lt c (48 + base)

-- one or more digits, of which the first is a zero only where it is alone
abbrev pub is_number : ℕ → List ℕ → Bool
is_number base text = nat_le 1 (length text) && list_all (is_digit base) text && (length text == 1 || not (slice_index text 0 == 48))

-- the value of digits behind those of this value
abbrev pub value_from : ℕ → ℕ → List ℕ → ℕ
value_from base before [] = before
value_from base before (c ∷ rest) = value_from base (before * base + (c - 48)) rest

-- the number that a text writes in a base, where it is below a limit
abbrev pub number : ℕ → ℕ → List ℕ → Option ℕ
number base limit text = if is_number base text && nat_lt (value_from base 0 text) limit then Some (value_from base 0 text) else None

-- `0` to `9` and `a` to `f`
abbrev pub is_lower_hex : ℕ → Bool
is_lower_hex c = (nat_le 48 c && nat_le c 57) || (nat_le 97 c && nat_le c 102)

-- `-` for no bytes, else pairs of digits
abbrev pub hex_bytes : List ℕ → Option (List ℕ)
hex_bytes text =
    if bytes_eq text (codes "-") then Some []
    else if nat_le 1 (length text) && list_all is_lower_hex text then result_ok (decode_of text)
    else None
