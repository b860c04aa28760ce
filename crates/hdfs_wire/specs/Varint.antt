-- Numbers as varints: groups of seven bits, the lowest first.
use Rattle.std.specs.Prelude.{◌≡◌, ℕ, zero, suc, ◌+◌, ◌-◌, ◌*◌, ◌/◌, ◌%◌, ◌^◌, ◌<◌, ◌≤◌, List, [], ◌∷◌, length, take, slice_index, All, Result, Ok, Err, nat_lt, if◌then◌else◌}
use Rattle.hdfs_wire.specs.declared.wire_fault.WireFault.{WireFault}
use Rattle.hdfs_wire.specs.declared.wire_fault.WireFault.TheVariants.{Cut, LongVarint}
use Rattle.hdfs_wire.specs.Reading.{◌>>=◌}

-- ---- what is written

-- the groups of a number, each but the last with 128 added, where at most more groups follow the first
unfoldable pub groups : ℕ → ℕ → List ℕ
groups zero n = n ∷ []
groups (suc more) n = if nat_lt n 128 then n ∷ [] else (n % 128 + 128) ∷ groups more (n / 128)

-- the one form that is written, of a number below 2 ^ 64
unfoldable pub varint : ℕ → List ℕ
varint n = groups 9 n

-- ---- what is read

-- The bytes stand for the number: a byte below 128 is the last and stands for itself, and one from 128 on
-- has the low seven bits of the number, of which the bytes after it have the others.
abbrev pub StandsFor : List ℕ → ℕ → Type 0
StandsFor [] n = ⊥
StandsFor (b ∷ []) n = (b < 128) × (n ≡ b)
StandsFor (b ∷ c ∷ bs) n = (128 ≤ b) × (b < 256) × (high : ℕ) × (n + 128 ≡ b + 128 * high) × StandsFor (c ∷ bs) high

-- the bytes are read as the number: they are ten at most, and it has 64 bits at most
pub record ReadsVarint (bytes : List ℕ) (n : ℕ) : Type 0 where
  pub stands : StandsFor bytes n
  pub short : length bytes ≤ 10
  pub fits : n < 2 ^ 64

-- the bytes end inside a number: fewer than ten, and none is the last of one
abbrev pub EndsInVarint : List ℕ → Type 0
EndsInVarint bytes = (length bytes < 10) × All (λ b. 128 ≤ b) bytes

-- the bytes begin with a number that is too long: nine go on, and the tenth is above 1
abbrev pub BeginsLongVarint : List ℕ → Type 0
BeginsLongVarint bytes = (10 ≤ length bytes) × All (λ b. 128 ≤ b) (take 9 bytes) × (1 < slice_index bytes 9)

-- ---- reading from left to right

-- the number at the front and the bytes after it, where at most more bytes of it may follow the first
unfoldable pub groups_at : ℕ → List ℕ → Result (ℕ × List ℕ) WireFault
groups_at more [] = Err Cut
groups_at zero (b ∷ rest) = if nat_lt b 2 then Ok (b, rest) else Err LongVarint
groups_at (suc more) (b ∷ rest) =
    if nat_lt b 128 then Ok (b, rest)
    else groups_at more rest >>= λ high. Ok (b - 128 + 128 * high.0, high.1)

-- the varint at the start, of ten groups at the most, and the bytes behind it
unfoldable pub varint_at : List ℕ → Result (ℕ × List ℕ) WireFault
varint_at bytes = groups_at 9 bytes
