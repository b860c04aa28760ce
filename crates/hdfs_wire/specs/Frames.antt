-- Frames of a stream: a length of four bytes, the highest first, and that many bytes.
use Rattle.std.specs.Prelude.{◌≡◌, ℕ, ◌+◌, ◌<◌, ◌≤◌, ◌⊎◌, List, ◌++◌, length, take, Option, Some, None, Result, Ok, Err}
use Rattle.std.specs.List.{flat_map, AllByRecursion}
use Rattle.std.specs.Int.{w32, to_be_bytes, from_be_bytes}
use Rattle.hdfs_wire.specs.declared.wire_fault.WireFault.{WireFault}
use Rattle.hdfs_wire.specs.declared.wire_fault.WireFault.TheVariants.{BadLength}
use Rattle.hdfs_wire.specs.declared.frame.TheConstants.{FRAME_LIMIT}
use Rattle.hdfs_wire.specs.Varint.{varint}

-- a part of a frame: its length as a varint, and its bytes
abbrev pub sized : List ℕ → List ℕ
sized part = varint (length part) ++ part

-- the parts of a frame, one after the other
abbrev pub joined : List (List ℕ) → List ℕ
joined parts = flat_map sized parts

-- a frame around these bytes
abbrev pub frame : List ℕ → List ℕ
frame bytes = to_be_bytes w32 (length bytes) ++ bytes

-- what a frame may be around: so many bytes at most
abbrev pub FitsFrame : List ℕ → Type 0
FitsFrame bytes = length bytes ≤ FRAME_LIMIT

-- the length at the front of these bytes, of which there are four at least
abbrev pub length_at : List ℕ → ℕ
length_at bytes = from_be_bytes w32 (take 4 bytes)

-- the bytes begin with a length that no frame has
abbrev pub BeginsTooLong : List ℕ → Type 0
BeginsTooLong bytes = (4 ≤ length bytes) × (FRAME_LIMIT < length_at bytes)

-- the bytes begin with no whole frame
abbrev pub HoldsNoFrame : List ℕ → Type 0
HoldsNoFrame bytes = (inner rest : List ℕ) → FitsFrame inner → bytes ≡ frame inner ++ rest → ⊥

-- the stream is frames around these bytes, and a rest that begins with no whole frame
pub record Splits (stream : List ℕ) (inners : List (List ℕ)) (rest : List ℕ) : Type 0 where
  pub whole : stream ≡ flat_map frame inners ++ rest
  pub each : AllByRecursion FitsFrame inners
  pub partial : HoldsNoFrame rest

-- what is known of the length at the front: it is too long, its frame is not whole, or its frame is whole
abbrev pub IsFirstLength : List ℕ → Result (Option ℕ) WireFault → Type 0
IsFirstLength bytes (Err e) = (e ≡ BadLength) × BeginsTooLong bytes
IsFirstLength bytes (Ok None) = (length bytes < 4) ⊎ ((4 ≤ length bytes) × (length_at bytes ≤ FRAME_LIMIT) × (length bytes < 4 + length_at bytes))
IsFirstLength bytes (Ok (Some n)) = (take 4 bytes ≡ to_be_bytes w32 n) × (n ≤ FRAME_LIMIT) × (4 + n ≤ length bytes)
