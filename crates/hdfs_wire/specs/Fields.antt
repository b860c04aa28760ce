-- Fields of a message: a key, which is the number and the wire type, and a value.
use Rattle.std.specs.Prelude.{◌≡◌, ℕ, zero, suc, ◌+◌, ◌*◌, ◌/◌, ◌%◌, ◌^◌, ◌<◌, ◌≤◌, ◌==◌, ◌&&◌, nat_lt, nat_le, List, [], ◌∷◌, ◌++◌, length, take, drop, Result, Ok, Err, if◌then◌else◌}
use Rattle.std.specs.List.{flat_map}
use Rattle.std.specs.Int.{Width, w32, w64, byte_len, to_le_bytes, from_le_bytes}
use Rattle.hdfs_wire.specs.declared.wire_fault.WireFault.{WireFault}
use Rattle.hdfs_wire.specs.declared.wire_fault.WireFault.TheVariants.{Cut, BadType, BadLength}
use Rattle.hdfs_wire.specs.declared.field.Value.{Value}
use Rattle.hdfs_wire.specs.declared.field.Value.TheVariants.{Varint, Eight, Sized, Four}
use Rattle.hdfs_wire.specs.declared.field.Field.{Field}
use Rattle.hdfs_wire.specs.declared.field.TheConstants.{LAST_FIELD_NUMBER}
use Rattle.hdfs_wire.specs.Reading.{◌>>=◌}
use Rattle.hdfs_wire.specs.Varint.{varint, varint_at, ReadsVarint}

-- the numbers that a field may have
abbrev pub IsFieldNumber : ℕ → Type 0
IsFieldNumber n = (1 ≤ n) × (n ≤ LAST_FIELD_NUMBER)

-- the wire type of a value
abbrev pub wire_type : Value → ℕ
wire_type (Varint n) = 0
wire_type (Eight n) = 1
wire_type (Sized bytes) = 2
wire_type (Four n) = 5

-- the key of a field
abbrev pub key_of : Field → ℕ
key_of f = f.number * 8 + wire_type f.value

-- ---- what is written

-- new is old with some bytes at its end
abbrev pub Extends : List ℕ → List ℕ → Type 0
Extends old new = (more : List ℕ) × (new ≡ old ++ more)

-- the one text that is written of a value
abbrev pub value_spelling : Value → List ℕ
value_spelling (Varint n) = varint n
value_spelling (Eight n) = to_le_bytes w64 n
value_spelling (Sized bytes) = varint (length bytes) ++ bytes
value_spelling (Four n) = to_le_bytes w32 n

-- the one text that is written of a field
abbrev pub field_spelling : Field → List ℕ
field_spelling f = varint (key_of f) ++ value_spelling f.value

-- the one text that is written of a message
abbrev pub message_spelling : List Field → List ℕ
message_spelling fs = flat_map field_spelling fs

-- ---- what is read

-- the bytes are read as the value
abbrev pub ReadsValue : List ℕ → Value → Type 0
ReadsValue bytes (Varint n) = ReadsVarint bytes n
ReadsValue bytes (Eight n) = (bytes ≡ to_le_bytes w64 n) × (n < 2 ^ 64)
ReadsValue bytes (Sized sized) = (len : List ℕ) × ReadsVarint len (length sized) × (bytes ≡ len ++ sized)
ReadsValue bytes (Four n) = (bytes ≡ to_le_bytes w32 n) × (n < 2 ^ 32)

-- the bytes are read as the field
pub record ReadsField (bytes : List ℕ) (f : Field) : Type 0 where
  pub key : List ℕ
  pub value : List ℕ
  pub parts : bytes ≡ key ++ value
  pub number : IsFieldNumber f.number
  pub key_reads : ReadsVarint key (key_of f)
  pub value_reads : ReadsValue value f.value

-- all of the bytes are read as the message: its fields one after the other
abbrev pub ReadsMessage : List ℕ → List Field → Type 0
ReadsMessage bytes [] = bytes ≡ []
ReadsMessage bytes (f ∷ fs) = (front : List ℕ) × (rest : List ℕ) × (bytes ≡ front ++ rest) × ReadsField front f × ReadsMessage rest fs

-- ---- reading from left to right

-- a number of fixed width at the front, and the bytes after it
abbrev pub number_at : Width → List ℕ → Result (ℕ × List ℕ) WireFault
number_at w bytes = if nat_lt (length bytes) (byte_len w) then Err Cut else Ok (from_le_bytes w (take (byte_len w) bytes), drop (byte_len w) bytes)

-- a length and that many bytes at the front, and the bytes after them
unfoldable pub sized_at : List ℕ → Result (List ℕ × List ℕ) WireFault
sized_at bytes = varint_at bytes >>= λ n. if nat_lt (length n.1) n.0 then Err BadLength else Ok (take n.0 n.1, drop n.0 n.1)

-- a value of this wire type at the front, and the bytes after it
unfoldable pub value_at : ℕ → List ℕ → Result (Value × List ℕ) WireFault
value_at kind bytes =
    if kind == 0 then (varint_at bytes >>= λ n. Ok (Varint n.0, n.1))
    else if kind == 1 then (number_at w64 bytes >>= λ n. Ok (Eight n.0, n.1))
    else if kind == 2 then (sized_at bytes >>= λ b. Ok (Sized b.0, b.1))
    else if kind == 5 then (number_at w32 bytes >>= λ n. Ok (Four n.0, n.1))
    else Err BadType

-- a field at the front, and the bytes after it
unfoldable pub field_at : List ℕ → Result (Field × List ℕ) WireFault
field_at bytes = varint_at bytes >>= λ key.
    if nat_le 1 (key.0 / 8) && nat_le (key.0 / 8) LAST_FIELD_NUMBER
    then (value_at (key.0 % 8) key.1 >>= λ v. Ok (record { number = key.0 / 8; value = v.0 }, v.1))
    else Err BadType

-- the fields up to the end of the bytes, which count is no less than; each takes at least one byte
unfoldable pub fields_within : ℕ → List ℕ → Result (List Field) WireFault
fields_within count [] = Ok []
fields_within zero (b ∷ bytes) = Err Cut
fields_within (suc count) (b ∷ bytes) = field_at (b ∷ bytes) >>= λ first. fields_within count first.1 >>= λ others. Ok (first.0 ∷ others)

-- the message that the bytes are, all of them
unfoldable pub fields_at : List ℕ → Result (List Field) WireFault
fields_at bytes = fields_within (length bytes) bytes

-- ---- what has a spelling

-- a value fits the bytes that its wire type has
abbrev pub FitsValue : Value → Type 0
FitsValue (Varint n) = n < 2 ^ 64
FitsValue (Eight n) = n < 2 ^ 64
FitsValue (Sized bytes) = length bytes < 2 ^ 64
FitsValue (Four n) = n < 2 ^ 32

-- the number of a field is allowed, and its value fits
pub record FitsField (f : Field) : Type 0 where
  pub number : IsFieldNumber f.number
  pub value : FitsValue f.value
