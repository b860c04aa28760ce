-- The header of a packet as a message of fields.
use Rattle.std.specs.Prelude.{◌≡◌, ℕ, pos, Bool, true, false, ◌==◌, List, [], ◌∷◌, Option, Some, None, Result, Ok, Err, if◌then◌else◌}
use Rattle.std.specs.Int.{w32, w64, cast_signed, cast_unsigned, from_bool}
use Rattle.hdfs_wire.specs.declared.wire_fault.WireFault.{WireFault}
use Rattle.hdfs_wire.specs.declared.wire_fault.WireFault.TheVariants.{BadType}
use Rattle.hdfs_wire.specs.declared.field.Value.{Value}
use Rattle.hdfs_wire.specs.declared.field.Value.TheVariants.{Varint, Eight, Four}
use Rattle.hdfs_wire.specs.declared.field.Field.{Field}
use Rattle.hdfs_wire.specs.declared.packet_header.PacketHeader.{PacketHeader}
use Rattle.hdfs_wire.specs.Reading.{◌>>=◌}
use Rattle.hdfs_wire.specs.Fields.{message_spelling, ReadsMessage, fields_at}

-- ---- what is written

-- a field of a number and a value
abbrev pub field : ℕ → Value → Field
field number value = record { number = number; value = value }

-- the sync field, which is left out where it is None
abbrev pub sync_fields : Option Bool → List Field
sync_fields None = []
sync_fields (Some sync) = field 5 (Varint (from_bool sync)) ∷ []

-- the fields of a header, in rising order of their numbers
abbrev pub header_fields : PacketHeader → List Field
header_fields h =
    field 1 (Eight (cast_unsigned w64 h.offset_in_block)) ∷ field 2 (Eight (cast_unsigned w64 h.seqno))
    ∷ field 3 (Varint (from_bool h.last_packet_in_block)) ∷ field 4 (Four (cast_unsigned w32 h.data_len)) ∷ sync_fields h.sync_block

-- the one text that is written of a header
abbrev pub header_spelling : PacketHeader → List ℕ
header_spelling h = message_spelling (header_fields h)

-- ---- what is read

-- what a header is before any field: zero, false and None
abbrev pub no_header : PacketHeader
no_header = record { offset_in_block = pos 0; seqno = pos 0; last_packet_in_block = false; data_len = pos 0; sync_block = None }

-- a number other than 0 is true
abbrev pub is_true : ℕ → Bool
is_true n = if n == 0 then false else true

-- the header with this offset, which has eight bytes
abbrev pub with_offset : PacketHeader → Value → Result PacketHeader WireFault
with_offset h (Eight n) = Ok (record h { offset_in_block = cast_signed w64 n })
with_offset h _ = Err BadType

-- the header with this number of its packet, which has eight bytes
abbrev pub with_seqno : PacketHeader → Value → Result PacketHeader WireFault
with_seqno h (Eight n) = Ok (record h { seqno = cast_signed w64 n })
with_seqno h _ = Err BadType

-- the header with this mark of the last packet, a varint
abbrev pub with_last : PacketHeader → Value → Result PacketHeader WireFault
with_last h (Varint n) = Ok (record h { last_packet_in_block = is_true n })
with_last h _ = Err BadType

-- the header with this length of its payload, which has four bytes
abbrev pub with_data_len : PacketHeader → Value → Result PacketHeader WireFault
with_data_len h (Four n) = Ok (record h { data_len = cast_signed w32 n })
with_data_len h _ = Err BadType

-- the header with this wish to be synced, a varint
abbrev pub with_sync : PacketHeader → Value → Result PacketHeader WireFault
with_sync h (Varint n) = Ok (record h { sync_block = Some (is_true n) })
with_sync h _ = Err BadType

-- a header with what a field says: an unknown number says nothing, and a known one has its own wire type
unfoldable pub with_field : PacketHeader → Field → Result PacketHeader WireFault
with_field h f =
    if f.number == 1 then with_offset h f.value
    else if f.number == 2 then with_seqno h f.value
    else if f.number == 3 then with_last h f.value
    else if f.number == 4 then with_data_len h f.value
    else if f.number == 5 then with_sync h f.value
    else Ok h

-- a header with what the fields say, one after the other, so that the last value of a field wins
unfoldable pub header_from : PacketHeader → List Field → Result PacketHeader WireFault
header_from h [] = Ok h
header_from h (f ∷ fs) = with_field h f >>= λ g. header_from g fs

-- all of the bytes are read as the header
abbrev pub ReadsHeader : List ℕ → PacketHeader → Type 0
ReadsHeader bytes h = (fs : List Field) × ReadsMessage bytes fs × (header_from no_header fs ≡ Ok h)

-- the header that the bytes are, all of them
unfoldable pub header_at : List ℕ → Result PacketHeader WireFault
header_at bytes = fields_at bytes >>= λ fs. header_from no_header fs
