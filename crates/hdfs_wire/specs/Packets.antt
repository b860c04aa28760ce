-- A packet: the length of what is checked, the length of the header, the header, the checksums and the payload.
use Rattle.std.specs.Prelude.{◌≡◌, ℕ, ℤ, pos, negsuc, ◌≤ℤ◌, ◌+◌, ◌-◌, ◌^◌, ◌<◌, ◌≤◌, Bool, false, ◌||◌, ◌&&◌, nat_lt, nat_le, List, ◌++◌, length, take, drop, slice_index, Result, Ok, Err, if◌then◌else◌}
use Rattle.std.specs.Int.{w16, w32, to_be_bytes, from_be_bytes}
use Rattle.hdfs_wire.specs.declared.wire_fault.WireFault.{WireFault}
use Rattle.hdfs_wire.specs.declared.wire_fault.WireFault.TheVariants.{Cut, BadLength}
use Rattle.hdfs_wire.specs.declared.packet_header.PacketHeader.{PacketHeader}
use Rattle.hdfs_wire.specs.declared.read_packet.ReadPacket.{ReadPacket}
use Rattle.hdfs_wire.specs.Reading.{◌>>=◌}
use Rattle.hdfs_wire.specs.Headers.{header_spelling, header_at, ReadsHeader}

-- a packet around these bytes of a header
abbrev pub packet_around : List ℕ → List ℕ → List ℕ → List ℕ
packet_around header checksum payload =
    to_be_bytes w32 (4 + length checksum + length payload) ++ (to_be_bytes w16 (length header) ++ (header ++ (checksum ++ payload)))

-- the one text that is written of a packet
abbrev pub packet_spelling : PacketHeader → List ℕ → List ℕ → List ℕ
packet_spelling header checksum payload = packet_around (header_spelling header) checksum payload

-- all of the bytes are read as the packet
pub record ReadsPacket (bytes : List ℕ) (p : ReadPacket) : Type 0 where
  pub header : List ℕ
  pub parts : bytes ≡ packet_around header p.checksum p.payload
  pub header_reads : ReadsHeader header p.header
  pub header_fits : length header < 2 ^ 16
  pub body_fits : 4 + length p.checksum + length p.payload < 2 ^ 31
  pub data_is : p.header.data_len ≡ pos (length p.payload)

-- each is a byte
abbrev pub AreBytes : List ℕ → Type 0
AreBytes bytes = (i : ℕ) → slice_index bytes i < 256

-- ---- reading from left to right

-- the two lengths at the front of a packet, of what is checked and of the header
abbrev pub body_length : List ℕ → ℕ
body_length bytes = from_be_bytes w32 (take 4 bytes)

-- the length of the header, as the bytes say it
abbrev pub header_length : List ℕ → ℕ
header_length bytes = from_be_bytes w16 (take 2 (drop 4 bytes))

-- where the packet that begins here ends
abbrev pub packet_length : List ℕ → ℕ
packet_length bytes = 2 + header_length bytes + body_length bytes

-- a length of data that is not negative and at most this
abbrev pub is_data_length : ℕ → ℤ → Bool
is_data_length most (pos n) = nat_le n most
is_data_length most (negsuc n) = false

-- the length of the payload; below zero it counts as none
abbrev pub data_length : ℤ → ℕ
data_length (pos n) = n
data_length (negsuc n) = 0

-- the bytes behind the header
abbrev pub body_of : List ℕ → List ℕ
body_of bytes = drop (6 + header_length bytes) bytes

-- how many bytes of checksums stand before the payload
abbrev pub checksum_length : List ℕ → PacketHeader → ℕ
checksum_length bytes h = body_length bytes - 4 - data_length h.data_len

-- the packet of these bytes, whose header was read
abbrev pub packet_with : List ℕ → PacketHeader → ReadPacket
packet_with bytes h = record { header = h; checksum = take (checksum_length bytes h) (body_of bytes); payload = drop (checksum_length bytes h) (body_of bytes) }

-- the header of the packet that the bytes are, all of them: the first fault in the order of the cases
unfoldable pub packet_header_at : List ℕ → Result PacketHeader WireFault
packet_header_at bytes =
    if nat_lt (length bytes) 6 then Err Cut
    else if nat_lt (body_length bytes) 4 || nat_lt 2147483647 (body_length bytes) then Err BadLength
    else if nat_lt (length bytes) (packet_length bytes) then Err Cut
    else header_at (take (header_length bytes) (drop 6 bytes)) >>= λ h.
    if is_data_length (body_length bytes - 4) h.data_len && nat_le (length bytes) (packet_length bytes) then Ok h else Err BadLength

-- the packet that the bytes are, all of them
unfoldable pub packet_at : List ℕ → Result ReadPacket WireFault
packet_at bytes = packet_header_at bytes >>= λ h. Ok (packet_with bytes h)

-- the bytes are one whole packet by their lengths, and its data is no longer than its body
pub record IsWhole (bytes : List ℕ) (h : PacketHeader) : Type 0 where
  pub long : 6 ≤ length bytes
  pub whole : length bytes ≡ packet_length bytes
  pub body : 4 ≤ body_length bytes
  pub sign : pos 0 ≤ℤ h.data_len
  pub within : data_length h.data_len + 4 ≤ body_length bytes
