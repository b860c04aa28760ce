-- The checksums of a packet: one of four bytes, the highest first, for each chunk of its payload.
use Rattle.std.specs.Prelude.{◌≡◌, ℕ, ◌+◌, ◌*◌, ◌<◌, ◌≤◌, ◌==◌, ◌⊎◌, List, length, take, drop, Option, Some, None, if◌then◌else◌}
use Rattle.std.specs.Int.{w32, from_be_bytes}
use Rattle.hdfs_wire.specs.declared.read_packet.ReadPacket.{ReadPacket}
use Rattle.hdfs_wire.specs.declared.checksums.ChecksumInfo.{ChecksumInfo}
use Rattle.hdfs_wire.specs.Crc.{crc32c_of, crc32_of}

-- the sum of this kind: 1 is CRC-32, and 2 is CRC-32C
abbrev pub sum_of : ℕ → List ℕ → ℕ
sum_of kind bytes = if kind == 1 then crc32_of bytes else crc32c_of bytes

-- the chunk at i, of this many bytes; the last may have fewer
abbrev pub chunk_at : ℕ → List ℕ → ℕ → List ℕ
chunk_at size payload i = take size (drop (i * size) payload)

-- the checksum at i
abbrev pub sum_at : List ℕ → ℕ → ℕ
sum_at checksum i = from_be_bytes w32 (take 4 (drop (i * 4) checksum))

-- the checksum of each chunk is there and equal; with chunks of no bytes that holds of no payload but the empty one
abbrev pub ChunksHold : ℕ → ℕ → List ℕ → List ℕ → Type 0
ChunksHold kind size checksum payload =
    (i : ℕ) → i * size < length payload → (i * 4 + 4 ≤ length checksum) × (sum_at checksum i ≡ sum_of kind (chunk_at size payload i))

-- the checksums hold by this kind and size: kind 0 asks for none, and there is no kind above 2
abbrev pub SumsHold : ℕ → ℕ → List ℕ → List ℕ → Type 0
SumsHold kind size checksum payload = (kind ≡ 0) ⊎ (((kind ≡ 1) ⊎ (kind ≡ 2)) × ChunksHold kind size checksum payload)

-- the payload may be given
abbrev pub IsChecked : Option ChecksumInfo → ReadPacket → Type 0
IsChecked None p = Unit {0}
IsChecked (Some info) p = SumsHold info.kind info.bytes_per_checksum p.checksum p.payload
