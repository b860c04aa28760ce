-- A packet that is being written.
use Rattle.std.specs.Prelude.{◌≡◌, ℕ, zero, suc, ℤ, pos, ◌+◌, ◌-◌, ◌*◌, ◌/◌, ◌^◌, ◌<◌, ◌≤◌, ◌==◌, ◌⊎◌, false, List, [], ◌++◌, length, None, if◌then◌else◌}
use Rattle.std.specs.Int.{w32, to_be_bytes}
use Rattle.hdfs_wire.specs.declared.packet_header.PacketHeader.{PacketHeader}
use Rattle.hdfs_wire.specs.declared.read_packet.ReadPacket.{ReadPacket}
use Rattle.hdfs_wire.specs.declared.write_packet.TheConstants.{CHUNK_LIMIT, HEAD_LEN, SUM_LEN}
use Rattle.hdfs_wire.specs.Crc.{crc32c_of}
use Rattle.hdfs_wire.specs.Checksums.{chunk_at}
use Rattle.hdfs_wire.specs.Packets.{packet_spelling}

-- a packet with the size of its chunks and the most bytes that its payload may have
pub record Outgoing : Type 0 where
  pub header : PacketHeader
  pub payload : List ℕ
  pub chunk : ℕ
  pub limit : ℕ

-- how many chunks of this size so many bytes make; the last may have fewer
abbrev pub chunk_count : ℕ → ℕ → ℕ
chunk_count size bytes = (bytes + (size - 1)) / size

-- the checksums of the first chunks, count of them, one after the other
unfoldable pub first_sums : ℕ → ℕ → List ℕ → List ℕ
first_sums zero size payload = []
first_sums (suc count) size payload = first_sums count size payload ++ to_be_bytes w32 (crc32c_of (chunk_at size payload count))

-- one CRC-32C for each chunk
abbrev pub checksums : ℕ → List ℕ → List ℕ
checksums size payload = first_sums (chunk_count size (length payload)) size payload

-- the one text that is written of a packet
abbrev pub outgoing_spelling : Outgoing → List ℕ
outgoing_spelling p = packet_spelling p.header (checksums p.chunk p.payload) p.payload

-- the sizes of chunks and of packets that may be asked for
abbrev pub ArePacketSizes : ℕ → ℕ → Type 0
ArePacketSizes chunk size = (1 ≤ chunk) × (chunk ≤ CHUNK_LIMIT) × ((size ≡ 0) ⊎ ((chunk + HEAD_LEN + SUM_LEN ≤ size) × (size < 2 ^ 31)))

-- The most bytes of a payload: as many whole chunks as the packet has room for, each with its checksum, behind its
-- lengths and its header; and one chunk where the size is 0.
abbrev pub limit_of : ℕ → ℕ → ℕ
limit_of chunk size = if size == 0 then chunk else (size - HEAD_LEN) / (chunk + SUM_LEN) * chunk

-- a packet with nothing in it
abbrev pub empty_packet : ℤ → ℤ → ℕ → ℕ → Outgoing
empty_packet offset seqno chunk size = record {
  header = record { offset_in_block = offset; seqno = seqno; last_packet_in_block = false; data_len = pos 0; sync_block = None };
  payload = [];
  chunk = chunk;
  limit = limit_of chunk size;
}

-- what a packet keeps: it is no longer than its limit, its header says its length, and its lengths fit
pub record IsOutgoing (p : Outgoing) : Type 0 where
  pub some : 1 ≤ p.chunk
  pub within : length p.payload ≤ p.limit
  pub said : p.header.data_len ≡ pos (length p.payload)
  pub fits : 4 + chunk_count p.chunk p.limit * 4 + p.limit < 2 ^ 31

-- what is read of the packet again
abbrev pub written : Outgoing → ReadPacket
written p = record { header = p.header; checksum = checksums p.chunk p.payload; payload = p.payload }
