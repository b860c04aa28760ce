-- The packets that a read in memory makes.
use Rattle.std.specs.Prelude.{◌≡◌, ℕ, pos, ◌+◌, ◌<◌, ◌≤◌, List, ◌∷◌, length, Option, Some, None}
use Rattle.hdfs_wire.specs.declared.checksums.ChecksumInfo.{ChecksumInfo}
use Rattle.hdfs_wire.specs.declared.read_packet.ReadPacket.{ReadPacket}
use Rattle.hdfs_wire.specs.Outgoing.{checksums}
use Rattle.hdfs_cluster.specs.declared.messages.ReadAsk.{ReadAsk}
use Rattle.hdfs_cluster.specs.declared.picture.OpenRead.{OpenRead}
use Rattle.hdfs_cluster.specs.declared.picture.ReadPlace.{ReadPlace}
use Rattle.hdfs_cluster.specs.declared.store.ReadKind.{ReadKind}
use Rattle.hdfs_cluster.specs.declared.store.ReadKind.TheVariants as read_kinds
use Rattle.hdfs_cluster.specs.Reading.{IsSlice, placed_at}
use Rattle.hdfs_mem_cluster.specs.Coming.{LeavesOneOut, TellsLast, first_turned}

-- a CRC-32C for each so many bytes
abbrev pub crc32c_for : ℕ → ChecksumInfo
crc32c_for chunk = record { kind = 2; bytes_per_checksum = chunk }

-- what is told of a read that was asked for, where its datanode had failed so often before
abbrev pub told_for : ReadAsk → ℕ → ℕ → OpenRead
told_for ask before chunk =
    record { ask = ask; checksums = Some (crc32c_for chunk); before = before }

-- a read that was asked for stands at this place of this base
abbrev pub place_for : ReadAsk → List ℕ → ℕ → ReadPlace
place_for ask base place = record { block = ask.block.block_id; offset = ask.offset; len = ask.len; base = base; place = place }

-- a packet is the next slice of the base, with the checksums of its bytes
pub record IsNext (chunk : ℕ) (read : ReadPlace) (packet : ReadPacket) : Type 0 where
  pub slice : IsSlice read packet
  pub last : TellsLast packet
  pub checksum : packet.checksum ≡ checksums chunk packet.payload
  pub told : packet.header.data_len ≡ pos (length packet.payload)
  pub within : read.place + length packet.payload ≤ length read.base

-- all bits of a packet's first byte are turned, if it has one, and nothing else changed
pub record TurnsFirst (whole packet : ReadPacket) : Type 0 where
  pub header : packet.header ≡ whole.header
  pub checksum : packet.checksum ≡ whole.checksum
  pub payload : packet.payload ≡ first_turned whole.payload
  pub byte : (byte : ℕ) (rest : List ℕ) → whole.payload ≡ byte ∷ rest → byte < 256

-- a packet stands there in the base
pub record StandsIn (base : List ℕ) (packet : ReadPacket) : Type 0 where
  pub offset : ℕ
  pub is : packet.header.offset_in_block ≡ pos offset
  pub within : offset + length packet.payload ≤ length base

-- what comes for the next packet, where it is planned to fail so
abbrev pub Comes : ℕ → Option ReadKind → ReadPlace → ReadPacket → Type 0
Comes chunk None read packet = IsNext chunk read packet
Comes chunk (Some read_kinds.Broken) read packet = ⊥
Comes chunk (Some read_kinds.Damaged) read packet = (whole : ReadPacket) × IsNext chunk read whole × TurnsFirst whole packet
Comes chunk (Some read_kinds.Gap) read packet = (place : ℕ) × IsNext chunk (placed_at read place) packet × LeavesOneOut read packet
Comes chunk (Some read_kinds.Refused) read packet = ⊥

-- the same, where nothing comes if the connection breaks
abbrev pub ComesUnlessBroken : ℕ → Option ReadKind → ReadPlace → Option ReadPacket → Type 0
ComesUnlessBroken chunk kind read None = kind ≡ Some read_kinds.Broken
ComesUnlessBroken chunk kind read (Some packet) = Comes chunk kind read packet
