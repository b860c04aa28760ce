-- What a datanode gives for the next packet of a read, as it is planned to fail.
use Rattle.std.specs.Prelude.{◌≡◌, ℕ, ◌+◌, ◌-◌, ◌==◌, List, [], ◌∷◌, length, Option, Some, None, Result, Ok, Err}
use Rattle.hdfs_wire.specs.declared.checksums.ChecksumInfo.{ChecksumInfo}
use Rattle.hdfs_wire.specs.declared.read_packet.ReadPacket.{ReadPacket}
use Rattle.hdfs_wire.specs.Checksums.{IsChecked}
use Rattle.hdfs_cluster.specs.declared.asks.LinkFault.{LinkFault}
use Rattle.hdfs_cluster.specs.declared.asks.LinkFault.TheVariants as link_faults
use Rattle.hdfs_cluster.specs.declared.picture.ReadPlace.{ReadPlace}
use Rattle.hdfs_cluster.specs.declared.store.ReadKind.{ReadKind}
use Rattle.hdfs_cluster.specs.declared.store.ReadKind.TheVariants as read_kinds
use Rattle.hdfs_cluster.specs.Reading.{IsSlice, placed_at}

-- all bits of the first byte are turned
abbrev pub first_turned : List ℕ → List ℕ
first_turned [] = []
first_turned (byte ∷ bytes) = (255 - byte) ∷ bytes

-- the header of an empty packet says that it is the last, and that of another one doesn't
abbrev pub TellsLast : ReadPacket → Type 0
TellsLast packet = packet.header.last_packet_in_block ≡ (length packet.payload == 0)

-- the next slice, with checksums that hold as the link tells that they are made
pub record IsWhole (checksums : Option ChecksumInfo) (read : ReadPlace) (packet : ReadPacket) : Type 0 where
  pub slice : IsSlice read packet
  pub last : TellsLast packet
  pub checked : IsChecked checksums packet

-- the next slice with its first byte turned, under the header and the checksums of the slice
pub record IsDamaged (checksums : Option ChecksumInfo) (read : ReadPlace) (packet : ReadPacket) : Type 0 where
  pub whole : ReadPacket
  pub is_whole : IsWhole checksums read whole
  pub header : packet.header ≡ whole.header
  pub checksum : packet.checksum ≡ whole.checksum
  pub payload : packet.payload ≡ first_turned whole.payload

-- the slice behind the next one
pub record LeavesOneOut (read : ReadPlace) (packet : ReadPacket) : Type 0 where
  pub left_out : ReadPacket
  pub slice : IsSlice read left_out
  pub behind : IsSlice (placed_at read (read.place + length left_out.payload)) packet
  pub last : TellsLast packet

-- a packet that comes though it is planned to fail so; only a damaged one has checksums that may not hold
abbrev pub IsGiven : Option ChecksumInfo → Option ReadKind → ReadPlace → ReadPacket → Type 0
IsGiven checksums None read packet = IsWhole checksums read packet
IsGiven checksums (Some read_kinds.Broken) read packet = ⊥
IsGiven checksums (Some read_kinds.Damaged) read packet = IsDamaged checksums read packet
IsGiven checksums (Some read_kinds.Gap) read packet = LeavesOneOut read packet × IsChecked checksums packet
IsGiven checksums (Some read_kinds.Refused) read packet = ⊥

-- what a packet that is planned to fail so comes to; for want of memory nothing is said
abbrev pub ComesTo : Option ChecksumInfo → Option ReadKind → ReadPlace → Result ReadPacket LinkFault → Type 0
ComesTo checksums kind read (Ok packet) = IsGiven checksums kind read packet
ComesTo checksums kind read (Err link_faults.NoMemory) = Unit {0}
ComesTo checksums kind read (Err link_faults.Broken) = kind ≡ Some read_kinds.Broken
ComesTo checksums kind read (Err link_faults.Refused) = ⊥
