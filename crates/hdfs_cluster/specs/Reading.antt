-- Read links: what the picture shows of them, and what a packet gives.
use Rattle.std.specs.Prelude.{◌≡◌, ◌≢◌, ◌⊎◌, ℕ, pos, ◌+◌, ◌≤◌, length, take, drop, Option, Some, None, List}
use Rattle.hdfs_wire.specs.Checksums.{IsChecked}
use Rattle.hdfs_wire.specs.declared.checksums.ChecksumInfo.{ChecksumInfo}
use Rattle.hdfs_wire.specs.declared.read_packet.ReadPacket.{ReadPacket}
use Rattle.hdfs_cluster.specs.declared.messages.ReadAsk.{ReadAsk}
use Rattle.hdfs_cluster.specs.declared.picture.ReadPlace.{ReadPlace}
use Rattle.hdfs_cluster.specs.Picture.{Picture, SameFiles}

-- a call that names one read link leaves all other links, and everything else
pub record ReadsAt (link : ℕ) (old new : Picture) : Type 0 where
  pub files : SameFiles old new
  pub active : new.active ≡ old.active
  pub others : (other : ℕ) → other ≢ link → new.reads other ≡ old.reads other
  pub writes : (other : ℕ) → new.writes other ≡ old.writes other

-- A read begins: its base is what the datanode holds of the block, and its place is not past the wanted offset.
pub record Begins (ask : ReadAsk) (link : ℕ) (old new : Picture) : Type 0 where
  pub rest : ReadsAt link old new
  pub place : ℕ
  pub behind : place ≤ ask.offset
  pub at : new.reads link ≡ Some (record {
    block = ask.block.block_id;
    offset = ask.offset;
    len = ask.len;
    base = old.held ask.node.datanode_uuid ask.block.block_id;
    place = place;
  })

-- A packet is the next slice of the base. It is empty only where the range is covered or the base ends, and once the range
-- is covered it is.
pub record IsSlice (read : ReadPlace) (packet : ReadPacket) : Type 0 where
  pub offset : packet.header.offset_in_block ≡ pos read.place
  pub bytes : packet.payload ≡ take (length packet.payload) (drop read.place read.base)
  pub goes_on : length packet.payload ≡ 0 → (read.offset + read.len ≤ read.place) ⊎ (length read.base ≤ read.place)
  pub stops : read.offset + read.len ≤ read.place → length packet.payload ≡ 0

-- the same read, at this place
abbrev pub placed_at : ReadPlace → ℕ → ReadPlace
placed_at read place = record { block = read.block; offset = read.offset; len = read.len; base = read.base; place = place }

-- A packet whose checksums hold has the bytes of the base where its header says that they stand.
pub record IsHonest (checksums : Option ChecksumInfo) (read : ReadPlace) (packet : ReadPacket) : Type 0 where
  pub bytes : IsChecked checksums packet → (offset : ℕ) → packet.header.offset_in_block ≡ pos offset
      → packet.payload ≡ take (length packet.payload) (drop offset read.base)

-- A packet was given: the next slice; or, where its datanode has failed, another one, which is honest. The place moves to the end that
-- its header tells.
pub record Gives (link : ℕ) (checksums : Option ChecksumInfo) (failed : Type 0) (packet : ReadPacket) (old new : Picture) : Type 0 where
  pub rest : ReadsAt link old new
  pub slice : (read : ReadPlace) → old.reads link ≡ Some read → IsSlice read packet ⊎ (failed × IsHonest checksums read packet)
  pub moved : (read : ReadPlace) → old.reads link ≡ Some read → (offset : ℕ) → packet.header.offset_in_block ≡ pos offset
      → new.reads link ≡ Some (placed_at read (offset + length packet.payload))

-- a read was ended
pub record Closes (link : ℕ) (old new : Picture) : Type 0 where
  pub rest : ReadsAt link old new
  pub gone : new.reads link ≡ None

-- the bytes of a range
abbrev pub range_of : List ℕ → ℕ → ℕ → List ℕ
range_of bytes offset len = take len (drop offset bytes)
