-- The packets that are relayed.
use Rattle.std.specs.Prelude.{◌≡◌, ℕ, pos, ◌<◌, true, false, List, [], ◌∷◌, ◌++◌, length, slice_index_or, All}
use Rattle.hdfs_wire.specs.Outgoing.{Outgoing}

-- a packet of one byte, which isn't the last
pub record IsByte (packet : Outgoing) : Type 0 where
  pub one : length packet.payload ≡ 1
  pub goes_on : packet.header.last_packet_in_block ≡ false

-- a packet with no bytes, which is the last
pub record IsLast (packet : Outgoing) : Type 0 where
  pub none : packet.payload ≡ []
  pub last : packet.header.last_packet_in_block ≡ true

-- the seqnos count from 0
abbrev pub AreNumbered : List Outgoing → Type 0
AreNumbered packets = (k : ℕ) (d : Outgoing) → k < length packets → (slice_index_or packets k d).header.seqno ≡ pos k

-- So many packets of a byte, and a last one behind them.
pub record AreRelayed (count : ℕ) (packets : List Outgoing) : Type 0 where
  pub bytes : List Outgoing
  pub end : Outgoing
  pub whole : packets ≡ bytes ++ end ∷ []
  pub many : length bytes ≡ count
  pub each : All IsByte bytes
  pub last : IsLast end
  pub numbered : AreNumbered packets
