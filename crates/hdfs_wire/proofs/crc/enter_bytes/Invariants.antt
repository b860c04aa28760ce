use Rattle.std.proofs.Common.{◌≡◌, ℕ, drop}
use Rattle.hdfs_wire.specs.Crc.{enter}
use Rattle.hdfs_wire.specs.CrcTables.{AreTables}
use Rattle.hdfs_wire.proofs.crc.enter_bytes.Given as goal

abbrev pub invariant-loop-byte : goal.invariant-loop-byte
invariant-loop-byte l = (p : ℕ) → AreTables p 0 l.near → enter p l.after (drop l.byte-index l.bytes) ≡ enter p l.register l.bytes
