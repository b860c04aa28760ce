use Rattle.std.proofs.Common.{◌≡◌, ℕ, length}
use Rattle.hdfs_wire.specs.Crc.{enter}
use Rattle.hdfs_wire.specs.CrcTables.{AreTables}
use Rattle.hdfs_wire.proofs.crc.checksums.Given as goal

abbrev pub invariant-loop-rest : goal.invariant-loop-rest
invariant-loop-rest l = record {
  even : length l.rest ≡ length l.others;
  first : (p : ℕ) → AreTables p 0 l.near → AreTables p 8 l.far → enter p l.one l.rest ≡ enter p 0xffffffff l.first;
  second : (p : ℕ) → AreTables p 0 l.near → AreTables p 8 l.far → enter p l.other l.others ≡ enter p 0xffffffff l.second;
}

abbrev pub decreases-loop-rest : goal.decreases-loop-rest
decreases-loop-rest l = length l.rest
