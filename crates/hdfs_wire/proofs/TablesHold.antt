-- The tables of both polynomials keep the rule of the tables.
use Rattle.std.proofs.Common.{◌≡◌, true, [], refl}
use Rattle.std.specs.Prelude.{slice_index_or}
use Rattle.hdfs_wire.specs.declared.crc.tables.TheConstants.{CRC32C_NEAR, CRC32C_FAR, CRC32_NEAR, CRC32_FAR}
use Rattle.hdfs_wire.specs.Crc.{enter_bits}
use Rattle.hdfs_wire.specs.CrcTables.{AreTables}
use Rattle.hdfs_wire.proofs.Tables.{numbers, chained, near_tables, far_tables}

crc32c_near_chain : chained 0x82f63b78 (numbers 256 0) CRC32C_NEAR ≡ true
unfolding enter_bits
crc32c_near_chain = refl

crc32c_far_chain : chained 0x82f63b78 (slice_index_or CRC32C_NEAR 7 []) CRC32C_FAR ≡ true
unfolding enter_bits
crc32c_far_chain = refl

pub crc32c_near : AreTables 0x82f63b78 0 CRC32C_NEAR
crc32c_near = near_tables 0x82f63b78 CRC32C_NEAR refl crc32c_near_chain

pub crc32c_far : AreTables 0x82f63b78 8 CRC32C_FAR
crc32c_far = far_tables 0x82f63b78 CRC32C_NEAR CRC32C_FAR refl crc32c_near refl crc32c_far_chain

crc32_near_chain : chained 0xedb88320 (numbers 256 0) CRC32_NEAR ≡ true
unfolding enter_bits
crc32_near_chain = refl

crc32_far_chain : chained 0xedb88320 (slice_index_or CRC32_NEAR 7 []) CRC32_FAR ≡ true
unfolding enter_bits
crc32_far_chain = refl

pub crc32_near : AreTables 0xedb88320 0 CRC32_NEAR
crc32_near = near_tables 0xedb88320 CRC32_NEAR refl crc32_near_chain

pub crc32_far : AreTables 0xedb88320 8 CRC32_FAR
crc32_far = far_tables 0xedb88320 CRC32_NEAR CRC32_FAR refl crc32_near refl crc32_far_chain
