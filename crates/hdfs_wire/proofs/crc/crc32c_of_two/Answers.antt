use Rattle.hdfs_wire.proofs.TablesHold.{crc32c_near, crc32c_far}
use Rattle.hdfs_wire.proofs.crc.crc32c_of_two.Goals as goal

pub returns-clause-first : goal.returns-clause-first
returns-clause-first c = c.checksums.ensures.first 0x82f63b78 crc32c_near crc32c_far

pub returns-clause-second : goal.returns-clause-second
returns-clause-second c = c.checksums.ensures.second 0x82f63b78 crc32c_near crc32c_far
