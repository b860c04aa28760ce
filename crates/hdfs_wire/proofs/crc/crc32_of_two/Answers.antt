use Rattle.hdfs_wire.proofs.TablesHold.{crc32_near, crc32_far}
use Rattle.hdfs_wire.proofs.crc.crc32_of_two.Goals as goal

pub returns-clause-first : goal.returns-clause-first
returns-clause-first c = c.checksums.ensures.first 0xedb88320 crc32_near crc32_far

pub returns-clause-second : goal.returns-clause-second
returns-clause-second c = c.checksums.ensures.second 0xedb88320 crc32_near crc32_far
