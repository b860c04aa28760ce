use Rattle.hdfs_wire.proofs.TablesHold.{crc32_near, crc32_far}
use Rattle.hdfs_wire.proofs.crc.crc32.Goals as goal

pub returns : goal.returns
returns c = c.checksum.ensures 0xedb88320 crc32_near crc32_far
