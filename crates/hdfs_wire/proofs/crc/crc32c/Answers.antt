use Rattle.hdfs_wire.proofs.TablesHold.{crc32c_near, crc32c_far}
use Rattle.hdfs_wire.proofs.crc.crc32c.Goals as goal

pub returns : goal.returns
returns c = c.checksum.ensures 0x82f63b78 crc32c_near crc32c_far
