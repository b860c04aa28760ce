use Rattle.std.proofs.Common.{lit<, refl}
use Rattle.hdfs_wire.proofs.Apart.{sums_differ}
use Rattle.hdfs_wire.proofs.crc.one_byte_changes_the_sum.Goals as goal

pub returns-clause-crc32c : goal.returns-clause-crc32c
returns-clause-crc32c c = sums_differ 0x82f63b78 0x02f63b78 (lit< tt) refl

pub returns-clause-crc32 : goal.returns-clause-crc32
returns-clause-crc32 c = sums_differ 0xedb88320 0x6db88320 (lit< tt) refl
