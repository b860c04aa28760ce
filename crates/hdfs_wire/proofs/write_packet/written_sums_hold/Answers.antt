use Rattle.hdfs_wire.proofs.WrittenPacket.{sums_hold}
use Rattle.hdfs_wire.proofs.write_packet.written_sums_hold.Goals as goal

pub returns : goal.returns
returns c = sums_hold
