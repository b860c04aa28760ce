use Rattle.hdfs_wire.proofs.WrittenPacket.{packets_apart}
use Rattle.hdfs_wire.proofs.write_packet.no_packet_begins_another.Goals as goal

pub returns : goal.returns
returns c = packets_apart
