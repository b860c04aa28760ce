use Rattle.hdfs_wire.proofs.WrittenPacket.{header_short}
use Rattle.hdfs_wire.proofs.write_packet.header_bytes.Goals as goal

pub returns-clause-short : goal.returns-clause-short
returns-clause-short c = rw c.in_ok-put_header.ensures.ok (rw c.new-out.ensures.items (header_short c.args.header.now))
