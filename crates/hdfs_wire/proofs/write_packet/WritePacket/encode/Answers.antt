use Rattle.hdfs_wire.proofs.WrittenPacket.{text_reads}
use Rattle.hdfs_wire.proofs.write_packet.WritePacket.encode.Goals as goal

pub returns-clause-read : goal.returns-clause-read
returns-clause-read c = text_reads c.args.self.now c.text.result c.text.ensures.kept c.text.ensures.signs c.text.ensures.fits c.text.ensures.ok
