use Rattle.std.proofs.Common.{subst}
use Rattle.hdfs_wire.specs.Reading.{GivesUnlessNoMemory}
use Rattle.hdfs_wire.proofs.WholePacket.{is_found, packet_reads}
use Rattle.hdfs_wire.proofs.read_packet.ReadPacket.parse.Goals as goal

pub returns-clause-found : goal.returns-clause-found
returns-clause-found c = is_found c.args.bytes c.packet_of.result c.packet_of.ensures.bytes c.packet_of.ensures.exact

pub returns-clause-only : goal.returns-clause-only
returns-clause-only c = λ p reads. subst (λ f. GivesUnlessNoMemory (λ q. q) c.packet_of.result f) (packet_reads c.args.bytes p reads) c.packet_of.ensures.exact
