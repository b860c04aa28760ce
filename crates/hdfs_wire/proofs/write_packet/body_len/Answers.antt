use Rattle.std.proofs.Common.{length, arith}
use Rattle.hdfs_wire.specs.Outgoing.{chunk_count}
use Rattle.hdfs_wire.proofs.WrittenPacket.{first_sums-length}
use Rattle.hdfs_wire.proofs.write_packet.body_len.Goals as goal

pub returns-clause-is : goal.returns-clause-is
returns-clause-is c = omega (arith, first_sums-length (chunk_count c.args.chunk (length c.args.payload.now)) c.args.chunk c.args.payload.now)
