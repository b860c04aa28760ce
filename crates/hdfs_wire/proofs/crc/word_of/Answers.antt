use Rattle.std.proofs.Common.{arith}
use Rattle.hdfs_wire.proofs.Spelled.{spells_eight}
use Rattle.hdfs_wire.proofs.crc.word_of.Goals as goal

pub returns : goal.returns
returns c = spells_eight c.from_le_bytes.result c.args.bytes.now c.requires (λ i. omega (arith, c.type_inv.bytes i)) c.from_le_bytes.ensures
