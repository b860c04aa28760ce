use Rattle.std.proofs.Common.{arith}
use Rattle.hdfs_wire.proofs.Numbers.{is_found, is_cut, is_long}
use Rattle.hdfs_wire.proofs.varint.take_varint.Goals as goal

pub returns-clause-found : goal.returns-clause-found
returns-clause-found c = is_found c.args.bytes.now c.read_varint.result (λ i. omega (arith, c.type_inv.bytes i)) c.read_varint.ensures.within c.read_varint.ensures.exact

pub returns-clause-cut : goal.returns-clause-cut
returns-clause-cut c = is_cut c.args.bytes.now c.read_varint.result c.read_varint.ensures.exact

pub returns-clause-long : goal.returns-clause-long
returns-clause-long c = is_long c.args.bytes.now c.read_varint.result c.read_varint.ensures.exact
