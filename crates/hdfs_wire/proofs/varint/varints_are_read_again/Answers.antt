use Rattle.hdfs_wire.proofs.Numbers.{varint_again, varints_apart}
use Rattle.hdfs_wire.proofs.varint.varints_are_read_again.Goals as goal

pub returns-clause-again : goal.returns-clause-again
returns-clause-again c = varint_again

pub returns-clause-apart : goal.returns-clause-apart
returns-clause-apart c = varints_apart
