use Rattle.std.proofs.Common.{arith}
use Rattle.hdfs_streams.proofs.mem_streams.MemSinkSink.write.Goals as goal

pub returns-then-is_err-clause-cause : goal.returns-then-is_err-clause-cause
returns-then-is_err-clause-cause c = record { later = omega (arith, c.begin.ensures.cause.later, c.raise.ensures.later); failed = omega (arith, c.begin.ensures.cause.later, c.raise.ensures.rose) }
