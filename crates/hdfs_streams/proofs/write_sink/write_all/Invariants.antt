use Rattle.std.proofs.Common.{length}
use Rattle.hdfs_streams.proofs.PrintLemmas.{Printed}
use Rattle.hdfs_streams.proofs.write_sink.write_all.Given as goal

-- what is done and what is left make the whole
abbrev pub invariant-loop-left : goal.invariant-loop-left
invariant-loop-left g l = Printed (g.K.Sink.shown l.fn.sink) l.bytes l.left (g.K.Sink.shown l.sink)

abbrev pub decreases-loop-left : goal.decreases-loop-left
decreases-loop-left g l = length l.left
