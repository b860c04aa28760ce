use Rattle.std.proofs.Common.{length}
use Rattle.hex.specs.Hex.{encode_lower}
use Rattle.hdfs_streams.proofs.PrintLemmas.{Printed}
use Rattle.hdfs_script.proofs.printing.write_digits.Given as goal

-- what is done and what is left make the whole
abbrev pub invariant-loop-left : goal.invariant-loop-left
invariant-loop-left g l = Printed (g.K.Sink.shown l.fn.sink) (encode_lower l.bytes) (encode_lower l.left) (g.K.Sink.shown l.sink)

abbrev pub decreases-loop-left : goal.decreases-loop-left
decreases-loop-left g l = length l.left
