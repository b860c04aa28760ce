use Rattle.std.proofs.Common.{drop, map}
use Rattle.std.specs.List.{concat}
use Rattle.hdfs_streams.proofs.PrintLemmas.{Printed}
use Rattle.hdfs_script.proofs.printing.write_pieces.Given as goal

-- what is done and what is left make the whole
abbrev pub invariant-loop-piece : goal.invariant-loop-piece
invariant-loop-piece g l = Printed (g.K.Sink.shown l.fn.sink) (concat (map (λ piece. piece.now) l.pieces)) (concat (map (λ piece. piece.now) (drop l.piece-index l.pieces))) (g.K.Sink.shown l.sink)
