use Rattle.std.proofs.Common.{arith}
use Rattle.hdfs_streams.proofs.ReadLemmas.{at_most_then}
use Rattle.hdfs_streams.proofs.read_source.fill.Goals as goal

-- what came before, and what a piece took that wasn't kept
pub returns-in_err-count-clause-taken : goal.returns-in_err-count-clause-taken
returns-in_err-count-clause-taken g c =
    at_most_then _ c.args.most (g.S.Source.shown c.args.source.now) (g.S.Source.shown c.loop-bytes.source) (g.S.Source.shown c.read_piece.new.source) c.loop-bytes.bytes.items (omega (arith, c.loop-bytes.bytes.ok.0)) c.loop-bytes.invariant.took c.in_err-count.ensures.taken
