use Rattle.std.proofs.lemmas.Result.{err_from_is_err_and}
use Rattle.hdfs_streams.proofs.PrintLemmas.{printed_then, printed_stop}
use Rattle.hdfs_script.proofs.PrintLemmas.{concat-drop}
use Rattle.hdfs_script.proofs.printing.write_pieces.Goals as goal

pub returns-in_err-write_all : goal.returns-in_err-write_all
returns-in_err-write_all g c =
    let p = err_from_is_err_and c.from_residual.result c.from_residual.ensures.1 in
    printed_stop _ _ _ _ _ _ _ _ _ _ _ (concat-drop (λ piece. piece.now) c.args.pieces.now c.loop-piece.piece-index _ c.loop-piece-test.true) c.loop-piece.invariant c.write_all.ensures c.in_err-write_all.was p.1

pub loop-piece-preserved : goal.loop-piece-preserved
loop-piece-preserved g c =
    printed_then _ _ _ _ _ _ _ _ _ (concat-drop (λ piece. piece.now) c.args.pieces.now c.loop-piece.piece-index _ c.loop-piece-test.true) c.loop-piece.invariant c.write_all.ensures c.in_ok-write_all.was
