use Rattle.std.proofs.Common.{◌++◌, ◌<◌, length, take, arith, sym, refl, ap, ◌∙◌}
use Rattle.std.proofs.lemmas.Result.{err_from_is_err_and}
use Rattle.std.proofs.lemmas.List.{take-append-drop}
use Rattle.std.proofs.lemmas.Bool.Decides.{nat_tests}
use Rattle.hdfs_streams.proofs.PrintLemmas.{printed_piece, printed_part, prints_failed, wrote_from-Keeps}
use Rattle.hdfs_streams.proofs.write_sink.write_all.Goals as goal

-- the sink failed, and took nothing
pub returns-in_err-count : goal.returns-in_err-count
returns-in_err-count g c =
    let p = err_from_is_err_and c.from_residual.result c.from_residual.ensures.1 in
    prints_failed _ _ _ c.from_residual.result p.0 p.1 (omega (arith, c.loop-left.invariant.same, c.write.ensures.cause.later)) (omega (arith, c.loop-left.invariant.same, c.in_err-count.ensures.cause.failed)) (printed_part _ _ (g.K.Sink.shown c.write.new.self) _ _ c.loop-left.invariant 0 (wrote_from-Keeps (g.K.Sink.shown c.loop-left.sink) (g.K.Sink.shown c.write.new.self) c.in_err-count.ensures.bytes))

-- the sink took none of some bytes
pub returns-then-count-eq0 : goal.returns-then-count-eq0
returns-then-count-eq0 g c =
    let some : 0 < length c.loop-left.left.now = grind (arith, nat_tests) in
    prints_failed _ _ _ _ _ refl (omega (arith, c.loop-left.invariant.same, c.write.ensures.cause.later)) (omega (arith, c.loop-left.invariant.same, c.in_ok-count.ensures.stuck c.if-count-eq0.true some)) (printed_part _ _ (g.K.Sink.shown c.write.new.self) _ _ c.loop-left.invariant c.in_ok-count.count c.in_ok-count.ensures.bytes)

-- the sink took a piece
pub loop-left-preserved : goal.loop-left-preserved
loop-left-preserved g c =
    printed_piece _ _ (g.K.Sink.shown c.write.new.self) _ _ (take c.in_ok-count.count c.loop-left.left.now) c.split_at.result.1.now (sym (take-append-drop c.in_ok-count.count c.loop-left.left.now) ∙ ap (λ t. take c.in_ok-count.count c.loop-left.left.now ++ t) (sym c.split_at.ensures.back)) c.loop-left.invariant (c.in_ok-count.ensures.fine (grind (arith, nat_tests))) c.in_ok-count.ensures.bytes
