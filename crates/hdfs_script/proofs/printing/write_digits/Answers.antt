use Rattle.std.proofs.Common.{◌≡◌, ◌++◌, length, drop, sym, refl, ap, ◌∙◌, arith}
use Rattle.std.proofs.lemmas.Result.{err_from_is_err_and}
use Rattle.std.proofs.lemmas.List.{nil_from_length}
use Rattle.std.proofs.lemmas.Bool.Decides.{nat_tests}
use Rattle.hex.specs.Hex.{encode_lower}
use Rattle.hdfs_streams.proofs.PrintLemmas.{printed_then, printed_stop, printed_end}
use Rattle.hdfs_script.proofs.PrintLemmas.{encode_lower-split, encode_lower-nil}
use Rattle.hdfs_script.proofs.printing.write_digits.Goals as goal

pub returns-in_err-write_piece : goal.returns-in_err-write_piece
returns-in_err-write_piece g c =
    let p = err_from_is_err_and c.from_residual.result c.from_residual.ensures.1 in
    let cut = encode_lower-split c.min.result c.loop-left.left.now ∙ ap (λ t. encode_lower t ++ encode_lower (drop c.min.result c.loop-left.left.now)) (sym c.split_at.ensures.front) in
    printed_stop _ _ _ _ _ _ _ _ _ _ _ cut c.loop-left.invariant c.write_piece.ensures c.in_err-write_piece.was p.1

pub loop-left-preserved : goal.loop-left-preserved
loop-left-preserved g c =
    let cut = encode_lower-split c.min.result c.loop-left.left.now ∙ ap (λ t. encode_lower t ++ encode_lower (drop c.min.result c.loop-left.left.now)) (sym c.split_at.ensures.front) in
    printed_then _ _ _ _ _ _ _ _ _ (cut ∙ ap (λ t. encode_lower c.split_at.result.0.now ++ encode_lower t) (sym c.split_at.ensures.back)) c.loop-left.invariant c.write_piece.ensures c.in_ok-write_piece.was

pub returns : goal.returns
returns g c =
    let none : length c.loop-left.left.now ≡ 0 = grind (arith, nat_tests) in
    printed_end _ _ _ _ _ _ (ap encode_lower (nil_from_length c.loop-left.left.now none) ∙ encode_lower-nil) c.loop-left.invariant refl
