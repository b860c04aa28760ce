use Rattle.std.proofs.Common.{codes, refl, sym, append_assoc}
use Rattle.std.proofs.lemmas.Result.{err_from_is_err_and}
use Rattle.std.proofs.lemmas.List.{append-nil}
use Rattle.hdfs_script.specs.Texts.{hex_text}
use Rattle.hdfs_streams.proofs.PrintLemmas.{printed_start, printed_then, printed_stop}
use Rattle.hdfs_script.proofs.printing.write_bytes.Goals as goal

pub returns-in_err-write_all : goal.returns-in_err-write_all
returns-in_err-write_all g c =
    let p = err_from_is_err_and c.from_residual.result c.from_residual.ensures.1 in
    printed_stop _ _ _ _ _ _ _ _ _ _ _ (append_assoc (codes "ok bytes ") (hex_text c.args.bytes.now) (codes "\n")) (printed_start _ _) c.write_all.ensures c.in_err-write_all.was p.1

pub returns-in_err-write_hex : goal.returns-in_err-write_hex
returns-in_err-write_hex g c =
    let p = err_from_is_err_and c.from_residual-in_err-write_hex.result c.from_residual-in_err-write_hex.ensures.1 in
    let first = printed_then _ _ _ _ _ _ _ _ _ (append_assoc (codes "ok bytes ") (hex_text c.args.bytes.now) (codes "\n")) (printed_start _ _) c.write_all.ensures c.in_ok-write_all.was in
    printed_stop _ _ _ _ _ _ _ _ _ _ _ refl first c.write_hex.ensures c.in_err-write_hex.was p.1

pub returns-in_err-write_all-2 : goal.returns-in_err-write_all-2
returns-in_err-write_all-2 g c =
    let p = err_from_is_err_and c.from_residual-in_err-write_all-2.result c.from_residual-in_err-write_all-2.ensures.1 in
    let first = printed_then _ _ _ _ _ _ _ _ _ (append_assoc (codes "ok bytes ") (hex_text c.args.bytes.now) (codes "\n")) (printed_start _ _) c.write_all.ensures c.in_ok-write_all.was in
    let second = printed_then _ _ _ _ _ _ _ _ _ refl first c.write_hex.ensures c.in_ok-write_hex.was in
    printed_stop _ _ _ _ _ _ _ _ _ _ _ (sym (append-nil (codes "\n"))) second c.write_all-2.ensures c.in_err-write_all-2.was p.1
