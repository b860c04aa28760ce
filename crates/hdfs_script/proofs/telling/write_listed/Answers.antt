use Rattle.std.proofs.Common.{refl, sym}
use Rattle.std.proofs.lemmas.Result.{err_from_is_err_and}
use Rattle.std.proofs.lemmas.List.{append-nil}
use Rattle.hdfs_script.specs.Texts.{entries_text}
use Rattle.hdfs_streams.proofs.PrintLemmas.{printed_start, printed_then, printed_stop}
use Rattle.hdfs_script.proofs.telling.write_listed.Goals as goal

-- the sink failed in the first line
pub returns-in_err-write_count : goal.returns-in_err-write_count
returns-in_err-write_count g c =
    let p = err_from_is_err_and c.from_residual.result c.from_residual.ensures.1 in
    printed_stop _ _ _ _ _ _ _ _ _ _ _ refl (printed_start _ _) c.write_count.ensures c.in_err-write_count.was p.1

-- the sink failed among the entries
pub returns-in_err-write_entries : goal.returns-in_err-write_entries
returns-in_err-write_entries g c =
    let p = err_from_is_err_and c.from_residual-in_err-write_entries.result c.from_residual-in_err-write_entries.ensures.1 in
    let first = printed_then _ _ _ _ _ _ _ _ _ refl (printed_start _ _) c.write_count.ensures c.in_ok-write_count.was in
    printed_stop _ _ _ _ _ _ _ _ _ _ _ (sym (append-nil (entries_text c.args.entries.now))) first c.write_entries.ensures c.in_err-write_entries.was p.1
