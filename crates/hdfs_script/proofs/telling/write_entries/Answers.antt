use Rattle.std.proofs.lemmas.Result.{err_from_is_err_and}
use Rattle.hdfs_streams.proofs.PrintLemmas.{printed_then, printed_stop}
use Rattle.hdfs_script.proofs.PrintLemmas.{entries_text-drop}
use Rattle.hdfs_script.proofs.telling.write_entries.Goals as goal

pub returns-in_err-write_entry : goal.returns-in_err-write_entry
returns-in_err-write_entry g c =
    let p = err_from_is_err_and c.from_residual.result c.from_residual.ensures.1 in
    printed_stop _ _ _ _ _ _ _ _ _ _ _ (entries_text-drop c.args.entries.now c.loop-entry.entry-index c.entry-item.result c.loop-entry-test.true c.entry-item.is) c.loop-entry.invariant c.write_entry.ensures c.in_err-write_entry.was p.1

pub loop-entry-preserved : goal.loop-entry-preserved
loop-entry-preserved g c =
    printed_then _ _ _ _ _ _ _ _ _ (entries_text-drop c.args.entries.now c.loop-entry.entry-index c.entry-item.result c.loop-entry-test.true c.entry-item.is) c.loop-entry.invariant c.write_entry.ensures c.in_ok-write_entry.was
