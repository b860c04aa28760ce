use Rattle.std.proofs.Common.{◌++◌, sym, ap}
use Rattle.std.proofs.lemmas.Result.{err_from_is_err_and}
use Rattle.std.proofs.lemmas.List.{append-nil}
use Rattle.hdfs_script.specs.Texts.{replies_text, fault_line}
use Rattle.hdfs_streams.proofs.PrintLemmas.{printed_start, printed_then, printed_stop}
use Rattle.hdfs_script.proofs.printing.write_fault.Goals as goal

-- the sink failed among the replies
pub returns-in_err-write_replies : goal.returns-in_err-write_replies
returns-in_err-write_replies g c =
    let p = err_from_is_err_and c.from_residual.result c.from_residual.ensures.1 in
    printed_stop _ _ _ _ _ _ _ _ _ _ _ (ap (λ rs. replies_text rs ++ fault_line c.args.fault.now) (sym c.as_slice.ensures)) (printed_start _ _) c.write_replies.ensures c.in_err-write_replies.was p.1

-- the sink failed in the fault's line
pub returns-in_err-write_fault_line : goal.returns-in_err-write_fault_line
returns-in_err-write_fault_line g c =
    let p = err_from_is_err_and c.from_residual-in_err-write_fault_line.result c.from_residual-in_err-write_fault_line.ensures.1 in
    let first = printed_then _ _ _ _ _ _ _ _ _ (ap (λ rs. replies_text rs ++ fault_line c.args.fault.now) (sym c.as_slice.ensures)) (printed_start _ _) c.write_replies.ensures c.in_ok-write_replies.was in
    printed_stop _ _ _ _ _ _ _ _ _ _ _ (sym (append-nil (fault_line c.args.fault.now))) first c.write_fault_line.ensures c.in_err-write_fault_line.was p.1
