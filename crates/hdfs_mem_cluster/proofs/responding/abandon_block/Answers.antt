-- The active namenode answers `abandonBlock` by its row.
use Rattle.std.proofs.lemmas.Result.{err_from_is_err_and}
use Rattle.hdfs_mem_cluster.proofs.Written.{answers_abandoned, answers_not_abandoned}
use Rattle.hdfs_mem_cluster.proofs.responding.abandon_block.Goals as goal

pub returns-in_err-abandon-clause-answers : goal.returns-in_err-abandon-clause-answers
returns-in_err-abandon-clause-answers c = λ nodes settings links i here.
    let ask = c.args.ask.now in
    let r = err_from_is_err_and c.from_residual.result c.from_residual.ensures.1 in
    let fault = c.in_err-abandon.field-0.0 in
    let h = c.in_err-abandon.ensures in
    rw (r.1, r.2) (answers_not_abandoned c.args.space.now c.abandon.new.self nodes settings links i here c.as_str.result.now ask c.as_str.ensures fault h.stray h.err)

pub returns-clause-answers : goal.returns-clause-answers
returns-clause-answers c = λ nodes settings links i here.
    let ask = c.args.ask.now in
    answers_abandoned c.args.space.now c.abandon.new.self nodes settings links i here c.as_str.result.now ask c.as_str.ensures c.in_ok-abandon.ensures.done
