-- The active namenode answers `create` by its row.
use Rattle.std.proofs.lemmas.Result.{err_from_is_err_and}
use Rattle.hdfs_mem_cluster.proofs.Written.{answers_created, answers_not_created}
use Rattle.hdfs_mem_cluster.proofs.responding.create.Goals as goal

pub returns-in_err-status-clause-answers : goal.returns-in_err-status-clause-answers
returns-in_err-status-clause-answers c = λ nodes settings links i here.
    let ask = c.args.ask.now in
    let r = err_from_is_err_and c.from_residual.result c.from_residual.ensures.1 in
    let fault = c.in_err-status.field-0.0 in
    let h = c.in_err-status.ensures in
    rw (r.1, r.2) (answers_not_created c.args.space.now c.create.new.self nodes settings links i here c.as_str-src.result.now ask c.as_str-src.ensures fault h.excused h.err)

pub returns-clause-answers : goal.returns-clause-answers
returns-clause-answers c = λ nodes settings links i here.
    let ask = c.args.ask.now in
    let h = c.in_ok-status.ensures in
    let status = c.in_ok-status.status in
    answers_created c.args.space.now c.create.new.self nodes settings links i here c.as_str-src.result.now ask c.as_str-src.ensures status h.status h.allowed h.names h.table
