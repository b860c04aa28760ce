use Rattle.std.proofs.Common.{◌≡◌, ◌<◌, length, arith}
use Rattle.std.proofs.lemmas.Result.{err_from_is_err_and}
use Rattle.hdfs_wire.proofs.Message.{Partly-more, Partly-fault, Partly-done}
use Rattle.hdfs_wire.proofs.field.all_fields.Goals as goal

pub returns-in_err-field : goal.returns-in_err-field
returns-in_err-field c =
    let p = err_from_is_err_and c.from_residual.result c.from_residual.ensures.1 in
    let some : 0 < length c.loop-rest.rest.now = grind arith in
    rw (p.1, p.2) (Partly-fault c.args.bytes.now c.loop-rest.found.items c.loop-rest.rest.now c.in_err-field.field-0.0 c.loop-rest.invariant some c.in_err-field.ensures.exact)

pub loop-rest-preserved : goal.loop-rest-preserved
loop-rest-preserved c =
    rw c.in_ok-push.ensures.items (Partly-more c.args.bytes.now c.loop-rest.found.items c.loop-rest.rest.now c.in_ok-field.field c.in_ok-field.after.now c.loop-rest.invariant c.in_ok-field.ensures.exact c.in_ok-field.ensures.shorter)

pub returns : goal.returns
returns c =
    let none : length c.loop-rest.rest.now ≡ 0 = grind arith in
    Partly-done c.args.bytes.now c.loop-rest.found.items c.loop-rest.rest.now c.loop-rest.invariant none
