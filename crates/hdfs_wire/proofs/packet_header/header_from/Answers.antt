use Rattle.std.proofs.Common.{arith}
use Rattle.std.proofs.lemmas.Result.{err_from_is_err_and}
use Rattle.hdfs_wire.specs.Headers.{no_header}
use Rattle.hdfs_wire.proofs.HeaderFields.{goes_on, fault_at, is_done}
use Rattle.hdfs_wire.proofs.packet_header.header_from.Goals as goal

pub returns-in_err-header : goal.returns-in_err-header
returns-in_err-header c =
    let p = err_from_is_err_and c.from_residual.result c.from_residual.ensures.1 in
    rw (p.1, p.2) (fault_at c.loop-field.header no_header c.args.fields.now c.loop-field.field-index c.field-item.result c.in_err-header.field-0.0 c.loop-field-test.true c.field-item.is c.in_err-header.ensures c.loop-field.invariant)

pub loop-field-preserved : goal.loop-field-preserved
loop-field-preserved c = goes_on c.loop-field.header c.in_ok-header.header no_header c.args.fields.now c.loop-field.field-index c.field-item.result c.loop-field-test.true c.field-item.is c.in_ok-header.ensures c.loop-field.invariant

pub returns : goal.returns
returns c = is_done c.loop-field.header no_header c.args.fields.now c.loop-field.field-index (omega arith) c.loop-field.invariant
