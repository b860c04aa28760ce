use Rattle.std.proofs.Common.{arith}
use Rattle.hdfs_ec.proofs.Codes.{coding_all, coding_inverts}
use Rattle.hdfs_ec.proofs.coder.Coder.gen_rs_matrix.Goals as goal

pub returns-clause-inverses : goal.returns-clause-inverses
returns-clause-inverses c =
    let units = c.args.data_units in
    let parity = c.args.parity_units in
    let end = c.rows-r-end.ensures.is in
    let rows = c.loop-r.invariant.rows in
    let first = c.in_ok-m.ensures.height in
    coding_inverts units parity c.loop-r.m (coding_all units parity c.loop-r.r c.loop-r.m c.loop-r.invariant (omega arith)) c.requires.fits
