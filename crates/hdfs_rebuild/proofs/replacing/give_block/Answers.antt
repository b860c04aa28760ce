-- It is given the block, or it isn't.
use Rattle.std.proofs.Common.{inl, inr, refl}
use Rattle.std.proofs.lemmas.Result.{err_from_is_err_and}
use Rattle.hdfs_rebuild.proofs.Allowed.{lets_give}
use Rattle.hdfs_rebuild.proofs.replacing.give_block.Goals as goal

pub transfer-given-requires-clause-allowed : goal.transfer-given-requires-clause-allowed
transfer-given-requires-clause-allowed g c = lets_give c.args.plan.now c.in_ok-transfer.ensures c.requires.enlarged c.requires.allowed

pub returns-in_err-transfer-clause-err : goal.returns-in_err-transfer-clause-err
returns-in_err-transfer-clause-err g c =
    let p = err_from_is_err_and c.from_residual.result c.from_residual.ensures.1 in
    rw (p.1, p.2) (inl (refl, refl))

pub returns-in-Ok-clause-ok : goal.returns-in-Ok-clause-ok
returns-in-Ok-clause-ok g c = (c.in_ok-transfer.transfer, c.in_ok-transfer.ensures, c.in-Ok.ensures.ok)

pub returns-in-Err-clause-err : goal.returns-in-Err-clause-err
returns-in-Err-clause-err g c =
    inr (c.in_ok-transfer.transfer, c.in-Err.fault, c.in_ok-transfer.ensures, c.fault_of_transfer.ensures, c.in-Err.ensures.err)
