-- The end was read before the path was copied.
use Rattle.std.proofs.Common.{refl, inr}
use Rattle.hdfs_cluster.specs.declared.errors.HdfsError.TheVariants as errors
use Rattle.hdfs_uses.proofs.Cases.{err_is}
use Rattle.hdfs_uses.proofs.footers.footer_at.Goals as goal

pub returns-in_err-bytes-clause-err : goal.returns-in_err-bytes-clause-err
returns-in_err-bytes-clause-err g c = err_is _ c.in_err-bytes.field-0.0 c.from_residual.result c.in_err-bytes.ensures.err c.from_residual.ensures.1

pub returns-in_err-from_str-clause-err : goal.returns-in_err-from_str-clause-err
returns-in_err-from_str-clause-err g c = err_is _ errors.NoMemory c.from_residual-in_err-from_str.result (inr (inr refl)) c.from_residual-in_err-from_str.ensures.1
