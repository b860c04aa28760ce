-- It can't be where it isn't whole.
use Rattle.std.proofs.Common.{refl, sym, ◌∙◌, inl, inr}
use Rattle.std.proofs.lemmas.Bool.{false≢true}
use Rattle.hdfs_cluster.specs.declared.errors.HdfsError.TheVariants as errors
use Rattle.hdfs_uses.proofs.Cases.{err_is}
use Rattle.hdfs_uses.proofs.opening.check_whole.Goals as goal

pub returns-in_err-whole-clause-err : goal.returns-in_err-whole-clause-err
returns-in_err-whole-clause-err g c = err_is _ errors.NoMemory c.from_residual.result (inr refl) c.from_residual.ensures.1

pub returns-then-not-whole-clause-err : goal.returns-then-not-whole-clause-err
returns-then-not-whole-clause-err g c = inl (refl, λ whole. false≢true (sym c.if-not-whole.true ∙ c.in_ok-whole.ensures.1 whole))
