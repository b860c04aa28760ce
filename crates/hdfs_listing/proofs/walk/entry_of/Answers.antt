-- An entry of a status, or why it is none.
use Rattle.std.proofs.Common.{ap, inr, refl, subst, arith, sym, List, ℕ}
use Rattle.std.specs.Str.{IsUtf8}
use Rattle.hdfs_cluster.specs.declared.errors.HdfsError.TheVariants as errors
use Rattle.hdfs_listing.proofs.walk.entry_of.Goals as goal

pub returns-in_ok-copy-in-Err-clause-err : goal.returns-in_ok-copy-in-Err-clause-err
returns-in_ok-copy-in-Err-clause-err c =
    inr (
      ap errors.InvalidPath c.in_ok-copy-in-Err.ensures,
      c.args.status.now,
      (0, omega arith, refl),
      λ is. c.in-Err.ensures.cases.0 (subst (λ (bytes : List ℕ). IsUtf8 bytes) (sym c.as_slice.ensures) is),
    )
