-- Why the entries of a page weren't put.
use Rattle.std.proofs.Common.{◌≡◌, ◌⊎◌, List, ℕ, subst}
use Rattle.std.proofs.lemmas.Result.{err_from_is_err_and}
use Rattle.hdfs_cluster.specs.declared.errors.HdfsError.TheVariants as errors
use Rattle.hdfs_cluster.specs.declared.messages.FileStatusMsg.{FileStatusMsg}
use Rattle.hdfs_listing.specs.Walking.{IsNoText}
use Rattle.hdfs_listing.proofs.walk.Walk.push_page.Goals as goal

pub returns-in_err-push_entries-clause-err : goal.returns-in_err-push_entries-clause-err
returns-in_err-push_entries-clause-err c =
    let p = err_from_is_err_and c.from_residual-in_err-push_entries.result c.from_residual-in_err-push_entries.ensures.1 in
    rw (p.1, p.2) (subst (λ (given : List ℕ). (c.in_err-push_entries.field-0.0 ≡ errors.NoMemory) ⊎ IsNoText given c.args.page.now.partial_listing c.in_err-push_entries.field-0.0) c.push_next.ensures.keeps.0
    (subst (λ (l : List FileStatusMsg). (c.in_err-push_entries.field-0.0 ≡ errors.NoMemory) ⊎ IsNoText c.push_next.new.self.given l c.in_err-push_entries.field-0.0) c.as_slice.ensures c.in_err-push_entries.ensures.err))
