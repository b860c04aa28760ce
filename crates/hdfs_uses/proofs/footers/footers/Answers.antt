-- What the pattern names is found, and then read.
use Rattle.std.proofs.Common.{List, refl, sym, subst, inl, inr}
use Rattle.hdfs_client.proofs.Beside.{files_trans}
use Rattle.hdfs_names.specs.declared.mounts.MountTable.{MountTable}
use Rattle.hdfs_client.specs.Clients.{mounts_of}
use Rattle.hdfs_client.specs.declared.errors.ClientError.TheVariants.{Hdfs}
use Rattle.hdfs_client.specs.declared.status.FileStatus.{FileStatus}
use Rattle.hdfs_uses.specs.Footers.{AreEnds, IsEndRead, LacksEnd, LetsReadAny}
use Rattle.hdfs_uses.proofs.Cases.{err_is}
use Rattle.hdfs_uses.proofs.footers.footers.Goals as goal

pub returns-in_err-found-clause-err : goal.returns-in_err-found-clause-err
returns-in_err-found-clause-err g c = err_is _ c.in_err-found.field-0.0 c.from_residual.result (inl c.in_err-found.ensures.err) c.from_residual.ensures.1

pub all_ends-footers-requires-clause-reads : goal.all_ends-footers-requires-clause-reads
all_ends-footers-requires-clause-reads g c = subst (λ (m : MountTable). LetsReadAny g.C.Cluster.allows g.C.Cluster.may_answer m) (sym c.in_ok-found.ensures.rest.mounts) c.requires.reads

pub returns-in_err-footers-clause-err : goal.returns-in_err-footers-clause-err
returns-in_err-footers-clause-err g c =
    err_is _ (Hdfs c.in_err-footers.field-0.0) c.from_residual-in_err-footers.result
    (inr (record {
      found = c.in_ok-found.found.items;
      globs = c.in_ok-found.ensures.found;
      cause = c.in_err-footers.field-0.0;
      is = refl;
      lacks = subst (λ (found : List FileStatus). LacksEnd g.C.Cluster.shown g.C.Cluster.serves (mounts_of c.args.client.now) found c.in_err-footers.field-0.0) c.as_slice.ensures.value
          (subst (λ (m : MountTable). LacksEnd g.C.Cluster.shown g.C.Cluster.serves m c.as_slice.result.now c.in_err-footers.field-0.0) c.in_ok-found.ensures.rest.mounts c.in_err-footers.ensures.err);
    })) c.from_residual-in_err-footers.ensures.1

pub returns-in_err-footers-clause-files : goal.returns-in_err-footers-clause-files
returns-in_err-footers-clause-files g c = files_trans c.in_ok-found.ensures.files c.all_ends-footers.ensures.files

pub returns-clause-ends : goal.returns-clause-ends
returns-clause-ends g c = record {
  found = c.in_ok-found.found.items;
  globs = c.in_ok-found.ensures.found;
  ends = subst (λ (found : List FileStatus). AreEnds (IsEndRead g.C.Cluster.shown g.C.Cluster.serves (mounts_of c.args.client.now)) found c.in_ok-footers.field-0.items) c.as_slice.ensures.value
      (subst (λ (m : MountTable). AreEnds (IsEndRead g.C.Cluster.shown g.C.Cluster.serves m) c.as_slice.result.now c.in_ok-footers.field-0.items) c.in_ok-found.ensures.rest.mounts c.in_ok-footers.ensures.ends);
}

pub returns-clause-files : goal.returns-clause-files
returns-clause-files g c = files_trans c.in_ok-found.ensures.files c.all_ends-footers.ensures.files
