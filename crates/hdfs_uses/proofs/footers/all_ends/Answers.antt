-- One after another.
use Rattle.std.proofs.Common.{◌≡◌, ◌+◌, ◌⊎◌, List, [], take, drop, refl, sym, ◌∙◌, subst, inl, inr}
use Rattle.std.proofs.lemmas.List.{take_all}
use Rattle.hdfs_cluster.specs.declared.errors.HdfsError.TheVariants as errors
use Rattle.hdfs_names.specs.declared.mounts.MountTable.{MountTable}
use Rattle.hdfs_client.proofs.Beside.{files_refl, files_trans}
use Rattle.hdfs_client.specs.Clients.{mounts_of}
use Rattle.hdfs_uses.specs.Footers.{AreEnds, IsEndRead, IsUnread, LetsReadAny, PutsEnd, none}
use Rattle.hdfs_uses.specs.declared.footers.Footer.{Footer}
use Rattle.hdfs_uses.proofs.Cases.{err_is, front_is, parts_are}
use Rattle.hdfs_uses.proofs.Ends.{ends_more}
use Rattle.hdfs_uses.proofs.footers.all_ends.Goals as goal

pub statuses-init : goal.statuses-init
statuses-init g c = record {
  client = c.requires.client;
  mounts = refl;
  files = files_refl c.args.client.now (g.C.Cluster.shown c.args.cluster.now);
  ends = subst (λ (footers : List Footer). AreEnds (IsEndRead g.C.Cluster.shown g.C.Cluster.serves (mounts_of c.args.client.now)) [] footers) (sym c.new-footers.ensures.items) none;
}

pub put_end-requires-clause-reads : goal.put_end-requires-clause-reads
put_end-requires-clause-reads g c = subst (λ (m : MountTable). LetsReadAny g.C.Cluster.allows g.C.Cluster.may_answer m) (sym c.statuses.invariant.mounts) c.requires.reads

pub statuses-preserved : goal.statuses-preserved
statuses-preserved g c = record {
  client = c.in_ok-put_end.ensures.client;
  mounts = c.in_ok-put_end.ensures.mounts ∙ c.statuses.invariant.mounts;
  files = files_trans c.statuses.invariant.files c.in_ok-put_end.ensures.files;
  ends = ends_more _ (take c.statuses.status-index c.args.found.now) _ c.status-item.result c.statuses.footers.items c.put_end.new.footers.items
      (front_is c.args.found.now c.statuses.status-index c.status-item.result c.statuses-test.true c.status-item.is) c.statuses.invariant.ends
      (subst (λ (m : MountTable). PutsEnd (IsEndRead g.C.Cluster.shown g.C.Cluster.serves m) c.status-item.result c.statuses.footers.items c.put_end.new.footers.items) c.statuses.invariant.mounts
      c.in_ok-put_end.ensures.put);
}

pub returns-in_err-put_end-clause-err : goal.returns-in_err-put_end-clause-err
returns-in_err-put_end-clause-err g c =
    err_is _ c.in_err-put_end.field-0.0 c.from_residual.result
    (elim (subst (λ (m : MountTable). IsUnread g.C.Cluster.shown g.C.Cluster.serves m c.status-item.result c.in_err-put_end.field-0.0 ⊎ (c.in_err-put_end.field-0.0 ≡ errors.NoMemory))
    c.statuses.invariant.mounts c.in_err-put_end.ensures.err) [
      | inl unread ↦ inl (
        take c.statuses.status-index c.args.found.now,
        c.status-item.result,
        drop (c.statuses.status-index + 1) c.args.found.now,
        parts_are c.args.found.now c.statuses.status-index c.status-item.result c.statuses-test.true c.status-item.is,
        unread,
      )
      | inr memory ↦ inr memory
    ]) c.from_residual.ensures.1

pub returns-in_err-put_end-clause-files : goal.returns-in_err-put_end-clause-files
returns-in_err-put_end-clause-files g c = files_trans c.statuses.invariant.files c.in_err-put_end.ensures.files

pub returns-clause-ends : goal.returns-clause-ends
returns-clause-ends g c =
    subst (λ (found : List _). AreEnds (IsEndRead g.C.Cluster.shown g.C.Cluster.serves (mounts_of c.args.client.now)) found c.statuses.footers.items)
    (take_all c.statuses.status-index c.args.found.now c.statuses-test.false) c.statuses.invariant.ends
