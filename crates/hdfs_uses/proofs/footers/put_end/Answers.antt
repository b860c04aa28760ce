-- A directory is passed, and of a file the end is put.
use Rattle.std.proofs.Common.{ℕ, List, refl, ◌∙◌, subst, inl, inr}
use Rattle.hdfs_client.proofs.Beside.{files_refl}
use Rattle.hdfs_cluster.specs.declared.errors.HdfsError.TheVariants as errors
use Rattle.hdfs_uses.specs.Footers.{IsEndUnread, ReadsEnd}
use Rattle.hdfs_uses.proofs.Cases.{err_is}
use Rattle.hdfs_uses.proofs.footers.put_end.Goals as goal

pub returns-then-status-clause-put : goal.returns-then-status-clause-put
returns-then-status-clause-put g c = inl (c.if-status.true, refl)

pub returns-then-status-clause-files : goal.returns-then-status-clause-files
returns-then-status-clause-files g c = files_refl c.args.client.now (g.C.Cluster.shown c.args.cluster.now)

pub returns-in_err-footer-clause-err : goal.returns-in_err-footer-clause-err
returns-in_err-footer-clause-err g c =
    err_is _ c.in_err-footer.field-0.0 c.from_residual.result
    (inl (record {
      file = c.if-status.false;
      client = c.args.client.now;
      old = c.args.cluster.now;
      by = refl;
      unread = subst (λ (path : List ℕ). IsEndUnread g.C.Cluster.shown g.C.Cluster.serves c.args.client.now path c.args.cluster.now c.in_err-footer.field-0.0) c.as_str.ensures c.in_err-footer.ensures.err;
    })) c.from_residual.ensures.1

pub returns-in_err-push-clause-err : goal.returns-in_err-push-clause-err
returns-in_err-push-clause-err g c = err_is _ errors.NoMemory c.from_residual-in_err-push.result (inr refl) c.from_residual-in_err-push.ensures.1

pub returns-clause-put : goal.returns-clause-put
returns-clause-put g c =
    inr (
      c.if-status.false,
      (
        c.in_ok-footer.footer,
        record {
          client = c.args.client.now;
          old = c.args.cluster.now;
          client' = c.footer_at.new.client;
          new = c.footer_at.new.cluster;
          by = refl;
          of = c.in_ok-footer.ensures.end.0 ∙ c.as_str.ensures;
          reads = subst (λ (path : List ℕ). ReadsEnd g.C.Cluster.shown g.C.Cluster.serves c.args.client.now path c.args.cluster.now c.in_ok-footer.footer.bytes c.footer_at.new.client c.footer_at.new.cluster)
              c.as_str.ensures c.in_ok-footer.ensures.end.1;
        },
        c.in_ok-push.ensures.items,
      ),
    )
