-- What was listed, or that nothing stands there.
use Rattle.std.proofs.Common.{◌≡◌, false, inl, inr, subst, sym}
use Rattle.hdfs_client.specs.Clients.{mounts_of}
use Rattle.hdfs_client.specs.Globbing.{IsNotListed, finds_none}
use Rattle.hdfs_client.specs.declared.errors.ClientError.{ClientError}
use Rattle.hdfs_client.proofs.Picked.{if_err_so, if_ok_so}
use Rattle.hdfs_client.proofs.client.Client.listed.Goals as goal

pub returns-in-Ok-clause-listed : goal.returns-in-Ok-clause-listed
returns-in-Ok-clause-listed g c = inl (c.in-Ok.ensures.all, c.in-Ok.ensures.count)

pub returns-in-Err-clause-listed : goal.returns-in-Err-clause-listed
returns-in-Err-clause-listed g c =
    if_ok_so _ _ c.none_or.result (λ own is. inr (is.0, (c.in-Err.error, is.1, c.in-Err.ensures.err))) c.none_or.ensures.ok

pub returns-in-Err-clause-err : goal.returns-in-Err-clause-err
returns-in-Err-clause-err g c =
    if_err_so _ _ c.none_or.result
    (λ e is. subst (λ (f : ClientError). IsNotListed g.C.Cluster.serves g.C.Cluster.may_answer (mounts_of c.args.self.now) c.args.limit c.args.path.now f
    × (finds_none f ≡ false)) (sym is.0) (c.in-Err.ensures.err, is.1)) c.none_or.ensures.err
