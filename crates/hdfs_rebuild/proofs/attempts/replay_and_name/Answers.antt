-- The goals of replay_and_name.
use Rattle.std.proofs.Common.{inl, inr, refl}
use Rattle.std.proofs.lemmas.Result.{err_from_is_err_and}
use Rattle.hdfs_namenode.specs.Clients.{proxy_of}
use Rattle.hdfs_namenode.specs.Views.{see}
use Rattle.hdfs_namenode.proofs.Seeing.{view_later}
use Rattle.hdfs_namenode.proofs.Services.{same_service_refl}
use Rattle.hdfs_rebuild.proofs.Seeing.{links_seen, sends_seen, stops_seen}
use Rattle.hdfs_rebuild.proofs.attempts.replay_and_name.Goals as goal

pub returns-in_err-sent-clause-err : goal.returns-in_err-sent-clause-err
returns-in_err-sent-clause-err g c =
    let p = err_from_is_err_and c.from_residual.result c.from_residual.ensures.1 in
    rw (p.1, p.2) (λ view has. inl (refl, stops_seen view c.in_err-sent.ensures.err))

pub returns-in_err-name_pipeline-clause-err : goal.returns-in_err-name_pipeline-clause-err
returns-in_err-name_pipeline-clause-err g c =
    let p = err_from_is_err_and c.from_residual-in_err-name_pipeline.result c.from_residual-in_err-name_pipeline.ensures.1 in
    let proxy = proxy_of c.args.namenode.now in
    let m = g.C.Cluster.shown c.send_again.new.cluster in
    let sends = c.in_ok-sent.ensures.sent in
    rw (p.1, p.2) (λ view has. inr (
      c.in_ok-sent.sent,
      see view m,
      sends_seen view sends,
      links_seen view c.in_err-name_pipeline.ensures.links,
      c.in_err-name_pipeline.ensures.err view
          (view_later view proxy proxy (g.C.Cluster.shown c.args.cluster.now) m (same_service_refl proxy) sends.drove.on.only.later has),
    ))

pub returns-clause-ok : goal.returns-clause-ok
returns-clause-ok g c = λ view has.
    let proxy = proxy_of c.args.namenode.now in
    let m = g.C.Cluster.shown c.send_again.new.cluster in
    let sends = c.in_ok-sent.ensures.sent in
    record {
      between = see view m;
      sends = sends_seen view sends;
      links = links_seen view c.in_ok-name_pipeline.ensures.links;
      names =
          c.in_ok-name_pipeline.ensures.names view
          (view_later view proxy proxy (g.C.Cluster.shown c.args.cluster.now) m (same_service_refl proxy) sends.drove.on.only.later has);
    }
