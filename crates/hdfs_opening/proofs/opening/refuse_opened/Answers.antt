-- The file is closed again, and what came of that decides what is answered.
use Rattle.std.proofs.Common.{ℕ, Option, None, subst}
use Rattle.std.proofs.lemmas.Result.{IfErr-weaker, on_ok_weaker}
use Rattle.hdfs_opening.proofs.Written.{OwnLink, close_link, own_nothing}
use Rattle.hdfs_opening.proofs.opening.refuse_opened.Goals as goal

pub returns-clause-closes : goal.returns-clause-closes
returns-clause-closes g c = (
  c.close-closed.result,
  λ view has. record {
    closed = on_ok_weaker c.close-closed.result (λ closed. closed view has) c.close-closed.ensures.closed;
    failed = IfErr-weaker c.close-closed.result _ _ (λ error fails. fails view has c.requires.stands.1) c.close-closed.ensures.err;
  },
  c.refusal-error.ensures,
)

pub returns-clause-keeps : goal.returns-clause-keeps
returns-clause-keeps g c =
    let own : OwnLink (g.C.Cluster.shown c.args.cluster.now) None (g.C.Cluster.shown c.close-closed.new.cluster) None =
    subst (λ (o : Option ℕ). OwnLink (g.C.Cluster.shown c.args.cluster.now) o (g.C.Cluster.shown c.close-closed.new.cluster) None) c.requires.idle
    (close_link g.C.Cluster.shown c.args.namenode.now c.args.cluster.now c.close-closed.new.cluster c.args.writer c.close-closed.result c.requires.stands.0
    c.close-closed.ensures.failed c.close-closed.ensures.closed c.close-closed.ensures.err) in
    (c.close-closed.ensures.client, record { namenodes = own.namenodes; writes = own_nothing own })

pub returns-clause-nodes : goal.returns-clause-nodes
returns-clause-nodes g c = c.close-closed.ensures.idle c.requires.idle
