-- The goals of NameServiceProxy::ask_all.
use Rattle.std.proofs.Common.{sym, subst}
use Rattle.std.specs.Prelude.{IfErr, Result}
use Rattle.hdfs_cluster.specs.declared.asks.Answer.{Answer}
use Rattle.hdfs_cluster.specs.declared.errors.HdfsError.{HdfsError}
use Rattle.hdfs_cluster.proofs.Framing.{asked_leaves}
use Rattle.hdfs_namenode.specs.Asked.{order_of}
use Rattle.hdfs_namenode.specs.Relaying.{HasNoAnswer}
use Rattle.hdfs_namenode.proofs.Called.{no_answer}
use Rattle.hdfs_namenode.proofs.proxy.NameServiceProxy.ask_all.Goals as goal

pub returns-clause-cause : goal.returns-clause-cause
returns-clause-cause g c =
    let order = order_of c.args.self.now in
    let old = c.args.cluster.now in
    let new = c.ask_in_order-last.new.cluster in
    subst (λ (r : Result Answer HdfsError). IfErr r (HasNoAnswer g.C.Cluster.shown g.C.Cluster.serves order c.args.ask.now old new)) (sym c.outcome_of.ensures)
    (no_answer g.C.Cluster.shown g.C.Cluster.serves g.met.C.Cluster.serves_rows c.args.ask.now order old new c.ask_in_order-last.result.0 c.ask_in_order-last.result.1
    c.ask_in_order-last.ensures.asked)

pub returns-clause-later : goal.returns-clause-later
returns-clause-later g c =
    let asked = c.ask_in_order-last in
    (asked_leaves g.C.Cluster.shown g.C.Cluster.serves g.met.C.Cluster.serves_rows c.args.ask.now (order_of c.args.self.now) asked.result.0 asked.result.1
    c.args.cluster.now asked.new.cluster asked.ensures.asked).0.later
