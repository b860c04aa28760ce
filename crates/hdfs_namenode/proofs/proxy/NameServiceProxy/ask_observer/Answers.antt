-- The goals of NameServiceProxy::ask_observer.
use Rattle.std.proofs.Common.{◌≡◌, true, false, ℕ, Some, None, Option, Ok, refl, sym, ◌∙◌, ap, subst}
use Rattle.std.proofs.lemmas.Result.{err_from_is_err_and}
use Rattle.std.specs.Prelude.{Result}
use Rattle.hdfs_cluster.specs.declared.errors.HdfsError.{HdfsError}
use Rattle.hdfs_namenode.specs.Asked.{Observes, Through}
use Rattle.hdfs_namenode.proofs.Observers.{gave_answer, gave_none, looking_fails, none_observes}
use Rattle.hdfs_namenode.proofs.proxy.NameServiceProxy.ask_observer.Goals as goal

pub returns-in_err-i-clause-asked : goal.returns-in_err-i-clause-asked
returns-in_err-i-clause-asked g c =
    let p = err_from_is_err_and c.from_residual.result c.from_residual.ensures.1 in
    let old : Through g.row.C.Denot = record { cluster = c.args.cluster.now; proxy = c.args.self.now } in
    let mid : Through g.row.C.Denot = record { cluster = c.observer.new.cluster; proxy = c.observer.new.self } in
    rw (p.1, p.2) (looking_fails g.C.Cluster.serves c.args.ask.now old mid c.in_err-i.field-0.0 c.in_err-i.ensures.observes)

pub returns-in_default-clause-asked : goal.returns-in_default-clause-asked
returns-in_default-clause-asked g c =
    let old : Through g.row.C.Denot = record { cluster = c.args.cluster.now; proxy = c.args.self.now } in
    let mid : Through g.row.C.Denot = record { cluster = c.observer.new.cluster; proxy = c.observer.new.self } in
    none_observes g.C.Cluster.serves c.args.ask.now old mid
    (subst (λ (found : Option ℕ). Observes g.C.Cluster.serves c.args.self.now.observer old (Ok found) mid) c.in_default.is c.in_ok-i.ensures.observes)

pub returns-then-is_unanswered-clause-asked : goal.returns-then-is_unanswered-clause-asked
returns-then-is_unanswered-clause-asked g c =
    let old : Through g.row.C.Denot = record { cluster = c.args.cluster.now; proxy = c.args.self.now } in
    let mid : Through g.row.C.Denot = record { cluster = c.observer.new.cluster; proxy = c.observer.new.self } in
    gave_none g.C.Cluster.serves c.args.ask.now old mid c.in-Some.i c.ask.result c.ask.new.self
    (subst (λ (found : Option ℕ). Observes g.C.Cluster.serves c.args.self.now.observer old (Ok found) mid) c.in-Some.is c.in_ok-i.ensures.observes)
    c.ask.ensures.serves c.by_observer-answered.result c.by_observer-answered.ensures (sym c.is_unanswered.ensures ∙ c.if-is_unanswered.true)

pub returns-else-is_unanswered-clause-asked : goal.returns-else-is_unanswered-clause-asked
returns-else-is_unanswered-clause-asked g c =
    let old : Through g.row.C.Denot = record { cluster = c.args.cluster.now; proxy = c.args.self.now } in
    let mid : Through g.row.C.Denot = record { cluster = c.observer.new.cluster; proxy = c.observer.new.self } in
    gave_answer g.C.Cluster.serves c.args.ask.now old mid c.in-Some.i c.ask.result c.ask.new.self
    (subst (λ (found : Option ℕ). Observes g.C.Cluster.serves c.args.self.now.observer old (Ok found) mid) c.in-Some.is c.in_ok-i.ensures.observes)
    c.ask.ensures.serves c.ask.ensures.shape c.by_observer-answered.result c.by_observer-answered.ensures (sym c.is_unanswered.ensures ∙ c.if-is_unanswered.false)
