-- The goals of NameServiceProxy::look_for_observer.
use Rattle.std.proofs.Common.{◌≡◌, ◌+◌, ◌-◌, ◌<◌, ◌≤◌, false, true, List, ℕ, Ok, sym, ◌∙◌, ap, subst, arith}
use Rattle.std.proofs.lemmas.Result.{err_from_is_err_and}
use Rattle.hdfs_cluster.proofs.Frames.{later_trans}
use Rattle.hdfs_cluster.specs.declared.asks.Answer.TheVariants as answers
use Rattle.hdfs_cluster.specs.declared.asks.AskFault.TheVariants as faults
use Rattle.std.specs.Prelude.{Err}
use Rattle.hdfs_namenode.specs.Asked.{NoneObserves, numbers_from}
use Rattle.hdfs_namenode.proofs.Observers.{none_push, numbers_next, said_memory, said_observer, said_other, until}
use Rattle.hdfs_namenode.proofs.proxy.NameServiceProxy.look_for_observer.Goals as goal

pub returns-in_err-says_observer-clause-looks : goal.returns-in_err-says_observer-clause-looks
returns-in_err-says_observer-clause-looks g c =
    let p = err_from_is_err_and c.from_residual.result c.from_residual.ensures.1 in
    let proxy = c.args.self.now in
    let o = c.namenodes in
    let says = c.in_err-says_observer.ensures.says in
    let memory = said_memory says.0 c.in_err-says_observer.field-0.0 (sym says.2) in
    let below : o.i < proxy.first + proxy.count = omega (arith, c.namenodes-test.true, c.end-end.ensures) in
    rw (p.1, p.2) (
      memory.1,
      o.i,
      until g.C.Cluster.serves proxy.first proxy.count o.i c.args.cluster.now o.cluster c.says_observer.new.cluster says.0 (Err faults.NoMemory)
          o.auto.i below o.invariant.none says.1 memory.0,
    )

pub returns-then-branch-clause-looks : goal.returns-then-branch-clause-looks
returns-then-branch-clause-looks g c =
    let proxy = c.args.self.now in
    let o = c.namenodes in
    let says = c.in_ok-says_observer.ensures.says in
    let below : o.i < proxy.first + proxy.count = omega (arith, c.namenodes-test.true, c.end-end.ensures) in
    until g.C.Cluster.serves proxy.first proxy.count o.i c.args.cluster.now o.cluster c.says_observer.new.cluster says.0 (Ok (answers.GetHaServiceState 3))
    o.auto.i below o.invariant.none says.1 (said_observer says.0 (sym says.2 ∙ ap Ok c.if-branch.true))

pub namenodes-preserved : goal.namenodes-preserved
namenodes-preserved g c =
    let first = c.args.self.now.first in
    let o = c.namenodes in
    let says = c.in_ok-says_observer.ensures.says in
    let other = said_other says.0 (sym says.2 ∙ ap Ok c.if-branch.false) in
    let old = g.C.Cluster.shown c.args.cluster.now in record {
      none = subst (λ (l : List ℕ). NoneObserves g.C.Cluster.serves l c.args.cluster.now c.says_observer.new.cluster) (sym (numbers_next first o.i o.auto.i))
          (none_push g.C.Cluster.serves (numbers_from first (o.i - first)) c.args.cluster.now o.cluster c.says_observer.new.cluster o.i says.0 o.invariant.none says.1 other.0 other.1);
      later = later_trans old (g.C.Cluster.shown o.cluster) (g.C.Cluster.shown c.says_observer.new.cluster) o.invariant.later c.says_observer.ensures.later;
    }
