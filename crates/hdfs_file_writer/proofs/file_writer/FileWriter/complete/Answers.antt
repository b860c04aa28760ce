-- The goals of FileWriter::complete.
use Rattle.std.proofs.Common.{◌≢◌, ℕ, ◌≤◌, List, refl, sym, subst, ◌∙◌, ap, arith}
use Rattle.std.proofs.lemmas.Result.{err_from_is_err_and}
use Rattle.std.specs.Prelude.{Ok}
use Rattle.hdfs_cluster.specs.declared.errors.HdfsError.TheVariants as errors
use Rattle.hdfs_cluster.specs.declared.asks.Answer.TheVariants as answers
use Rattle.hdfs_namenode.specs.Asked.{as_answer}
use Rattle.hdfs_namenode.specs.Clients.{name_of, proxy_of}
use Rattle.hdfs_namenode.proofs.Relayed.{came_as}
use Rattle.hdfs_namenode.specs.Views.{see, view_of}
use Rattle.hdfs_namenode.proofs.Seeing.{view_same}
use Rattle.hdfs_namenode.proofs.Services.{same_client_refl, same_client_trans, service_same}
use Rattle.hdfs_cluster.specs.Sound.{IsSound}
use Rattle.hdfs_file_writer.proofs.Seeing.{shows_seen}
use Rattle.hdfs_file_writer.specs.Writers.{FailsToClose}
use Rattle.hdfs_file_writer.proofs.Closing.{asks_first, asked_true, asked_false, asked_error, no_memory, not_closed}
use Rattle.hdfs_file_writer.proofs.file_writer.FileWriter.complete.Goals as goal

pub loop-init : goal.loop-init
loop-init g c = record {
  asking = λ view has. asks_first (see view (g.C.Cluster.shown c.args.cluster.now)) c.args.self.now;
  client = same_client_refl c.args.namenode.now;
}

pub complete-requires-clause-service : goal.complete-requires-clause-service
complete-requires-clause-service g c =
    let s = g.C.Cluster.shown c.args.cluster.now in
    let m = g.C.Cluster.shown c.loop.cluster in
    let inv = c.loop.invariant in
    let asking = inv.asking (view_of (proxy_of c.args.namenode.now)) (refl, refl) in
    service_same (proxy_of c.args.namenode.now) (proxy_of c.loop.namenode) s m inv.client.service asking.own.later.namenodes c.requires.service

pub returns-then-branch-clause-closed : goal.returns-then-branch-clause-closed
returns-then-branch-clause-closed g c = λ view has.
    let s = g.C.Cluster.shown c.args.cluster.now in
    let m = g.C.Cluster.shown c.loop.cluster in
    let inv = c.loop.invariant in
    let asking = inv.asking view has in
    let has' = view_same view (proxy_of c.args.namenode.now) (proxy_of c.loop.namenode) s m inv.client.service asking.own.later.namenodes has in
    let sound = shows_seen view IsSound m (g.met.C.Cluster.sound c.loop.cluster) in
    let t = see view (g.C.Cluster.shown c.complete.new.cluster) in
    asked_true c.requires.between sound asking t (name_of c.loop.namenode)
    (came_as (cc (c.as_str.ensures, c.done.ensures)) (ap (as_answer answers.Complete) (c.in_ok-complete.was ∙ ap Ok c.if-branch.true))
    (c.complete.ensures.came view has'))

pub returns-then-branch-clause-nodes : goal.returns-then-branch-clause-nodes
returns-then-branch-clause-nodes g c = λ d.
    (c.complete.ensures.came (view_of (proxy_of c.loop.namenode)) (refl, refl)).relays.leaves.nodes d
    ∙ (c.loop.invariant.asking (view_of (proxy_of c.args.namenode.now)) (refl, refl)).nodes d

pub loop-preserved : goal.loop-preserved
loop-preserved g c =
    let s = g.C.Cluster.shown c.args.cluster.now in
    let m = g.C.Cluster.shown c.loop.cluster in
    let inv = c.loop.invariant in
    record {
      asking = λ view has.
          (let asking = inv.asking view has in
          let has' = view_same view (proxy_of c.args.namenode.now) (proxy_of c.loop.namenode) s m inv.client.service asking.own.later.namenodes has in
          asked_false c.requires.between (shows_seen view IsSound m (g.met.C.Cluster.sound c.loop.cluster)) asking
          (see view (g.C.Cluster.shown c.complete.new.cluster)) (name_of c.loop.namenode)
          (came_as (cc (c.as_str.ensures, c.done.ensures)) (ap (as_answer answers.Complete) (c.in_ok-complete.was ∙ ap Ok c.if-branch.false))
          (c.complete.ensures.came view has')));
      client = same_client_trans c.args.namenode.now c.loop.namenode c.complete.new.self inv.client c.complete.ensures.keeps;
    }

pub returns-in_err-complete-clause-err : goal.returns-in_err-complete-clause-err
returns-in_err-complete-clause-err g c =
    let p = err_from_is_err_and c.from_residual.result c.from_residual.ensures.1 in
    rw (p.1, p.2) (λ view has.
    let s = g.C.Cluster.shown c.args.cluster.now in
    let m = g.C.Cluster.shown c.loop.cluster in
    let inv = c.loop.invariant in
    let asking = inv.asking view has in
    let has' = view_same view (proxy_of c.args.namenode.now) (proxy_of c.loop.namenode) s m inv.client.service asking.own.later.namenodes has in
    let sound = shows_seen view IsSound m (g.met.C.Cluster.sound c.loop.cluster) in
    let t = see view (g.C.Cluster.shown c.complete.new.cluster) in
    asked_error c.requires.between sound asking t (name_of c.loop.namenode) c.in_err-complete.field-0.0
    (came_as (cc (c.as_str.ensures, c.done.ensures)) (ap (as_answer answers.Complete) c.in_err-complete.was) (c.complete.ensures.came view has')))

pub returns-in_err-complete-clause-nodes : goal.returns-in_err-complete-clause-nodes
returns-in_err-complete-clause-nodes g c = λ d.
    (c.complete.ensures.came (view_of (proxy_of c.loop.namenode)) (refl, refl)).relays.leaves.nodes d
    ∙ (c.loop.invariant.asking (view_of (proxy_of c.args.namenode.now)) (refl, refl)).nodes d

pub returns-in_err-path-clause-err : goal.returns-in_err-path-clause-err
returns-in_err-path-clause-err g c =
    let p = err_from_is_err_and c.from_residual-in_err-path.result c.from_residual-in_err-path.ensures.1 in
    rw (p.1, p.2) (λ view has.
    no_memory c.requires.between (shows_seen view IsSound (g.C.Cluster.shown c.loop.cluster) (g.met.C.Cluster.sound c.loop.cluster))
    (c.loop.invariant.asking view has))

pub returns-clause-err : goal.returns-clause-err
returns-clause-err g c = λ view has.
    let s = g.C.Cluster.shown c.args.cluster.now in
    let m = g.C.Cluster.shown c.loop.cluster in
    let w = c.args.self.now in
    let most : 5 ≤ c.loop.counter = omega (arith, c.loop-test.false) in
    let all : c.loop.counter ≢ 0 = λ none. absurd (omega (arith, none, most)) in
    subst (λ (path : List ℕ). FailsToClose (see view s) w (errors.OperationFailed path) (see view m)) (sym c.in_ok-path.ensures)
    (not_closed c.requires.between (shows_seen view IsSound m (g.met.C.Cluster.sound c.loop.cluster)) (c.loop.invariant.asking view has) all most)

pub returns-in_err-complete-clause-client : goal.returns-in_err-complete-clause-client
returns-in_err-complete-clause-client g c =
    same_client_trans c.args.namenode.now c.loop.namenode c.complete.new.self c.loop.invariant.client c.complete.ensures.keeps

pub returns-clause-nodes : goal.returns-clause-nodes
returns-clause-nodes g c = (c.loop.invariant.asking (view_of (proxy_of c.args.namenode.now)) (refl, refl)).nodes

pub returns-in_err-path-clause-nodes : goal.returns-in_err-path-clause-nodes
returns-in_err-path-clause-nodes g c = (c.loop.invariant.asking (view_of (proxy_of c.args.namenode.now)) (refl, refl)).nodes
