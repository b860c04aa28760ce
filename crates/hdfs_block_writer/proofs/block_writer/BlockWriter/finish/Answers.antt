-- The goals of BlockWriter::finish.
use Rattle.std.proofs.Common.{[], refl, subst}
use Rattle.std.proofs.lemmas.Result.{err_from_is_err_and}
use Rattle.hdfs_namenode.specs.Clients.{SameClient, name_of, proxy_of}
use Rattle.hdfs_namenode.specs.Views.{HasView, View, see, view_of}
use Rattle.hdfs_namenode.proofs.Seeing.{view_same}
use Rattle.hdfs_namenode.proofs.Services.{same_client_refl, same_client_trans, service_same}
use Rattle.hdfs_rebuild.specs.Plans.{StaysAnswered}
use Rattle.hdfs_block_writer.specs.declared.pushing.Settled.{Settled}
use Rattle.hdfs_block_writer.specs.Pushing.{ReceivesOnce, Settles, plan_in}
use Rattle.hdfs_block_writer.proofs.PushingOn.{WaitsAgain, few_still, fewer_waits, finished_then, first_wait, not_finished, waits_again}
use Rattle.hdfs_block_writer.proofs.Received.{all_received}
use Rattle.hdfs_block_writer.proofs.Allowed.{lets_pipe, stays_then}
use Rattle.hdfs_block_writer.proofs.Seeing.{standing_seen, standing_shown}
use Rattle.hdfs_block_writer.proofs.block_writer.BlockWriter.finish.Goals as goal

pub loop-plan-init : goal.loop-plan-init
loop-plan-init g c = record {
  service = c.requires.may.service;
  client = same_client_refl c.args.namenode.now;
  answered = λ first answered. answered;
  waits = λ view has.
      first_wait c.args.self.now.settings (see view (g.C.Cluster.shown c.args.cluster.now)) c.args.pipe
      (standing_seen view c.requires.may.standing) c.requires.ending;
}

pub finish_once-requires-clause-may : goal.finish_once-requires-clause-may
finish_once-requires-clause-may g c =
    let before = c.loop-plan.invariant in
    let view = view_of (proxy_of c.args.namenode.now) in
    let waits = before.waits view (refl, refl) in
    record {
      service = before.service;
      allowed =
          lets_pipe c.args.pipe.plan c.loop-plan.pipe.plan before.client.name waits.continues.keeps before.answered c.requires.may.allowed;
      standing = standing_shown view waits.continues.standing;
    }

pub finish_once-requires-clause-ending : goal.finish_once-requires-clause-ending
finish_once-requires-clause-ending g c = (c.loop-plan.invariant.waits (view_of (proxy_of c.args.namenode.now)) (refl, refl)).ending

pub finish_once-requires-clause-few : goal.finish_once-requires-clause-few
finish_once-requires-clause-few g c =
    let view = view_of (proxy_of c.args.namenode.now) in (
      few_still c.args.self.now.settings (see view (g.C.Cluster.shown c.args.cluster.now)) c.args.pipe c.args.self.now.length
          (see view (g.C.Cluster.shown c.loop-plan.cluster)) c.loop-plan.pipe (c.loop-plan.invariant.waits view (refl, refl)) c.requires.few.0,
      c.requires.few.1,
    )

pub returns-in_err-plan-clause-err : goal.returns-in_err-plan-clause-err
returns-in_err-plan-clause-err g c =
    let p = err_from_is_err_and c.from_residual.result c.from_residual.ensures.1 in
    let s = g.C.Cluster.shown c.args.cluster.now in
    let t = g.C.Cluster.shown c.loop-plan.cluster in
    rw (p.1, p.2)
    (λ view has.
    let w = c.loop-plan.invariant.waits view has in
    let then = view_same view (proxy_of c.args.namenode.now) (proxy_of c.loop-plan.namenode) s t c.loop-plan.invariant.client.service
    w.continues.own.later.namenodes has in
    not_finished c.args.self.now.settings (see view s) c.args.pipe (see view t) (see view (g.C.Cluster.shown c.finish_once.new.cluster))
    c.loop-plan.pipe w c.in_err-plan.field-0.0 (c.in_err-plan.ensures.err view then []))

pub returns-in_err-plan-clause-client : goal.returns-in_err-plan-clause-client
returns-in_err-plan-clause-client g c =
    same_client_trans c.args.namenode.now c.loop-plan.namenode
    c.finish_once.new.namenode c.loop-plan.invariant.client c.finish_once.ensures.client

pub returns-in-Done-clause-client : goal.returns-in-Done-clause-client
returns-in-Done-clause-client g c =
    same_client_trans c.args.namenode.now c.loop-plan.namenode
    c.finish_once.new.namenode c.loop-plan.invariant.client c.finish_once.ensures.client

pub returns-in-Done-clause-finishes : goal.returns-in-Done-clause-finishes
returns-in-Done-clause-finishes g c view has =
    let s = g.C.Cluster.shown c.args.cluster.now in
    let t = g.C.Cluster.shown c.loop-plan.cluster in
    let u = g.C.Cluster.shown c.finish_once.new.cluster in
    let w = c.loop-plan.invariant.waits view has in
    let then = view_same view (proxy_of c.args.namenode.now) (proxy_of c.loop-plan.namenode) s t c.loop-plan.invariant.client.service
    w.continues.own.later.namenodes has in
    finished_then c.args.self.now.settings (see view s) c.args.pipe (see view t) (see view u) c.loop-plan.pipe w c.in-Done.plan
    (subst (λ (x : Settled). Settles c.args.self.now.settings (see view t) c.loop-plan.pipe x (see view u)) c.in-Done.is
    (c.in_ok-plan.ensures.ok view then))

pub returns-in-Done-clause-last : goal.returns-in-Done-clause-last
returns-in-Done-clause-last g c view has =
    let s = g.C.Cluster.shown c.args.cluster.now in
    let t = g.C.Cluster.shown c.loop-plan.cluster in
    let w = c.loop-plan.invariant.waits view has in
    let then = view_same view (proxy_of c.args.namenode.now) (proxy_of c.loop-plan.namenode) s t c.loop-plan.invariant.client.service
    w.continues.own.later.namenodes has in
    all_received (λ cluster. see view (g.C.Cluster.shown cluster)) g.C.Cluster.ends c.args.self.now.settings c.args.cluster.now c.loop-plan.cluster
    c.finish_once.new.cluster c.args.pipe c.loop-plan.pipe w
    (subst (λ (x : Settled). ReceivesOnce (λ cluster. see view (g.C.Cluster.shown cluster)) g.C.Cluster.ends c.loop-plan.cluster c.loop-plan.pipe x
    c.finish_once.new.cluster) c.in-Done.is (c.in_ok-plan.ensures.last view then))

pub loop-plan-smaller : goal.loop-plan-smaller
loop-plan-smaller g c =
    let view = view_of (proxy_of c.args.namenode.now) in
    let s = g.C.Cluster.shown c.args.cluster.now in
    let t = g.C.Cluster.shown c.loop-plan.cluster in
    let u = g.C.Cluster.shown c.finish_once.new.cluster in
    let w = c.loop-plan.invariant.waits view (refl, refl) in
    let then = view_same view (proxy_of c.args.namenode.now) (proxy_of c.loop-plan.namenode) s t c.loop-plan.invariant.client.service
    w.continues.own.later.namenodes (refl, refl) in
    let r = subst (λ (x : Settled). Settles c.args.self.now.settings (see view t) c.loop-plan.pipe x (see view u)) c.in-Rebuilt.is
    (c.in_ok-plan.ensures.ok view then) in
    fewer_waits c.args.self.now.settings (see view s) c.args.pipe (see view t) (see view u) c.loop-plan.pipe w c.in-Rebuilt.rebuilt r.0

pub loop-plan-preserved : goal.loop-plan-preserved
loop-plan-preserved g c =
    let s = g.C.Cluster.shown c.args.cluster.now in
    let t = g.C.Cluster.shown c.loop-plan.cluster in
    let u = g.C.Cluster.shown c.finish_once.new.cluster in
    let client : SameClient c.args.namenode.now c.finish_once.new.namenode =
    same_client_trans c.args.namenode.now c.loop-plan.namenode c.finish_once.new.namenode c.loop-plan.invariant.client
    c.finish_once.ensures.client in
    let waits : (view : View) → HasView (proxy_of c.args.namenode.now) s view
    → WaitsAgain c.args.self.now.settings (see view s) c.args.pipe (see view u) c.in-Rebuilt.rebuilt =
    λ view has.
    let w = c.loop-plan.invariant.waits view has in
    let then = view_same view (proxy_of c.args.namenode.now) (proxy_of c.loop-plan.namenode) s t c.loop-plan.invariant.client.service
    w.continues.own.later.namenodes has in
    let r = subst (λ (x : Settled). Settles c.args.self.now.settings (see view t) c.loop-plan.pipe x (see view u)) c.in-Rebuilt.is
    (c.in_ok-plan.ensures.ok view then) in
    waits_again c.args.self.now.settings (see view s) c.args.pipe (see view t) (see view u) c.loop-plan.pipe w c.in-Rebuilt.rebuilt r.0 r.1 in
    record {
      service =
          service_same (proxy_of c.args.namenode.now) (proxy_of c.finish_once.new.namenode) s u client.service
          (waits (view_of (proxy_of c.args.namenode.now)) (refl, refl)).continues.own.later.namenodes c.requires.may.service;
      client = client;
      answered =
          stays_then c.args.pipe.plan c.loop-plan.pipe.plan c.in-Rebuilt.rebuilt.plan c.loop-plan.invariant.client.name c.loop-plan.invariant.answered
          (subst (λ (x : Settled). StaysAnswered g.C.Cluster.may_answer (name_of c.loop-plan.namenode) c.loop-plan.pipe.plan (plan_in x)) c.in-Rebuilt.is
          c.in_ok-plan.ensures.answered);
      waits = waits;
    }

pub returns-in-Done-clause-answered : goal.returns-in-Done-clause-answered
returns-in-Done-clause-answered g c =
    stays_then c.args.pipe.plan c.loop-plan.pipe.plan c.in-Done.plan c.loop-plan.invariant.client.name c.loop-plan.invariant.answered
    (subst (λ (s : Settled). StaysAnswered g.C.Cluster.may_answer (name_of c.loop-plan.namenode) c.loop-plan.pipe.plan (plan_in s)) c.in-Done.is
    c.in_ok-plan.ensures.answered)
