-- The goals of rebuild.
use Rattle.std.proofs.Common.{List, ℕ, refl, subst, arith}
use Rattle.std.proofs.lemmas.Result.{err_from_is_err_and}
use Rattle.hdfs_wire.specs.Outgoing.{Outgoing}
use Rattle.hdfs_namenode.specs.Clients.{name_of, proxy_of}
use Rattle.hdfs_namenode.specs.Views.{see, view_of}
use Rattle.hdfs_namenode.proofs.Seeing.{view_same}
use Rattle.hdfs_namenode.proofs.Services.{same_client_refl, same_client_trans, service_same}
use Rattle.hdfs_rebuild.specs.declared.attempts.Attempt.{Attempt}
use Rattle.hdfs_rebuild.specs.Attempts.{Attempted, GaveNone, fallen_at, task_of}
use Rattle.hdfs_rebuild.specs.Plans.{StaysAnswered}
use Rattle.hdfs_rebuild.specs.Trying.{plan_of}
use Rattle.hdfs_rebuild.proofs.Allowed.{lets_go_on}
use Rattle.hdfs_rebuild.proofs.Repeating.{one_fell}
use Rattle.hdfs_rebuild.proofs.attempts.rebuild.Goals as goal

pub try_once-requires-clause-service : goal.try_once-requires-clause-service
try_once-requires-clause-service g c =
    service_same (proxy_of c.args.namenode.now) (proxy_of c.attempts.namenode) (g.C.Cluster.shown c.args.cluster.now)
    (g.C.Cluster.shown c.attempts.cluster) c.attempts.invariant.client.service
    (c.attempts.invariant.fell (view_of (proxy_of c.args.namenode.now)) (refl, refl)).namenodes c.requires.service

pub try_once-requires-clause-can : goal.try_once-requires-clause-can
try_once-requires-clause-can g c = (c.attempts.invariant.fell (view_of (proxy_of c.args.namenode.now)) (refl, refl)).can

pub attempts-init : goal.attempts-init
attempts-init g c = record {
  fell = λ view has. record { namenodes = refl; can = c.requires.can; same = refl; times = 0; missed = refl };
  client = same_client_refl c.args.namenode.now;
  allowed = c.requires.allowed;
  answered = λ first answered. answered;
}

pub attempts-preserved : goal.attempts-preserved
attempts-preserved g c =
    let old = g.C.Cluster.shown c.args.cluster.now in
    let now = g.C.Cluster.shown c.attempts.cluster in
    let new = g.C.Cluster.shown c.try_once.new.cluster in
    let client = name_of c.args.namenode.now in
    let task = task_of c.args.settings.now client c.attempts.fallen.replay c.args.unsent in
    let by_service = view_of (proxy_of c.attempts.namenode) in
    let missed = subst (λ (attempt : Attempt). Attempted (task_of c.args.settings.now (name_of c.attempts.namenode) c.attempts.fallen.replay c.args.unsent)
    (fallen_at c.attempts.fallen (see by_service now)) attempt (see by_service new)) c.in-Fell.is (c.in_ok-rebuilt.ensures.ok by_service (refl, refl)) in
    record {
      fell = λ view has.
          let fell = c.attempts.invariant.fell view has in
          one_fell c.args.fallen c.args.settings.now client c.args.unsent (see view old)
          c.attempts.fallen (see view now) fell c.in-Fell.next (see view new)
          (subst (λ (attempt : Attempt). Attempted task (fallen_at c.attempts.fallen (see view now)) attempt (see view new)) c.in-Fell.is
          (subst (λ (name : List ℕ). Attempted (task_of c.args.settings.now name c.attempts.fallen.replay c.args.unsent)
          (fallen_at c.attempts.fallen (see view now)) c.in_ok-rebuilt.field-0 (see view new)) c.attempts.invariant.client.name
          (c.in_ok-rebuilt.ensures.ok view
          (view_same view (proxy_of c.args.namenode.now) (proxy_of c.attempts.namenode) old now c.attempts.invariant.client.service fell.namenodes has))));
      client =
          same_client_trans c.args.namenode.now c.attempts.namenode c.try_once.new.namenode c.attempts.invariant.client
          c.in_ok-rebuilt.ensures.client;
      allowed =
          lets_go_on c.attempts.fallen.plan c.in-Fell.next.plan c.in_ok-rebuilt.ensures.client.name missed.0.begins.next.keeps.src
          (subst (λ (attempt : Attempt). StaysAnswered g.C.Cluster.may_answer (name_of c.attempts.namenode) c.attempts.fallen.plan (plan_of attempt))
          c.in-Fell.is c.in_ok-rebuilt.ensures.answered) c.attempts.invariant.allowed;
      answered = λ first answered.
          subst (λ (attempt : Attempt). StaysAnswered g.C.Cluster.may_answer client c.attempts.fallen.plan (plan_of attempt)) c.in-Fell.is
          (subst (λ (name : List ℕ). StaysAnswered g.C.Cluster.may_answer name c.attempts.fallen.plan (plan_of c.in_ok-rebuilt.field-0))
          c.attempts.invariant.client.name c.in_ok-rebuilt.ensures.answered) first (c.attempts.invariant.answered first answered);
    }

pub attempts-smaller : goal.attempts-smaller
attempts-smaller g c =
    let view = view_of (proxy_of c.attempts.namenode) in
    let missed = subst (λ (attempt : Attempt). Attempted (task_of c.args.settings.now (name_of c.attempts.namenode) c.attempts.fallen.replay c.args.unsent)
    (fallen_at c.attempts.fallen (see view (g.C.Cluster.shown c.attempts.cluster))) attempt (see view (g.C.Cluster.shown c.try_once.new.cluster)))
    c.in-Fell.is (c.in_ok-rebuilt.ensures.ok view (refl, refl)) in
    omega (arith, missed.0.begins.next.once, missed.0.begins.next.within)

pub returns-in_err-rebuilt-clause-err : goal.returns-in_err-rebuilt-clause-err
returns-in_err-rebuilt-clause-err g c =
    let p = err_from_is_err_and c.from_residual.result c.from_residual.ensures.1 in
    let old = g.C.Cluster.shown c.args.cluster.now in
    let now = g.C.Cluster.shown c.attempts.cluster in
    rw (p.1, p.2) (λ view has.
    let fell = c.attempts.invariant.fell view has in
    record {
      times = fell.times;
      last = fallen_at c.attempts.fallen (see view now);
      missed = fell.missed;
      gave_none =
          subst (λ (replay : List Outgoing). GaveNone (task_of c.args.settings.now (name_of c.args.namenode.now) replay c.args.unsent)
          (fallen_at c.attempts.fallen (see view now)) c.in_err-rebuilt.field-0.0 (see view (g.C.Cluster.shown c.try_once.new.cluster))) fell.same
          (subst (λ (name : List ℕ). GaveNone (task_of c.args.settings.now name c.attempts.fallen.replay c.args.unsent)
          (fallen_at c.attempts.fallen (see view now)) c.in_err-rebuilt.field-0.0 (see view (g.C.Cluster.shown c.try_once.new.cluster)))
          c.attempts.invariant.client.name
          (c.in_err-rebuilt.ensures.err view
          (view_same view (proxy_of c.args.namenode.now) (proxy_of c.attempts.namenode) old now c.attempts.invariant.client.service fell.namenodes has)));
    })

pub returns-in-Stands-clause-ok : goal.returns-in-Stands-clause-ok
returns-in-Stands-clause-ok g c = λ view has.
    let old = g.C.Cluster.shown c.args.cluster.now in
    let now = g.C.Cluster.shown c.attempts.cluster in
    let new = see view (g.C.Cluster.shown c.try_once.new.cluster) in
    let fell = c.attempts.invariant.fell view has in
    record {
      times = fell.times;
      last = fallen_at c.attempts.fallen (see view now);
      missed = fell.missed;
      recovered =
          subst (λ (attempt : Attempt). Attempted (task_of c.args.settings.now (name_of c.args.namenode.now) c.args.fallen.replay c.args.unsent)
          (fallen_at c.attempts.fallen (see view now)) attempt new) c.in-Stands.is
          (subst (λ (replay : List Outgoing). Attempted (task_of c.args.settings.now (name_of c.args.namenode.now) replay c.args.unsent)
          (fallen_at c.attempts.fallen (see view now)) c.in_ok-rebuilt.field-0 new) fell.same
          (subst (λ (name : List ℕ). Attempted (task_of c.args.settings.now name c.attempts.fallen.replay c.args.unsent)
          (fallen_at c.attempts.fallen (see view now)) c.in_ok-rebuilt.field-0 new) c.attempts.invariant.client.name
          (c.in_ok-rebuilt.ensures.ok view
          (view_same view (proxy_of c.args.namenode.now) (proxy_of c.attempts.namenode) old now c.attempts.invariant.client.service fell.namenodes has))));
    }

pub returns-in_err-rebuilt-clause-client : goal.returns-in_err-rebuilt-clause-client
returns-in_err-rebuilt-clause-client g c =
    same_client_trans c.args.namenode.now c.attempts.namenode c.try_once.new.namenode c.attempts.invariant.client
    c.in_err-rebuilt.ensures.client

pub returns-in-Stands-clause-client : goal.returns-in-Stands-clause-client
returns-in-Stands-clause-client g c =
    same_client_trans c.args.namenode.now c.attempts.namenode c.try_once.new.namenode c.attempts.invariant.client
    c.in_ok-rebuilt.ensures.client

pub returns-in-Stands-clause-answered : goal.returns-in-Stands-clause-answered
returns-in-Stands-clause-answered g c first answered =
    subst (λ (attempt : Attempt). StaysAnswered g.C.Cluster.may_answer (name_of c.args.namenode.now) c.attempts.fallen.plan (plan_of attempt)) c.in-Stands.is
    (subst (λ (name : List ℕ). StaysAnswered g.C.Cluster.may_answer name c.attempts.fallen.plan (plan_of c.in_ok-rebuilt.field-0))
    c.attempts.invariant.client.name c.in_ok-rebuilt.ensures.answered) first (c.attempts.invariant.answered first answered)
