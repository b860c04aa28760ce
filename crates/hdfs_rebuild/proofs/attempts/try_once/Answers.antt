-- The goals of try_once.
use Rattle.std.proofs.Common.{◌≡◌, ℕ, List, refl, subst}
use Rattle.std.specs.Prelude.{IfOk}
use Rattle.std.proofs.lemmas.Result.{err_from_is_err_and}
use Rattle.hdfs_namenode.specs.Clients.{name_of, proxy_of, through}
use Rattle.hdfs_namenode.specs.Views.{Seen, see, view_of}
use Rattle.hdfs_namenode.proofs.Seeing.{view_later}
use Rattle.hdfs_namenode.proofs.Services.{same_client_trans, service_later}
use Rattle.hdfs_rebuild.specs.declared.opening.Opening.{Opening}
use Rattle.hdfs_rebuild.specs.Attempts.{Attempted, GaveNone, opening_of, standing, task_of}
use Rattle.hdfs_rebuild.specs.Plans.{StaysAnswered, nodes_at}
use Rattle.hdfs_rebuild.specs.Trying.{GivesPlan, Resumed, ResumedNot, course_of, plan_of}
use Rattle.hdfs_rebuild.proofs.Allowed.{lets_resume, next_keeps, stays_attempted}
use Rattle.hdfs_rebuild.proofs.Tried.{ok_by, err_by, to_resume, tried, untried}
use Rattle.hdfs_rebuild.proofs.attempts.try_once.Goals as goal

pub resume-requires-clause-service : goal.resume-requires-clause-service
resume-requires-clause-service g c =
    service_later (proxy_of c.args.namenode.now) (proxy_of c.next_plan.new.namenode) (g.C.Cluster.shown c.args.cluster.now)
    (g.C.Cluster.shown c.next_plan.new.cluster) c.in_ok-plan.ensures.client.service c.in_ok-plan.ensures.links.later c.requires.service

pub resume-requires-clause-allowed : goal.resume-requires-clause-allowed
resume-requires-clause-allowed g c =
    let given = c.in_ok-plan.ensures.ok (view_of (proxy_of c.args.namenode.now)) (refl, refl) in
    lets_resume c.args.fallen.plan c.in_ok-plan.plan _ _ c.in_ok-plan.ensures.client.name (next_keeps given) c.in_ok-plan.ensures.answered
    c.rebuilt-opening.ensures c.requires.allowed

pub resume-requires-clause-block : goal.resume-requires-clause-block
resume-requires-clause-block g c =
    let view = view_of (proxy_of c.args.namenode.now) in
    to_resume c.args.fallen.plan c.in_ok-plan.plan c.args.settings.now c.as_slice-2.result.now (see view (g.C.Cluster.shown c.args.cluster.now))
    (see view (g.C.Cluster.shown c.next_plan.new.cluster)) (c.in_ok-plan.ensures.ok view (refl, refl))

pub returns-in_err-plan-clause-err : goal.returns-in_err-plan-clause-err
returns-in_err-plan-clause-err g c =
    let p = err_from_is_err_and c.from_residual.result c.from_residual.ensures.1 in
    let client = name_of c.args.namenode.now in
    rw (p.1, p.2) (λ view has.
    subst (λ (failed : List ℕ). GaveNone (task_of c.args.settings.now client c.args.fallen.replay c.args.unsent)
    (standing c.args.fallen.plan failed (see view (g.C.Cluster.shown c.args.cluster.now))) c.in_err-plan.field-0.0
    (see view (g.C.Cluster.shown c.next_plan.new.cluster))) c.as_slice-2.ensures
    (c.in_err-plan.ensures.err view has client c.args.fallen.replay c.args.unsent))

pub returns-clause-client : goal.returns-clause-client
returns-clause-client g c =
    same_client_trans c.args.namenode.now c.next_plan.new.namenode c.resume.new.namenode c.in_ok-plan.ensures.client c.resume.ensures.client

pub returns-clause-ok : goal.returns-clause-ok
returns-clause-ok g c =
    let client = name_of c.args.namenode.now in
    let task = task_of c.args.settings.now client c.args.fallen.replay c.args.unsent in
    let opening : c.rebuilt-opening.result ≡ opening_of task c.args.fallen.plan = cc (c.rebuilt-opening.ensures, c.total.ensures, c.as_slice.ensures) in
    ok_by
    (λ attempt. Seen g.C.Cluster.shown (through c.next_plan.new.namenode c.next_plan.new.cluster) c.resume.new.cluster
    (λ old new. Resumed (course_of c.in_ok-plan.plan (opening_of task c.args.fallen.plan) client c.args.fallen.replay) old attempt new))
    (λ attempt. Seen g.C.Cluster.shown (through c.args.namenode.now c.args.cluster.now) c.resume.new.cluster
    (λ old new. Attempted task (standing c.args.fallen.plan c.args.fallen.failed old) attempt new))
    c.resume.result
    (λ attempt resumed view has.
    let a = see view (g.C.Cluster.shown c.args.cluster.now) in
    let n = see view (g.C.Cluster.shown c.next_plan.new.cluster) in
    let given = subst (λ (failed : List ℕ). GivesPlan c.args.fallen.plan c.args.settings.now failed a c.in_ok-plan.plan n) c.as_slice-2.ensures
    (c.in_ok-plan.ensures.ok view has) in
    tried c.args.fallen.plan given.left c.args.settings.now c.args.fallen.failed client c.args.fallen.replay c.args.unsent
    a given.between given.leaves given.stays
    given.whole (nodes_at c.args.fallen.plan.block.locs c.args.fallen.failed) refl given.completes n given.keeps
    c.in_ok-plan.plan given.restamps (see view (g.C.Cluster.shown c.resume.new.cluster)) attempt
    (resumed view (view_later view (proxy_of c.args.namenode.now) (proxy_of c.next_plan.new.namenode) (g.C.Cluster.shown c.args.cluster.now)
    (g.C.Cluster.shown c.next_plan.new.cluster) c.in_ok-plan.ensures.client.service c.in_ok-plan.ensures.links.later has)))
    (subst (λ (opening : Opening). IfOk c.resume.result (λ attempt. Seen g.C.Cluster.shown (through c.next_plan.new.namenode c.next_plan.new.cluster) c.resume.new.cluster
    (λ old new. Resumed (course_of c.in_ok-plan.plan opening client c.args.fallen.replay) old attempt new))) opening
    (subst (λ (name : List ℕ). IfOk c.resume.result (λ attempt. Seen g.C.Cluster.shown (through c.next_plan.new.namenode c.next_plan.new.cluster) c.resume.new.cluster
    (λ old new. Resumed (course_of c.in_ok-plan.plan c.rebuilt-opening.result name c.args.fallen.replay) old attempt new)))
    c.in_ok-plan.ensures.client.name c.resume.ensures.ok))

pub returns-clause-err : goal.returns-clause-err
returns-clause-err g c =
    err_by
    (λ fault. Seen g.C.Cluster.shown (through c.next_plan.new.namenode c.next_plan.new.cluster) c.resume.new.cluster (λ old new. ResumedNot c.in_ok-plan.plan old fault new))
    (λ fault. Seen g.C.Cluster.shown (through c.args.namenode.now c.args.cluster.now) c.resume.new.cluster
    (λ old new. GaveNone (task_of c.args.settings.now (name_of c.args.namenode.now) c.args.fallen.replay c.args.unsent)
    (standing c.args.fallen.plan c.args.fallen.failed old) fault new))
    c.resume.result
    (λ fault not view has.
    let a = see view (g.C.Cluster.shown c.args.cluster.now) in
    let n = see view (g.C.Cluster.shown c.next_plan.new.cluster) in
    let given = subst (λ (failed : List ℕ). GivesPlan c.args.fallen.plan c.args.settings.now failed a c.in_ok-plan.plan n) c.as_slice-2.ensures
    (c.in_ok-plan.ensures.ok view has) in
    untried c.args.fallen.plan given.left c.args.settings.now c.args.fallen.failed (name_of c.args.namenode.now) c.args.fallen.replay c.args.unsent
    a given.between given.leaves given.stays
    given.whole (nodes_at c.args.fallen.plan.block.locs c.args.fallen.failed) refl given.completes n given.keeps
    c.in_ok-plan.plan given.restamps (see view (g.C.Cluster.shown c.resume.new.cluster)) fault
    (not view (view_later view (proxy_of c.args.namenode.now) (proxy_of c.next_plan.new.namenode) (g.C.Cluster.shown c.args.cluster.now)
    (g.C.Cluster.shown c.next_plan.new.cluster) c.in_ok-plan.ensures.client.service c.in_ok-plan.ensures.links.later has)))
    c.resume.ensures.err

pub returns-clause-answered : goal.returns-clause-answered
returns-clause-answered g c =
    let view = view_of (proxy_of c.next_plan.new.namenode) in
    let n = see view (g.C.Cluster.shown c.next_plan.new.cluster) in
    let z = see view (g.C.Cluster.shown c.resume.new.cluster) in
    let client = name_of c.args.namenode.now in
    let course = course_of c.in_ok-plan.plan c.rebuilt-opening.result (name_of c.next_plan.new.namenode) c.args.fallen.replay in
    ok_by
    (λ attempt. Seen g.C.Cluster.shown (through c.next_plan.new.namenode c.next_plan.new.cluster) c.resume.new.cluster (λ old new. Resumed course old attempt new))
    (λ attempt. StaysAnswered g.C.Cluster.may_answer client c.args.fallen.plan (plan_of attempt))
    c.resume.result
    (λ attempt resumed. stays_attempted c.args.fallen.plan c.in_ok-plan.plan course n z attempt refl (resumed view (refl, refl))
    c.in_ok-plan.ensures.answered.stays)
    c.resume.ensures.ok
