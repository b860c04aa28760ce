-- The goals of next_plan.
use Rattle.std.proofs.Common.{◌≡◌, List, refl, subst, ℕ}
use Rattle.std.proofs.lemmas.Result.{err_from_is_err_and}
use Rattle.hdfs_cluster.specs.declared.messages.DatanodeInfo.{DatanodeInfo}
use Rattle.hdfs_namenode.specs.Clients.{name_of, proxy_of, through}
use Rattle.hdfs_namenode.specs.Views.{Seen, see, view_of}
use Rattle.hdfs_namenode.proofs.Seeing.{view_later}
use Rattle.hdfs_namenode.proofs.Services.{same_client_trans, service_later}
use Rattle.hdfs_rebuild.specs.Attempts.{GivesNoPlan, standing}
use Rattle.hdfs_rebuild.specs.Plans.{nodes_at}
use Rattle.hdfs_rebuild.specs.Replacing.{Completes}
use Rattle.hdfs_rebuild.specs.Resuming.{Restamps, RestampsNot}
use Rattle.hdfs_rebuild.specs.Trying.{GivesPlan}
use Rattle.hdfs_rebuild.proofs.Allowed.{completed_keeps, left_keeps, lets_go_on, named_over, names_on, stays_left, stays_restamped}
use Rattle.hdfs_rebuild.proofs.Seeing.{links_seen}
use Rattle.hdfs_rebuild.proofs.Stepping.{keeps_links_trans}
use Rattle.hdfs_rebuild.proofs.Tried.{ok_both, ok_by, err_by, incomplete, unstamped}
use Rattle.hdfs_cluster.specs.Requests.{IsStamped}
use Rattle.std.specs.Prelude.{IfOk}
use Rattle.hdfs_rebuild.proofs.attempts.next_plan.Goals as goal

pub restamp-requires : goal.restamp-requires
restamp-requires g c = record {
  service =
      service_later (proxy_of c.args.namenode.now) (proxy_of c.complete.new.namenode) (g.C.Cluster.shown c.args.cluster.now)
      (g.C.Cluster.shown c.complete.new.cluster) c.in_ok-plan-2.ensures.client.service c.in_ok-plan-2.ensures.links.later c.requires.service;
  allowed =
      let completes = c.in_ok-plan-2.ensures.completes (view_of (proxy_of c.args.namenode.now)) (refl, refl) in
      let lets = lets_go_on c.args.plan c.in_ok-plan-2.plan c.in_ok-plan-2.ensures.client.name (completed_keeps c.in_ok-plan.ensures.ok completes).src
      (λ first answered. c.in_ok-plan-2.ensures.answered first (stays_left c.args.plan c.in_ok-plan.plan c.in_ok-plan.ensures.ok first answered))
      c.requires.allowed in
      lets.lets.restamps c.in_ok-plan-2.plan.block.b (named_over lets.answered);
}

pub complete-requires-clause-allowed : goal.complete-requires-clause-allowed
complete-requires-clause-allowed g c =
    lets_go_on c.args.plan c.in_ok-plan.plan refl (left_keeps c.in_ok-plan.ensures.ok).src (stays_left c.args.plan c.in_ok-plan.plan c.in_ok-plan.ensures.ok) c.requires.allowed

pub returns-in_err-plan-2-clause-err : goal.returns-in_err-plan-2-clause-err
returns-in_err-plan-2-clause-err g c =
    let p = err_from_is_err_and c.from_residual-in_err-plan-2.result c.from_residual-in_err-plan-2.ensures.1 in
    rw (p.1, p.2)
    (λ view has client replay unsent. incomplete c.args.plan c.in_ok-plan.plan c.args.settings.now c.args.failed.now client replay unsent
    (see view (g.C.Cluster.shown c.args.cluster.now)) (see view (g.C.Cluster.shown c.complete.new.cluster)) c.in_ok-plan.ensures.ok
    (links_seen view c.in_err-plan-2.ensures.links) c.in_err-plan-2.field-0.0 (c.in_err-plan-2.ensures.err view has))

pub returns-clause-links : goal.returns-clause-links
returns-clause-links g c =
    keeps_links_trans (g.C.Cluster.shown c.args.cluster.now) (g.C.Cluster.shown c.complete.new.cluster) (g.C.Cluster.shown c.restamp.new.cluster)
    c.in_ok-plan-2.ensures.links c.restamp.ensures.links

pub returns-clause-client : goal.returns-clause-client
returns-clause-client g c =
    same_client_trans c.args.namenode.now c.complete.new.namenode c.restamp.new.namenode c.in_ok-plan-2.ensures.client c.restamp.ensures.client

pub returns-clause-ok : goal.returns-clause-ok
returns-clause-ok g c =
    let a = g.C.Cluster.shown c.args.cluster.now in
    let m = g.C.Cluster.shown c.complete.new.cluster in
    let those : c.as_slice-2.result.now ≡ nodes_at c.args.plan.block.locs c.args.failed.now = cc (c.as_slice-2.ensures, c.in-Ok.ensures, c.as_slice.ensures) in
    ok_by
    (λ next. Seen g.C.Cluster.shown (through c.complete.new.namenode c.complete.new.cluster) c.restamp.new.cluster
    (λ old new. Restamps c.in_ok-plan-2.plan old next new))
    (λ next. Seen g.C.Cluster.shown (through c.args.namenode.now c.args.cluster.now) c.restamp.new.cluster
    (λ old new. GivesPlan c.args.plan c.args.settings.now c.args.failed.now old next new)) c.restamp.result
    (λ next restamps view has. record {
      left = c.in_ok-plan.plan;
      whole = c.in_ok-plan-2.plan;
      between = see view m;
      leaves = c.in_ok-plan.ensures.ok;
      stays = links_seen view c.in_ok-plan-2.ensures.links;
      completes =
          subst (λ (nodes : List DatanodeInfo). Completes c.in_ok-plan.plan c.args.settings.now nodes (see view a) c.in_ok-plan-2.plan (see view m)) those
          (c.in_ok-plan-2.ensures.completes view has);
      keeps = links_seen view c.restamp.ensures.links;
      restamps =
          restamps view
          (view_later view (proxy_of c.args.namenode.now) (proxy_of c.complete.new.namenode) a m c.in_ok-plan-2.ensures.client.service
          c.in_ok-plan-2.ensures.links.later has);
    })
    c.restamp.ensures.restamps

pub returns-clause-err : goal.returns-clause-err
returns-clause-err g c =
    let a = g.C.Cluster.shown c.args.cluster.now in
    let m = g.C.Cluster.shown c.complete.new.cluster in
    let n = g.C.Cluster.shown c.restamp.new.cluster in
    let those : c.as_slice-2.result.now ≡ nodes_at c.args.plan.block.locs c.args.failed.now = cc (c.as_slice-2.ensures, c.in-Ok.ensures, c.as_slice.ensures) in
    err_by
    (λ fault. Seen g.C.Cluster.shown (through c.complete.new.namenode c.complete.new.cluster) c.restamp.new.cluster
    (λ old new. RestampsNot c.in_ok-plan-2.plan old fault new))
    (λ fault. Seen g.C.Cluster.shown (through c.args.namenode.now c.args.cluster.now) c.restamp.new.cluster
    (λ old new. GivesNoPlan c.args.settings.now (standing c.args.plan c.args.failed.now old) fault new)) c.restamp.result
    (λ fault not view has client replay unsent. unstamped c.args.plan c.in_ok-plan.plan c.args.settings.now c.args.failed.now client replay unsent
    (see view a) (see view m) c.in_ok-plan.ensures.ok (links_seen view c.in_ok-plan-2.ensures.links)
    c.in_ok-plan-2.plan c.as_slice-2.result.now those (c.in_ok-plan-2.ensures.completes view has) (see view n)
    (links_seen view c.restamp.ensures.links) fault
    (not view (view_later view (proxy_of c.args.namenode.now) (proxy_of c.complete.new.namenode) a m c.in_ok-plan-2.ensures.client.service
    c.in_ok-plan-2.ensures.links.later has)))
    c.restamp.ensures.err

pub returns-clause-answered : goal.returns-clause-answered
returns-clause-answered g c =
    let whole = c.in_ok-plan-2.plan in
    let completes = c.in_ok-plan-2.ensures.completes (view_of (proxy_of c.args.namenode.now)) (refl, refl) in
    ok_both c.restamp.result c.restamp.ensures.restamps
    (subst (λ (client : List ℕ). IfOk c.restamp.result (λ plan. IsStamped g.C.Cluster.may_answer client plan.block.b whole.block.b.generation_stamp
    plan.block.b.generation_stamp plan.block.block_token)) c.in_ok-plan-2.ensures.client.name c.restamp.ensures.stamped)
    (λ plan restamps stamped. record {
      stamped =
          subst (λ (before : ℕ). IsStamped g.C.Cluster.may_answer (name_of c.args.namenode.now) plan.block.b before plan.block.b.generation_stamp
          plan.block.block_token) (names_on c.in_ok-plan.ensures.ok completes) stamped;
      stays = λ first answered. stays_restamped whole plan (restamps (view_of (proxy_of c.complete.new.namenode)) (refl, refl)) stamped first
          (c.in_ok-plan-2.ensures.answered first (stays_left c.args.plan c.in_ok-plan.plan c.in_ok-plan.ensures.ok first answered));
    })
