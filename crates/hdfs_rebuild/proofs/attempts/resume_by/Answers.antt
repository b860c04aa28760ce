-- The goals of resume_by.
use Rattle.std.proofs.Common.{rules, ◌≡◌, ◌≤◌, ℕ, List, None, IsSome, refl, ◌∙◌, subst}
use Rattle.std.proofs.lemmas.Result.{err_from_is_err_and}
use Rattle.hdfs_cluster.specs.Pipes.{WriteEnded, WriteOpened}
use Rattle.hdfs_namenode.specs.Clients.{name_of, proxy_of}
use Rattle.hdfs_namenode.specs.Views.{see, view_of}
use Rattle.hdfs_namenode.proofs.Seeing.{view_later}
use Rattle.hdfs_namenode.proofs.Services.{same_service_refl, service_later}
use Rattle.hdfs_rebuild.specs.Opening.{setup_for}
use Rattle.hdfs_rebuild.proofs.Allowed.{lets_name, lets_set_up}
use Rattle.hdfs_rebuild.proofs.Attempting.{opens_none}
use Rattle.hdfs_rebuild.proofs.Ending.{falls}
use Rattle.hdfs_rebuild.proofs.Replaying.{never_done}
use Rattle.hdfs_rebuild.proofs.Resumed.{resumed_stands, resumed_fell, resumed_none, resumed_unsent, unsent_open}
use Rattle.hdfs_rebuild.proofs.Resuming.{opened_goes, opened_empty}
use Rattle.hdfs_rebuild.proofs.Seeing.{ended_seen, falls_seen, opened_seen, opens_none_seen}
use Rattle.hdfs_rebuild.proofs.attempts.resume_by.Goals as goal

pub returns-in_err-core-clause-err : goal.returns-in_err-core-clause-err
returns-in_err-core-clause-err g c =
    let p = err_from_is_err_and c.from_residual.result c.from_residual.ensures.1 in
    rw (p.1, p.2) (λ view has.
    opens_none c.args.plan.now (setup_for c.args.plan.now c.args.opening c.client_name-client.result.now) c.requires.allowed.stage
    (see view (g.C.Cluster.shown c.args.cluster.now))
    c.in_err-core.field-0.0 (see view (g.C.Cluster.shown c.open_pipeline.new.cluster)) (opens_none_seen view c.in_err-core.ensures.err))

pub replay_and_name-requires-clause-service : goal.replay_and_name-requires-clause-service
replay_and_name-requires-clause-service g c =
    service_later (proxy_of c.args.namenode.now) (proxy_of c.args.namenode.now) (g.C.Cluster.shown c.args.cluster.now)
    (g.C.Cluster.shown c.open_pipeline.new.cluster) (same_service_refl (proxy_of c.args.namenode.now)) c.in_ok-core.ensures.opened.only.later
    c.requires.service

pub open_pipeline-requires-clause-allowed : goal.open_pipeline-requires-clause-allowed
open_pipeline-requires-clause-allowed g c =
    lets_set_up c.args.plan.now c.args.opening c.client_name-client.ensures c.requires.allowed

pub replay_and_name-requires-clause-allowed : goal.replay_and_name-requires-clause-allowed
replay_and_name-requires-clause-allowed g c = lets_name c.args.plan.now c.args.opening c.requires.block c.requires.allowed

pub collect-requires-clause-drives : goal.collect-requires-clause-drives
collect-requires-clause-drives g c =
    let ok = c.in-Ok.ensures.ok (view_of (proxy_of c.args.namenode.now)) (refl, refl) in
    let drives = ok.sends.drove.drives in
    (drives.0, ok.links.writes c.in_ok-core.link ∙ drives.1, drives.2)

pub collect-requires-clause-ended : goal.collect-requires-clause-ended
collect-requires-clause-ended g c =
    let view = view_of (proxy_of c.args.namenode.now) in
    let a = see view (g.C.Cluster.shown c.args.cluster.now) in
    let b = see view (g.C.Cluster.shown c.open_pipeline.new.cluster) in
    let sent = c.in-Ok.ensures.ok view (refl, refl) in
    let name = c.client_name-client.result.now in
    let opened = opened_seen view c.in_ok-core.ensures.opened in
    let windows : (1 ≤ c.args.opening.window) × (c.args.opening.window ≤ 1000) = (c.requires.packets.0, c.requires.packets.1) in
    let has : IsSome c.in-Ok.sent.core.end = search rules in (
      has,
      never_done c.in_ok-core.link c.in-Ok.sent.core.pushed c.in_ok-core.core c.in-Ok.sent.core b sent.between sent.sends.drove
          (opened_goes c.args.plan.now c.args.opening name c.in_ok-core.link c.in_ok-core.core a b c.requires.block windows c.in_ok-core.ensures.core opened).going
          (opened_empty c.args.plan.now c.args.opening name c.in_ok-core.link c.in_ok-core.core a b c.requires.block windows
          c.in_ok-core.ensures.core opened),
    )

pub returns-in_err-collected-in-Ok-clause-err : goal.returns-in_err-collected-in-Ok-clause-err
returns-in_err-collected-in-Ok-clause-err g c =
    let p = err_from_is_err_and c.from_residual-in_err-collected-in-Ok.result c.from_residual-in_err-collected-in-Ok.ensures.1 in
    rw (p.1, p.2) (λ view has.
    let proxy = proxy_of c.args.namenode.now in
    let opened = c.in_ok-core.ensures.opened in
    let a = g.C.Cluster.shown c.args.cluster.now in
    let b = g.C.Cluster.shown c.open_pipeline.new.cluster in
    let n = see view (g.C.Cluster.shown c.replay_and_name.new.cluster) in
    let f = falls (λ x. see view (g.C.Cluster.shown x)) g.C.Cluster.ends (λ x y link row. ended_seen view (g.met.C.Cluster.ends_row x y link row))
    c.in_ok-core.link c.in-Ok.sent.core c.replay_and_name.new.cluster c.collect.new.cluster (falls_seen view c.collect.ensures.ended) in
    resumed_none c.args.plan.now c.args.opening c.client_name-client.result.now c.args.replay c.in_ok-core.link
    c.in_ok-core.core (see view a) (see view b) c.requires.block
    (c.requires.packets.0, c.requires.packets.1) c.in_ok-core.ensures.core (opened_seen view opened) c.in-Ok.sent n
    (c.in-Ok.ensures.ok view (view_later view proxy proxy a b (same_service_refl proxy) opened.only.later has))
    c.has_ended.ensures.core (see view (g.C.Cluster.shown c.collect.new.cluster)) f.0 f.1 f.2 c.in_err-collected-in-Ok.field-0.0
    c.in_err-collected-in-Ok.ensures.err)

pub returns-in_ok-collected-in-Ok-clause-ok : goal.returns-in_ok-collected-in-Ok-clause-ok
returns-in_ok-collected-in-Ok-clause-ok g c = λ view has.
    let proxy = proxy_of c.args.namenode.now in
    let opened = c.in_ok-core.ensures.opened in
    let a = g.C.Cluster.shown c.args.cluster.now in
    let b = g.C.Cluster.shown c.open_pipeline.new.cluster in
    let n = see view (g.C.Cluster.shown c.replay_and_name.new.cluster) in
    let f = falls (λ x. see view (g.C.Cluster.shown x)) g.C.Cluster.ends (λ x y link row. ended_seen view (g.met.C.Cluster.ends_row x y link row))
    c.in_ok-core.link c.in-Ok.sent.core c.replay_and_name.new.cluster c.collect.new.cluster (falls_seen view c.collect.ensures.ended) in
    rw (← c.client_name-client.ensures)
    (resumed_fell c.args.plan.now c.args.opening c.client_name-client.result.now c.args.replay c.in_ok-core.link
    c.in_ok-core.core (see view a) (see view b) c.requires.block
    (c.requires.packets.0, c.requires.packets.1) c.in_ok-core.ensures.core (opened_seen view opened) c.in-Ok.sent n
    (c.in-Ok.ensures.ok view (view_later view proxy proxy a b (same_service_refl proxy) opened.only.later has))
    c.has_ended.ensures.core (see view (g.C.Cluster.shown c.collect.new.cluster)) f.0 f.1 f.2 c.in_ok-collected-in-Ok.collected
    c.in_ok-collected-in-Ok.ensures.collected)

pub returns-in-Ok-2-clause-ok : goal.returns-in-Ok-2-clause-ok
returns-in-Ok-2-clause-ok g c = λ view has.
    let proxy = proxy_of c.args.namenode.now in
    let a = g.C.Cluster.shown c.args.cluster.now in
    let b = g.C.Cluster.shown c.open_pipeline.new.cluster in
    let ok = c.in-Ok.ensures.ok view (view_later view proxy proxy a b (same_service_refl proxy) c.in_ok-core.ensures.opened.only.later has) in
    let going : c.in-Ok.sent.core.end ≡ None = search rules in
    let opened = subst (λ (name : List ℕ). WriteOpened a (setup_for c.args.plan.now c.args.opening name) c.in_ok-core.link b)
    c.client_name-client.ensures c.in_ok-core.ensures.opened in
    resumed_stands c.args.plan.now c.args.opening (name_of c.args.namenode.now) c.args.replay c.in_ok-core.link
    c.in_ok-core.core (see view a) (see view b) c.requires.block
    (c.requires.packets.0, c.requires.packets.1) c.in_ok-core.ensures.core (opened_seen view opened) c.in-Ok.sent
    (see view (g.C.Cluster.shown c.replay_and_name.new.cluster)) ok ok.sends.is_core going

pub end_write-requires : goal.end_write-requires
end_write-requires g c =
    let view = view_of (proxy_of c.args.namenode.now) in
    unsent_open _ _ _ _ c.in-Err.fault (see view (g.C.Cluster.shown c.replay_and_name.new.cluster)) _ c.in_ok-core.ensures.opened.opened
    (c.in-Err.ensures.err view (refl, refl))

pub returns-in-Err-clause-err : goal.returns-in-Err-clause-err
returns-in-Err-clause-err g c = λ view has.
    let proxy = proxy_of c.args.namenode.now in
    let opened = c.in_ok-core.ensures.opened in
    let a = g.C.Cluster.shown c.args.cluster.now in
    let b = g.C.Cluster.shown c.open_pipeline.new.cluster in
    let n = g.C.Cluster.shown c.replay_and_name.new.cluster in
    let z = g.C.Cluster.shown c.end_write.new.self in
    let gone : WriteEnded n c.in_ok-core.link z = search rules in
    resumed_unsent c.args.plan.now c.args.opening c.client_name-client.result.now c.args.replay c.in_ok-core.link
    c.in_ok-core.core (see view a) (see view b) c.requires.block
    (c.requires.packets.0, c.requires.packets.1) c.in_ok-core.ensures.core (opened_seen view opened) c.in-Err.fault
    (see view n) (see view z) (c.in-Err.ensures.err view (view_later view proxy proxy a b (same_service_refl proxy) opened.only.later has))
    (ended_seen view gone)
