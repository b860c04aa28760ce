-- The goals of BlockWriter::end.
use Rattle.std.proofs.Common.{rules, ◌≡◌, [], Some, arith, refl}
use Rattle.std.proofs.lemmas.Result.{err_from_is_err_and}
use Rattle.hdfs_namenode.specs.Clients.{proxy_of}
use Rattle.hdfs_namenode.specs.Views.{see, view_of}
use Rattle.hdfs_namenode.proofs.Seeing.{view_same}
use Rattle.hdfs_namenode.proofs.Services.{same_client_trans, service_same}
use Rattle.hdfs_rebuild.proofs.Seeing.{ended_seen}
use Rattle.hdfs_block_writer.proofs.Allowed.{closes_by, lets_pipe, stays_then}
use Rattle.hdfs_block_writer.proofs.Closed.{can_push_last, closes, ending, few, last_not_pushed, not_finished}
use Rattle.hdfs_block_writer.proofs.Received.{waits_for_last}
use Rattle.hdfs_block_writer.proofs.Seeing.{over_seen, standing_shown}
use Rattle.hdfs_block_writer.proofs.Sent.{is_open, pipe_of}
use Rattle.hdfs_block_writer.proofs.Wrote.{gave_up_ended}
use Rattle.hdfs_block_writer.proofs.block_writer.BlockWriter.end.Goals as goal

pub last_packet-requires-clause-sizes : goal.last_packet-requires-clause-sizes
last_packet-requires-clause-sizes g c = let pipe = pipe_of c.args.self.now c.requires.may.is_open in (c.requires.may.holds pipe.0 pipe.1).0.sizes

pub last_packet-requires-clause-fits : goal.last_packet-requires-clause-fits
last_packet-requires-clause-fits g c =
    let pipe = pipe_of c.args.self.now c.requires.may.is_open in
    let kept = (c.requires.may.holds pipe.0 pipe.1).0 in
    (omega (arith, kept.within.0, kept.within.1), omega (arith, kept.within.0, kept.within.1, kept.counted))

pub fail-requires : goal.fail-requires
fail-requires g c = λ pipe is.
    is_open c.args.self.now.settings (g.C.Cluster.shown c.args.cluster.now) pipe [] (c.requires.may.holds pipe is).1.standing

pub returns-in_default-clause-err : goal.returns-in_default-clause-err
returns-in_default-clause-err g c view has =
    gave_up_ended c.args.self.now (see view (g.C.Cluster.shown c.args.cluster.now)) (see view (g.C.Cluster.shown c.fail.new.cluster))
    (λ pipe is. ended_seen view (c.fail.ensures.ended pipe is))

pub push-requires-clause-can : goal.push-requires-clause-can
push-requires-clause-can g c =
    let piped : c.args.self.now.pipe ≡ Some c.in-Some.pipe = search rules in
    let held = c.requires.may.holds c.in-Some.pipe piped in
    can_push_last c.args.self.now c.in-Some.pipe c.in-Ok.packet (g.C.Cluster.shown c.args.cluster.now) piped c.requires.none held.0 held.1
    c.in-Ok.ensures

pub returns-in_err-pipe-clause-err : goal.returns-in_err-pipe-clause-err
returns-in_err-pipe-clause-err g c =
    let p = err_from_is_err_and c.from_residual.result c.from_residual.ensures.1 in
    let piped : c.args.self.now.pipe ≡ Some c.in-Some.pipe = search rules in
    let held = c.requires.may.holds c.in-Some.pipe piped in
    rw (p.1, p.2)
    (λ view has.
    last_not_pushed c.args.self.now c.in-Some.pipe c.in-Ok.packet (see view (g.C.Cluster.shown c.args.cluster.now)) piped c.requires.none held.0
    (over_seen view held.1) c.in-Ok.ensures (see view (g.C.Cluster.shown c.push.new.cluster)) c.in_err-pipe.field-0.0
    (c.in_err-pipe.ensures.err view has))

pub finish-requires-clause-may : goal.finish-requires-clause-may
finish-requires-clause-may g c =
    let piped : c.args.self.now.pipe ≡ Some c.in-Some.pipe = search rules in
    let view = view_of (proxy_of c.args.namenode.now) in
    let on = (c.in_ok-pipe.ensures.ok view (refl, refl)).continues in
    record {
      service =
          service_same (proxy_of c.args.namenode.now) (proxy_of c.push.new.namenode) (g.C.Cluster.shown c.args.cluster.now)
          (g.C.Cluster.shown c.push.new.cluster) c.push.ensures.client.service on.own.later.namenodes c.requires.may.service;
      allowed =
          lets_pipe c.in-Some.pipe.plan c.in_ok-pipe.pipe.plan c.push.ensures.client.name on.keeps c.in_ok-pipe.ensures.answered
          (c.requires.may.allowed c.in-Some.pipe piped);
      standing = standing_shown view on.standing;
    }

pub finish-requires-clause-ending : goal.finish-requires-clause-ending
finish-requires-clause-ending g c =
    let piped : c.args.self.now.pipe ≡ Some c.in-Some.pipe = search rules in
    let held = c.requires.may.holds c.in-Some.pipe piped in
    let view = view_of (proxy_of c.args.namenode.now) in
    ending c.args.self.now c.in-Some.pipe c.in-Ok.packet (see view (g.C.Cluster.shown c.args.cluster.now)) piped c.requires.none held.0
    (over_seen view held.1) c.in-Ok.ensures (see view (g.C.Cluster.shown c.push.new.cluster)) c.in_ok-pipe.pipe
    (c.in_ok-pipe.ensures.ok view (refl, refl))

pub finish-requires-clause-few : goal.finish-requires-clause-few
finish-requires-clause-few g c =
    let piped : c.args.self.now.pipe ≡ Some c.in-Some.pipe = search rules in
    let held = c.requires.may.holds c.in-Some.pipe piped in
    let view = view_of (proxy_of c.args.namenode.now) in
    few c.args.self.now c.in-Some.pipe c.in-Ok.packet (see view (g.C.Cluster.shown c.args.cluster.now)) piped c.requires.none held.0
    (over_seen view held.1) c.in-Ok.ensures (see view (g.C.Cluster.shown c.push.new.cluster)) c.in_ok-pipe.pipe
    (c.in_ok-pipe.ensures.ok view (refl, refl))

pub returns-clause-closed : goal.returns-clause-closed
returns-clause-closed g c view has =
    let piped : c.args.self.now.pipe ≡ Some c.in-Some.pipe = search rules in
    let held = c.requires.may.holds c.in-Some.pipe piped in
    let a = g.C.Cluster.shown c.args.cluster.now in
    let b = g.C.Cluster.shown c.push.new.cluster in
    let pushed = c.in_ok-pipe.ensures.ok view has in
    let then = view_same view (proxy_of c.args.namenode.now) (proxy_of c.push.new.namenode) a b c.push.ensures.client.service
    pushed.continues.own.later.namenodes has in
    closes c.args.self.now c.in-Some.pipe c.in-Ok.packet (see view a) piped c.requires.none held.0 (over_seen view held.1) c.in-Ok.ensures
    (see view b) c.in_ok-pipe.pipe pushed (see view (g.C.Cluster.shown c.finish.new.cluster)) c.in_ok-plan.plan
    (c.in_ok-plan.ensures.finishes view then) c.named.result c.named.ensures

pub returns-clause-last : goal.returns-clause-last
returns-clause-last g c view has =
    let piped : c.args.self.now.pipe ≡ Some c.in-Some.pipe = search rules in
    let held = c.requires.may.holds c.in-Some.pipe piped in
    let pushed = c.in_ok-pipe.ensures.ok view has in
    let then = view_same view (proxy_of c.args.namenode.now) (proxy_of c.push.new.namenode) (g.C.Cluster.shown c.args.cluster.now)
    (g.C.Cluster.shown c.push.new.cluster) c.push.ensures.client.service pushed.continues.own.later.namenodes has in
    waits_for_last (λ cluster. see view (g.C.Cluster.shown cluster)) g.C.Cluster.ends c.args.self.now c.in-Some.pipe c.in_ok-pipe.pipe c.in-Ok.packet
    c.args.cluster.now c.push.new.cluster c.finish.new.cluster piped c.requires.none held.0 (over_seen view held.1) c.in-Ok.ensures pushed
    (c.in_ok-plan.ensures.last view then)

pub returns-in_err-plan-clause-err : goal.returns-in_err-plan-clause-err
returns-in_err-plan-clause-err g c =
    let p = err_from_is_err_and c.from_residual-in_err-plan.result c.from_residual-in_err-plan.ensures.1 in
    let piped : c.args.self.now.pipe ≡ Some c.in-Some.pipe = search rules in
    let held = c.requires.may.holds c.in-Some.pipe piped in
    let a = g.C.Cluster.shown c.args.cluster.now in
    let b = g.C.Cluster.shown c.push.new.cluster in
    rw (p.1, p.2)
    (λ view has.
    let pushed = c.in_ok-pipe.ensures.ok view has in
    let then = view_same view (proxy_of c.args.namenode.now) (proxy_of c.push.new.namenode) a b c.push.ensures.client.service
    pushed.continues.own.later.namenodes has in
    not_finished c.args.self.now c.in-Some.pipe c.in-Ok.packet (see view a) piped c.requires.none held.0 (over_seen view held.1) c.in-Ok.ensures
    (see view b) c.in_ok-pipe.pipe pushed (see view (g.C.Cluster.shown c.finish.new.cluster)) c.in_err-plan.field-0.0
    (c.in_err-plan.ensures.err view then))

pub returns-clause-client : goal.returns-clause-client
returns-clause-client g c =
    same_client_trans c.args.namenode.now c.push.new.namenode
    c.finish.new.namenode c.push.ensures.client c.finish.ensures.client

pub returns-in_err-plan-clause-client : goal.returns-in_err-plan-clause-client
returns-in_err-plan-clause-client g c =
    same_client_trans c.args.namenode.now c.push.new.namenode
    c.finish.new.namenode c.push.ensures.client c.finish.ensures.client

pub returns-clause-answered : goal.returns-clause-answered
returns-clause-answered g c =
    let piped : c.args.self.now.pipe ≡ Some c.in-Some.pipe = search rules in
    closes_by c.args.self.now c.in-Some.pipe c.in_ok-plan.plan c.named.result c.args.self.now.length piped c.named.ensures
    (stays_then c.in-Some.pipe.plan c.in_ok-pipe.pipe.plan c.in_ok-plan.plan c.push.ensures.client.name c.in_ok-pipe.ensures.answered
    c.in_ok-plan.ensures.answered)
