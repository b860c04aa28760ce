-- The goals of BlockWriter::push.
use Rattle.std.proofs.Common.{◌<◌, Option, Some, refl, sym, ◌∙◌, ap, subst}
use Rattle.std.proofs.lemmas.Result.{err_from_is_err_and}
use Rattle.hdfs_wire.specs.Outgoing.{Outgoing}
use Rattle.hdfs_namenode.specs.Clients.{SameClient, proxy_of}
use Rattle.hdfs_namenode.specs.Views.{HasView, View, see, view_of}
use Rattle.hdfs_namenode.proofs.Seeing.{view_same}
use Rattle.hdfs_namenode.proofs.Services.{same_client_refl, same_client_trans, service_same}
use Rattle.hdfs_block_writer.specs.Pushing.{CanPush, PushesNot, PushesOnce}
use Rattle.hdfs_block_writer.proofs.Allowed.{lets_pipe, stays_then}
use Rattle.hdfs_block_writer.proofs.PushingOn.{PushedSoFar, first_try, fewer_turns, later_so_far, not_again, still_more, tried_again, turns_left}
use Rattle.hdfs_block_writer.proofs.Seeing.{can_push_seen, can_push_shown}
use Rattle.hdfs_block_writer.proofs.block_writer.BlockWriter.push.Goals as goal

pub loop-packet-init : goal.loop-packet-init
loop-packet-init g c = record {
  service = c.requires.service;
  client = same_client_refl c.args.namenode.now;
  answered = λ first answered. answered;
  so_far = λ view has. (
    refl,
    first_try c.args.self.now.settings (see view (g.C.Cluster.shown c.args.cluster.now)) c.args.pipe c.args.self.now.length c.args.packet
        (can_push_seen view c.requires.can),
  );
}

pub returns-in_default-clause-ok : goal.returns-in_default-clause-ok
returns-in_default-clause-ok g c view has =
    subst
    (λ (back : Option Outgoing). PushedSoFar c.args.self.now.settings (see view (g.C.Cluster.shown c.args.cluster.now)) c.args.pipe c.args.self.now.length
    c.args.packet back (see view (g.C.Cluster.shown c.loop-packet.cluster)) c.loop-packet.pushed.pipe)
    c.in_default.is (c.loop-packet.invariant.so_far view has)

pub push_once-requires-clause-service : goal.push_once-requires-clause-service
push_once-requires-clause-service g c = c.loop-packet.invariant.service

pub push_once-requires-clause-can : goal.push_once-requires-clause-can
push_once-requires-clause-can g c =
    let view = view_of (proxy_of c.args.namenode.now) in
    let t = still_more c.args.self.now.settings (see view (g.C.Cluster.shown c.args.cluster.now)) c.args.pipe c.args.self.now.length c.args.packet
    (see view (g.C.Cluster.shown c.loop-packet.cluster)) c.loop-packet.pushed.pipe c.loop-packet.pushed.back c.in-Some.packet c.in-Some.is
    (c.loop-packet.invariant.so_far view (refl, refl)) in
    subst (CanPush c.args.self.now.settings (g.C.Cluster.shown c.loop-packet.cluster) c.loop-packet.pushed.pipe c.args.self.now.length) (sym t.0)
    (can_push_shown view t.1.can)

pub returns-in_err-pushed-clause-err : goal.returns-in_err-pushed-clause-err
returns-in_err-pushed-clause-err g c =
    let p = err_from_is_err_and c.from_residual.result c.from_residual.ensures.1 in
    let s = g.C.Cluster.shown c.args.cluster.now in
    let t = g.C.Cluster.shown c.loop-packet.cluster in
    let u = g.C.Cluster.shown c.push_once.new.cluster in
    rw (p.1, p.2)
    (λ view has.
    let m = still_more c.args.self.now.settings (see view s) c.args.pipe c.args.self.now.length c.args.packet (see view t) c.loop-packet.pushed.pipe
    c.loop-packet.pushed.back c.in-Some.packet c.in-Some.is (c.loop-packet.invariant.so_far view has) in
    let then = view_same view (proxy_of c.args.namenode.now) (proxy_of c.loop-packet.namenode) s t c.loop-packet.invariant.client.service
    m.1.continues.own.later.namenodes has in
    not_again c.args.self.now.settings (see view s) c.args.pipe c.args.self.now.length c.args.packet (see view t) (see view u)
    c.loop-packet.pushed.pipe m.1 c.in_err-pushed.field-0.0
    (subst (λ (x : Outgoing). PushesNot c.args.self.now.settings (see view t) c.loop-packet.pushed.pipe x c.in_err-pushed.field-0.0 (see view u)) m.0
    (c.in_err-pushed.ensures.err view then)))

pub returns-in_err-pushed-clause-client : goal.returns-in_err-pushed-clause-client
returns-in_err-pushed-clause-client g c =
    same_client_trans c.args.namenode.now c.loop-packet.namenode
    c.push_once.new.namenode c.loop-packet.invariant.client c.push_once.ensures.client

pub loop-packet-smaller : goal.loop-packet-smaller
loop-packet-smaller g c =
    let view = view_of (proxy_of c.args.namenode.now) in
    let s = g.C.Cluster.shown c.args.cluster.now in
    let t = g.C.Cluster.shown c.loop-packet.cluster in
    let u = g.C.Cluster.shown c.push_once.new.cluster in
    let m = still_more c.args.self.now.settings (see view s) c.args.pipe c.args.self.now.length c.args.packet (see view t) c.loop-packet.pushed.pipe
    c.loop-packet.pushed.back c.in-Some.packet c.in-Some.is (c.loop-packet.invariant.so_far view (refl, refl)) in
    let then = view_same view (proxy_of c.args.namenode.now) (proxy_of c.loop-packet.namenode) s t c.loop-packet.invariant.client.service
    m.1.continues.own.later.namenodes (refl, refl) in
    subst (λ (back : Option Outgoing). turns_left c.args.self.now.settings c.in_ok-pushed.pushed.back c.in_ok-pushed.pushed.pipe
    < turns_left c.args.self.now.settings back c.loop-packet.pushed.pipe)
    (ap (λ (x : Outgoing). Some x) (sym m.0) ∙ sym c.in-Some.is)
    (fewer_turns c.args.self.now.settings (see view s) c.args.pipe c.args.self.now.length c.args.packet (see view t) (see view u)
    c.loop-packet.pushed.pipe m.1 c.in_ok-pushed.pushed.back c.in_ok-pushed.pushed.pipe
    (subst (λ (x : Outgoing). PushesOnce c.args.self.now.settings (see view t) c.loop-packet.pushed.pipe x c.in_ok-pushed.pushed (see view u)) m.0
    (c.in_ok-pushed.ensures.ok view then)))

pub loop-packet-preserved : goal.loop-packet-preserved
loop-packet-preserved g c =
    let s = g.C.Cluster.shown c.args.cluster.now in
    let t = g.C.Cluster.shown c.loop-packet.cluster in
    let u = g.C.Cluster.shown c.push_once.new.cluster in
    let client : SameClient c.args.namenode.now c.push_once.new.namenode =
    same_client_trans c.args.namenode.now c.loop-packet.namenode c.push_once.new.namenode c.loop-packet.invariant.client
    c.push_once.ensures.client in
    let next : (view : View) → HasView (proxy_of c.args.namenode.now) s view
    → PushedSoFar c.args.self.now.settings (see view s) c.args.pipe c.args.self.now.length c.args.packet c.in_ok-pushed.pushed.back (see view u)
    c.in_ok-pushed.pushed.pipe =
    λ view has.
    let m = still_more c.args.self.now.settings (see view s) c.args.pipe c.args.self.now.length c.args.packet (see view t) c.loop-packet.pushed.pipe
    c.loop-packet.pushed.back c.in-Some.packet c.in-Some.is (c.loop-packet.invariant.so_far view has) in
    let then = view_same view (proxy_of c.args.namenode.now) (proxy_of c.loop-packet.namenode) s t c.loop-packet.invariant.client.service
    m.1.continues.own.later.namenodes has in
    tried_again c.args.self.now.settings (see view s) c.args.pipe c.args.self.now.length c.args.packet (see view t) (see view u)
    c.loop-packet.pushed.pipe m.1 c.in_ok-pushed.pushed.back c.in_ok-pushed.pushed.pipe
    (subst (λ (x : Outgoing). PushesOnce c.args.self.now.settings (see view t) c.loop-packet.pushed.pipe x c.in_ok-pushed.pushed (see view u)) m.0
    (c.in_ok-pushed.ensures.ok view then)) in
    let here = view_of (proxy_of c.args.namenode.now) in
    record {
      service =
          service_same (proxy_of c.args.namenode.now) (proxy_of c.push_once.new.namenode) s u client.service
          (later_so_far c.args.self.now.settings (see here s) c.args.pipe c.args.self.now.length c.args.packet c.in_ok-pushed.pushed.back (see here u)
          c.in_ok-pushed.pushed.pipe (next here (refl, refl))).namenodes c.requires.service;
      client = client;
      answered =
          stays_then c.args.pipe.plan c.loop-packet.pushed.pipe.plan c.in_ok-pushed.pushed.pipe.plan c.loop-packet.invariant.client.name
          c.loop-packet.invariant.answered c.in_ok-pushed.ensures.answered;
      so_far = next;
    }

pub push_once-requires-clause-allowed : goal.push_once-requires-clause-allowed
push_once-requires-clause-allowed g c =
    let view = view_of (proxy_of c.args.namenode.now) in
    let t = still_more c.args.self.now.settings (see view (g.C.Cluster.shown c.args.cluster.now)) c.args.pipe c.args.self.now.length c.args.packet
    (see view (g.C.Cluster.shown c.loop-packet.cluster)) c.loop-packet.pushed.pipe c.loop-packet.pushed.back c.in-Some.packet c.in-Some.is
    (c.loop-packet.invariant.so_far view (refl, refl)) in
    lets_pipe c.args.pipe.plan c.loop-packet.pushed.pipe.plan c.loop-packet.invariant.client.name t.1.continues.keeps c.loop-packet.invariant.answered
    c.requires.allowed

pub returns-in_default-clause-answered : goal.returns-in_default-clause-answered
returns-in_default-clause-answered g c = c.loop-packet.invariant.answered
