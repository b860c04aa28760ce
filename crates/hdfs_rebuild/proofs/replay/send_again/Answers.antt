-- The goals of send_again.
use Rattle.std.proofs.Common.{rules, ◌≡◌, ◌+◌, ◌++◌, ◌∷◌, [], List, length, drop, None, sym, ◌∙◌, subst, append_assoc}
use Rattle.std.proofs.lemmas.Iterator.Consumers.{YieldsList-end}
use Rattle.hdfs_wire.specs.Outgoing.{Outgoing}
use Rattle.hdfs_pipeline.specs.Driving.{StopsShort}
use Rattle.hdfs_pipeline.proofs.DrivingOn.{drove_refl, on_err}
use Rattle.hdfs_pipeline.proofs.Inwards.{is_core}
use Rattle.hdfs_rebuild.specs.Plans.{IsReplay}
use Rattle.hdfs_rebuild.proofs.Replaying.{SentSoFar, none_sent, taken_out, whole_at, is_next, came_in, came_back, stops_before, stops_at, all_sent}
use Rattle.hdfs_rebuild.proofs.replay.send_again.Goals as goal

pub loop-packet-init : goal.loop-packet-init
loop-packet-init g c =
    let a = g.C.Cluster.shown c.args.cluster.now in
    record {
      so_far = subst (λ (xs : List Outgoing). SentSoFar c.args.link c.args.core a [] c.args.core xs a) (sym c.new-rest.ensures)
          (none_sent c.args.link c.args.core a (drove_refl c.args.link c.args.core a c.requires.going.drives) c.requires.none c.requires.fresh);
      is_core = c.requires.going.is_core;
    }

pub returns-in_err-push-clause-err : goal.returns-in_err-push-clause-err
returns-in_err-push-clause-err g c =
    let a = g.C.Cluster.shown c.args.cluster.now in
    let m = g.C.Cluster.shown c.loop-packet.cluster in
    let done = c.loop-packet.yielded in
    let given = c.into_iter-packet-iterator.ensures.into_iter_gives in
    let items = taken_out {s = c.into_iter-packet-iterator.result} c.args.replay c.into_vec-packet-items.result.items _ given.0 given.1
    c.into_vec-packet-items.ensures c.into_vec-packet-items.result.ok.0 in
    let whole = whole_at c.args.replay items done c.loop-packet.packet-iterator c.loop-packet.yielded_by c.next.result c.next.new.self
    c.in-Some.packet c.in-Some.is c.next.ensures.steps in
    on_err (StopsShort c.args.link c.args.replay c.args.core a m) c.from_residual.result
    (stops_before c.args.link c.args.core a done c.loop-packet.core c.loop-packet.rest m c.loop-packet.invariant.so_far c.args.replay
    (c.in-Some.packet ∷ drop (length done + 1) c.args.replay) whole)

pub drive_push-requires-clause-next : goal.drive_push-requires-clause-next
drive_push-requires-clause-next g c =
    let a = g.C.Cluster.shown c.args.cluster.now in
    let m = g.C.Cluster.shown c.loop-packet.cluster in
    let done = c.loop-packet.yielded in
    let given = c.into_iter-packet-iterator.ensures.into_iter_gives in
    let items = taken_out {s = c.into_iter-packet-iterator.result} c.args.replay c.into_vec-packet-items.result.items _ given.0 given.1
    c.into_vec-packet-items.ensures c.into_vec-packet-items.result.ok.0 in
    let whole = whole_at c.args.replay items done c.loop-packet.packet-iterator c.loop-packet.yielded_by c.next.result c.next.new.self
    c.in-Some.packet c.in-Some.is c.next.ensures.steps in
    is_next c.args.link c.args.core a done c.in-Some.packet c.loop-packet.core c.loop-packet.rest m c.loop-packet.invariant.so_far
    (drop (length done + 1) c.args.replay) c.args.core.window (subst (IsReplay c.args.core.window) whole c.requires.packets)

pub returns-in_err-back-clause-err : goal.returns-in_err-back-clause-err
returns-in_err-back-clause-err g c =
    let a = g.C.Cluster.shown c.args.cluster.now in
    let m = g.C.Cluster.shown c.loop-packet.cluster in
    let n = g.C.Cluster.shown c.drive_push.new.cluster in
    let done = c.loop-packet.yielded in
    let packet = c.in-Some.packet in
    let more = drop (length done + 1) c.args.replay in
    let given = c.into_iter-packet-iterator.ensures.into_iter_gives in
    let items = taken_out {s = c.into_iter-packet-iterator.result} c.args.replay c.into_vec-packet-items.result.items _ given.0 given.1
    c.into_vec-packet-items.ensures c.into_vec-packet-items.result.ok.0 in
    let whole = whole_at c.args.replay items done c.loop-packet.packet-iterator c.loop-packet.yielded_by c.next.result c.next.new.self
    packet c.in-Some.is c.next.ensures.steps in
    let going : c.loop-packet.core.end ≡ None = search rules in
    on_err (StopsShort c.args.link c.args.replay c.args.core a n) c.from_residual-in_err-back.result
    (stops_at c.args.link c.args.core a done c.loop-packet.core c.loop-packet.rest m c.loop-packet.invariant.so_far c.args.replay more packet
    c.drive_push.new.core n whole going c.in_err-back.ensures.err)

pub loop-packet-preserved-in-Continue-branch-4 : goal.loop-packet-preserved-in-Continue-branch-4
loop-packet-preserved-in-Continue-branch-4 g c =
    let a = g.C.Cluster.shown c.args.cluster.now in
    let m = g.C.Cluster.shown c.loop-packet.cluster in
    let n = g.C.Cluster.shown c.drive_push.new.cluster in
    let done = c.loop-packet.yielded in
    let packet = c.in-Some.packet in
    let more = drop (length done + 1) c.args.replay in
    let given = c.into_iter-packet-iterator.ensures.into_iter_gives in
    let items = taken_out {s = c.into_iter-packet-iterator.result} c.args.replay c.into_vec-packet-items.result.items _ given.0 given.1
    c.into_vec-packet-items.ensures c.into_vec-packet-items.result.ok.0 in
    let whole = whole_at c.args.replay items done c.loop-packet.packet-iterator c.loop-packet.yielded_by c.next.result c.next.new.self
    packet c.in-Some.is c.next.ensures.steps in
    let going : c.loop-packet.core.end ≡ None = search rules in
    record {
      so_far = subst (λ (xs : List Outgoing). SentSoFar c.args.link c.args.core a (done ++ packet ∷ []) c.drive_push.new.core xs n) (sym c.in_ok-push-2.ensures.ok)
          (came_back c.args.link c.args.core a done packet c.loop-packet.core c.loop-packet.rest m c.loop-packet.invariant.so_far more
          (subst (IsReplay c.args.core.window) whole c.requires.packets) c.drive_push.new.core n going c.if-has_ended.ensures.core.forgets
          c.in_ok-back.field-0 c.in-Some-2.back c.in-Some-2.is c.in_ok-back.ensures.drove c.in_ok-back.ensures.prompt.0 c.in_ok-back.ensures.back);
      is_core = rw (← c.core-else-has_ended.view_is) (is_core c.core-else-has_ended.inside c.core-else-has_ended.invariant);
    }

pub returns-in_err-push-2-clause-err : goal.returns-in_err-push-2-clause-err
returns-in_err-push-2-clause-err g c =
    let a = g.C.Cluster.shown c.args.cluster.now in
    let m = g.C.Cluster.shown c.loop-packet.cluster in
    let n = g.C.Cluster.shown c.drive_push.new.cluster in
    let done = c.loop-packet.yielded in
    let packet = c.in-Some.packet in
    let more = drop (length done + 1) c.args.replay in
    let given = c.into_iter-packet-iterator.ensures.into_iter_gives in
    let items = taken_out {s = c.into_iter-packet-iterator.result} c.args.replay c.into_vec-packet-items.result.items _ given.0 given.1
    c.into_vec-packet-items.ensures c.into_vec-packet-items.result.ok.0 in
    let whole = whole_at c.args.replay items done c.loop-packet.packet-iterator c.loop-packet.yielded_by c.next.result c.next.new.self
    packet c.in-Some.is c.next.ensures.steps in
    let going : c.loop-packet.core.end ≡ None = search rules in
    on_err (StopsShort c.args.link c.args.replay c.args.core a n) c.from_residual-in_err-push-2.result
    (stops_before c.args.link c.args.core a (done ++ packet ∷ []) c.drive_push.new.core (c.loop-packet.rest ++ c.in-Some-2.back ∷ []) n
    (came_back c.args.link c.args.core a done packet c.loop-packet.core c.loop-packet.rest m c.loop-packet.invariant.so_far more
    (subst (IsReplay c.args.core.window) whole c.requires.packets) c.drive_push.new.core n going c.if-has_ended.ensures.core.forgets
    c.in_ok-back.field-0 c.in-Some-2.back c.in-Some-2.is c.in_ok-back.ensures.drove c.in_ok-back.ensures.prompt.0 c.in_ok-back.ensures.back)
    c.args.replay more (whole ∙ sym (append_assoc done (packet ∷ []) more)))

pub loop-packet-preserved : goal.loop-packet-preserved
loop-packet-preserved g c =
    let a = g.C.Cluster.shown c.args.cluster.now in
    let m = g.C.Cluster.shown c.loop-packet.cluster in
    let n = g.C.Cluster.shown c.drive_push.new.cluster in
    let done = c.loop-packet.yielded in
    let packet = c.in-Some.packet in
    let more = drop (length done + 1) c.args.replay in
    let given = c.into_iter-packet-iterator.ensures.into_iter_gives in
    let items = taken_out {s = c.into_iter-packet-iterator.result} c.args.replay c.into_vec-packet-items.result.items _ given.0 given.1
    c.into_vec-packet-items.ensures c.into_vec-packet-items.result.ok.0 in
    let whole = whole_at c.args.replay items done c.loop-packet.packet-iterator c.loop-packet.yielded_by c.next.result c.next.new.self
    packet c.in-Some.is c.next.ensures.steps in
    let going : c.loop-packet.core.end ≡ None = search rules in
    record {
      so_far = came_in c.args.link c.args.core a done packet c.loop-packet.core c.loop-packet.rest m c.loop-packet.invariant.so_far more
          (subst (IsReplay c.args.core.window) whole c.requires.packets) c.drive_push.new.core n going c.if-has_ended.ensures.core.forgets
          c.in_ok-back.field-0 c.in_default.is c.in_ok-back.ensures.drove c.in_ok-back.ensures.prompt.0 c.in_ok-back.ensures.sent;
      is_core = rw (← c.core-else-has_ended.view_is) (is_core c.core-else-has_ended.inside c.core-else-has_ended.invariant);
    }

pub returns-clause-sent : goal.returns-clause-sent
returns-clause-sent g c =
    let a = g.C.Cluster.shown c.args.cluster.now in
    let m = g.C.Cluster.shown c.loop-packet.cluster in
    let done = c.loop-packet.yielded in
    let given = c.into_iter-packet-iterator.ensures.into_iter_gives in
    let items = taken_out {s = c.into_iter-packet-iterator.result} c.args.replay c.into_vec-packet-items.result.items _ given.0 given.1
    c.into_vec-packet-items.ensures c.into_vec-packet-items.result.ok.0 in
    let all = YieldsList-end items done c.loop-packet.packet-iterator c.loop-packet.yielded_by c.next.result c.next.new.self c.in-None.is c.next.ensures.steps in
    all_sent c.args.link c.args.core a done c.loop-packet.core c.loop-packet.rest m c.loop-packet.invariant.so_far c.args.replay all.0
    c.loop-packet.invariant.is_core
