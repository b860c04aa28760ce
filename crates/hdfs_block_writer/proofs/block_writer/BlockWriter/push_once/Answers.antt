-- The goals of BlockWriter::push_once.
use Rattle.std.proofs.Common.{rules, ◌≡◌, None, IsSome}
use Rattle.std.proofs.lemmas.Result.{err_from_is_err_and}
use Rattle.hdfs_namenode.specs.Clients.{proxy_of}
use Rattle.hdfs_namenode.specs.Views.{see}
use Rattle.hdfs_namenode.proofs.Seeing.{view_later}
use Rattle.hdfs_namenode.proofs.Services.{same_service_refl, service_later}
use Rattle.hdfs_rebuild.proofs.Seeing.{drove_seen, ended_seen, stops_seen}
use Rattle.hdfs_block_writer.proofs.Pushed.{push_stopped, pushed_or_not}
use Rattle.hdfs_block_writer.proofs.PushedEnded.{back_few, back_given_up, back_not_done, back_rebuilt, back_standing}
use Rattle.hdfs_block_writer.proofs.Seeing.{can_push_seen}
use Rattle.hdfs_block_writer.proofs.block_writer.BlockWriter.push_once.Goals as goal

pub returns-then-not-has_ended-clause-ok : goal.returns-then-not-has_ended-clause-ok
returns-then-not-has_ended-clause-ok g c view has =
    let going : c.drive_push.new.core.end ≡ None = search rules in
    pushed_or_not c.args.self.now.settings (see view (g.C.Cluster.shown c.args.cluster.now)) (see view (g.C.Cluster.shown c.drive_push.new.cluster))
    c.args.pipe c.args.self.now.length c.args.packet c.drive_push.new.core c.in-Ok.back (can_push_seen view c.requires.can)
    (drove_seen view c.in-Ok.ensures.drove) c.has_ended.ensures.core c.in-Ok.ensures.back going c.in-Ok.ensures.sent

pub rebuild_ended-requires-clause-may : goal.rebuild_ended-requires-clause-may
rebuild_ended-requires-clause-may g c =
    let proxy = proxy_of c.args.namenode.now in
    record {
      service =
          service_later proxy proxy (g.C.Cluster.shown c.args.cluster.now) (g.C.Cluster.shown c.drive_push.new.cluster) (same_service_refl proxy)
          c.in-Ok.ensures.drove.on.only.later c.requires.service;
      allowed = c.requires.allowed;
      standing =
          back_standing c.args.self.now.settings (g.C.Cluster.shown c.args.cluster.now) (g.C.Cluster.shown c.drive_push.new.cluster) c.args.pipe
          c.args.self.now.length c.args.packet c.drive_push.new.core c.requires.can c.in-Ok.back c.in-Ok.ensures.drove c.has_ended.ensures.core;
    }

pub rebuild_ended-requires-clause-ended : goal.rebuild_ended-requires-clause-ended
rebuild_ended-requires-clause-ended g c =
    let has : IsSome c.drive_push.new.core.end = search rules in (
      has,
      back_not_done c.args.self.now.settings (g.C.Cluster.shown c.args.cluster.now) (g.C.Cluster.shown c.drive_push.new.cluster) c.args.pipe
          c.args.self.now.length c.args.packet c.drive_push.new.core c.requires.can c.in-Ok.back c.in-Ok.ensures.drove,
    )

pub rebuild_ended-requires-clause-few : goal.rebuild_ended-requires-clause-few
rebuild_ended-requires-clause-few g c = rw c.bytes_of-unsent.ensures
    (back_few c.args.self.now.settings (g.C.Cluster.shown c.args.cluster.now) (g.C.Cluster.shown c.drive_push.new.cluster) c.args.pipe
    c.args.self.now.length c.args.packet c.drive_push.new.core c.requires.can c.in-Ok.back c.in-Ok.ensures.drove c.in-Ok.ensures.back)

pub returns-in_err-pipe-in-Ok-clause-err : goal.returns-in_err-pipe-in-Ok-clause-err
returns-in_err-pipe-in-Ok-clause-err g c =
    let p = err_from_is_err_and c.from_residual.result c.from_residual.ensures.1 in
    let proxy = proxy_of c.args.namenode.now in
    let a = g.C.Cluster.shown c.args.cluster.now in
    let b = g.C.Cluster.shown c.drive_push.new.cluster in
    rw (p.1, p.2)
    (λ view has.
    back_given_up c.args.self.now.settings (see view a) (see view b) c.args.pipe c.args.self.now.length c.args.packet c.drive_push.new.core
    (can_push_seen view c.requires.can) (see view (g.C.Cluster.shown c.rebuild_ended.new.cluster)) c.in-Ok.back
    (drove_seen view c.in-Ok.ensures.drove) c.in_err-pipe-in-Ok.field-0.0
    (c.in_err-pipe-in-Ok.ensures.err view (view_later view proxy proxy a b (same_service_refl proxy) c.in-Ok.ensures.drove.on.only.later has)))

pub returns-in_ok-pipe-in-Ok-clause-ok : goal.returns-in_ok-pipe-in-Ok-clause-ok
returns-in_ok-pipe-in-Ok-clause-ok g c view has =
    let proxy = proxy_of c.args.namenode.now in
    let a = g.C.Cluster.shown c.args.cluster.now in
    let b = g.C.Cluster.shown c.drive_push.new.cluster in
    back_rebuilt c.args.self.now.settings (see view a) (see view b) c.args.pipe c.args.self.now.length c.args.packet c.drive_push.new.core
    (can_push_seen view c.requires.can) (see view (g.C.Cluster.shown c.rebuild_ended.new.cluster)) c.in-Ok.back
    (drove_seen view c.in-Ok.ensures.drove) c.in-Ok.ensures.back c.in_ok-pipe-in-Ok.pipe
    (c.in_ok-pipe-in-Ok.ensures.ok view (view_later view proxy proxy a b (same_service_refl proxy) c.in-Ok.ensures.drove.on.only.later has))

pub returns-in-Err-clause-err : goal.returns-in-Err-clause-err
returns-in-Err-clause-err g c view has =
    push_stopped c.args.self.now.settings (see view (g.C.Cluster.shown c.args.cluster.now)) (see view (g.C.Cluster.shown c.drive_push.new.cluster))
    (see view (g.C.Cluster.shown c.end_write.new.self)) c.args.pipe c.args.packet (stops_seen view c.in-Err.ensures.err)
    (ended_seen view c.end_write.ensures.ended)

pub returns-then-not-has_ended-clause-answered : goal.returns-then-not-has_ended-clause-answered
returns-then-not-has_ended-clause-answered g c first answered = answered

pub returns-in_ok-pipe-in-Ok-clause-answered : goal.returns-in_ok-pipe-in-Ok-clause-answered
returns-in_ok-pipe-in-Ok-clause-answered g c first answered = c.in_ok-pipe-in-Ok.ensures.answered first answered
