-- The goals of BlockWriter::finish_once.
use Rattle.std.proofs.Common.{◌≡◌, ◌≢◌, [], length, sym, ◌∙◌, ap, subst, arith}
use Rattle.std.proofs.lemmas.Bool.{eqb-true, eqb-false}
use Rattle.std.proofs.lemmas.List.{nil_from_length}
use Rattle.std.proofs.lemmas.Result.{err_from_is_err_and}
use Rattle.hdfs_namenode.specs.Clients.{name_of, proxy_of}
use Rattle.hdfs_namenode.specs.Views.{see}
use Rattle.hdfs_namenode.proofs.Seeing.{view_same}
use Rattle.hdfs_namenode.proofs.Services.{same_service_refl, service_same}
use Rattle.hdfs_rebuild.specs.declared.block_plan.BlockPlan.{BlockPlan}
use Rattle.hdfs_rebuild.specs.Plans.{CanRebuild}
use Rattle.hdfs_rebuild.proofs.Seeing.{drove_seen, ended_seen, stops_seen}
use Rattle.hdfs_block_writer.proofs.EndedRebuilt.{bad_is, recovers_is}
use Rattle.hdfs_block_writer.proofs.Finished.{done_is, finishes, fewer_bytes, once_bad, once_given_up, once_rebuilt, once_stopped}
use Rattle.hdfs_block_writer.proofs.Received.{receives}
use Rattle.hdfs_block_writer.proofs.Seeing.{standing_seen}
use Rattle.hdfs_block_writer.proofs.Standing.{can_rebuild_standing, standing_drove}
use Rattle.hdfs_block_writer.proofs.Allowed.{lets_lengthened, stays_from}
use Rattle.hdfs_block_writer.proofs.block_writer.BlockWriter.finish_once.Goals as goal

pub returns-in-Err-clause-err : goal.returns-in-Err-clause-err
returns-in-Err-clause-err g c view has =
    let s = c.in-Err.ensures.err in
    once_stopped c.args.self.now.settings c.args.pipe (see view (g.C.Cluster.shown c.args.cluster.now)) (see view (g.C.Cluster.shown s.before))
    (see view (g.C.Cluster.shown c.drive_end.new.cluster)) (standing_seen view c.requires.may.standing) (stops_seen view s.stopped)
    (ended_seen view (g.met.C.Cluster.ends_row s.before c.drive_end.new.cluster c.args.pipe.link s.ended))

pub returns-then-is_empty-clause-ok : goal.returns-then-is_empty-clause-ok
returns-then-is_empty-clause-ok g c view has =
    let d = c.in-Ok-Recover.ensures.drove in
    let a = g.C.Cluster.shown c.args.cluster.now in
    let z = g.C.Cluster.shown d.before in
    let m = g.C.Cluster.shown c.drive_end.new.cluster in
    let e = g.met.C.Cluster.ends_row d.before c.drive_end.new.cluster c.args.pipe.link d.ended in
    let r = recovers_is d.last c.in-Ok-Recover.field-0 c.in-Ok-Recover.failed c.in-Ok-Recover.replay d.is_core d.has_ended d.is c.in-Ok-Recover.field-0-is in
    let none : length c.as_slice.result.now ≡ 0 = eqb-true (length c.as_slice.result.now) 0 (sym c.is_empty.ensures ∙ c.if-is_empty.true) in
    finishes c.args.self.now.settings c.args.pipe (see view a) (see view z) (see view m) d.last (standing_seen view c.requires.may.standing)
    c.requires.ending.0 (drove_seen view d.drove) (ended_seen view e) d.is_core
    (sym r.1 ∙ nil_from_length c.in-Ok-Recover.replay (ap length (sym c.as_slice.ensures) ∙ none))

pub returns-then-is_empty-clause-last : goal.returns-then-is_empty-clause-last
returns-then-is_empty-clause-last g c view has =
    let d = c.in-Ok-Recover.ensures.drove in
    let a = g.C.Cluster.shown c.args.cluster.now in
    let z = g.C.Cluster.shown d.before in
    let r = recovers_is d.last c.in-Ok-Recover.field-0 c.in-Ok-Recover.failed c.in-Ok-Recover.replay d.is_core d.has_ended d.is c.in-Ok-Recover.field-0-is in
    let none : length c.as_slice.result.now ≡ 0 = eqb-true (length c.as_slice.result.now) 0 (sym c.is_empty.ensures ∙ c.if-is_empty.true) in
    λ front packet is. (
      d.before,
      c.args.pipe.link,
      d.ended,
      receives c.args.pipe (see view a) (see view z) d.last (drove_seen view d.drove) c.requires.ending.0
          (sym r.1 ∙ nil_from_length c.in-Ok-Recover.replay (ap length (sym c.as_slice.ensures) ∙ none)) front packet is,
    )

pub returns-in-Ok-Success-clause-last : goal.returns-in-Ok-Success-clause-last
returns-in-Ok-Success-clause-last g c view has =
    let d = c.in-Ok-Success.ensures.drove in
    let a = g.C.Cluster.shown c.args.cluster.now in
    let z = g.C.Cluster.shown d.before in
    λ front packet is. (
      d.before,
      c.args.pipe.link,
      d.ended,
      receives c.args.pipe (see view a) (see view z) d.last (drove_seen view d.drove) c.requires.ending.0
          (d.none_left c.requires.ending.0 (done_is d.last c.in-Ok-Success.field-0 d.has_ended d.is c.in-Ok-Success.field-0-is)) front packet is,
    )

pub rebuild-requires-clause-service : goal.rebuild-requires-clause-service
rebuild-requires-clause-service g c =
    let d = c.in-Ok-Recover.ensures.drove in
    let e = g.met.C.Cluster.ends_row d.before c.drive_end.new.cluster c.args.pipe.link d.ended in
    service_same (proxy_of c.args.namenode.now) (proxy_of c.args.namenode.now) (g.C.Cluster.shown c.args.cluster.now)
    (g.C.Cluster.shown c.drive_end.new.cluster) (same_service_refl (proxy_of c.args.namenode.now))
    (e.writes.only.later.namenodes ∙ d.drove.on.only.later.namenodes) c.requires.may.service

pub rebuild-requires-clause-can : goal.rebuild-requires-clause-can
rebuild-requires-clause-can g c =
    let d = c.in-Ok-Recover.ensures.drove in
    let a = g.C.Cluster.shown c.args.cluster.now in
    let z = g.C.Cluster.shown d.before in
    let m = g.C.Cluster.shown c.drive_end.new.cluster in
    let e = g.met.C.Cluster.ends_row d.before c.drive_end.new.cluster c.args.pipe.link d.ended in
    let r = recovers_is d.last c.in-Ok-Recover.field-0 c.in-Ok-Recover.failed c.in-Ok-Recover.replay d.is_core d.has_ended d.is c.in-Ok-Recover.field-0-is in
    subst (λ (plan : BlockPlan). CanRebuild (record { plan = plan; failed = c.in-Ok-Recover.failed; replay = c.in-Ok-Recover.replay }) c.args.self.now.settings 0)
    (sym c.with_length-plan.ensures)
    (can_rebuild_standing c.args.self.now.settings (record { plan = c.args.pipe.plan; core = d.last; link = c.args.pipe.link }) z
    (standing_drove c.args.self.now.settings c.args.pipe [] [] d.last a z d.drove d.is_core c.requires.may.standing)
    c.in-Ok-Recover.failed r.0 c.args.self.now.length 0 c.in-Ok-Recover.replay r.1 (
      fewer_bytes c.args.self.now.settings c.args.pipe a z m d.last c.requires.may.standing c.requires.ending.0 d.drove e d.is_core c.args.self.now.length c.requires.few.0,
      c.requires.few.1,
    ))

pub returns-in_err-rebuilt-in-Ok-Recover-clause-err : goal.returns-in_err-rebuilt-in-Ok-Recover-clause-err
returns-in_err-rebuilt-in-Ok-Recover-clause-err g c =
    let p = err_from_is_err_and c.from_residual.result c.from_residual.ensures.1 in
    let proxy = proxy_of c.args.namenode.now in
    let d = c.in-Ok-Recover.ensures.drove in
    let a = g.C.Cluster.shown c.args.cluster.now in
    let z = g.C.Cluster.shown d.before in
    let m = g.C.Cluster.shown c.drive_end.new.cluster in
    let e = g.met.C.Cluster.ends_row d.before c.drive_end.new.cluster c.args.pipe.link d.ended in
    let r = recovers_is d.last c.in-Ok-Recover.field-0 c.in-Ok-Recover.failed c.in-Ok-Recover.replay d.is_core d.has_ended d.is c.in-Ok-Recover.field-0-is in
    rw (p.1, p.2)
    (λ view has.
    once_given_up c.args.self.now.settings c.args.pipe (see view a) (see view z) (see view m) d.last (standing_seen view c.requires.may.standing)
    c.requires.ending.0 (drove_seen view d.drove) (ended_seen view e) d.is_core
    c.in-Ok-Recover.failed r.0 (name_of c.args.namenode.now) c.in-Ok-Recover.replay c.args.self.now.length 0 c.requires.few.1 c.with_length-plan.result r.1
    c.with_length-plan.ensures c.in_err-rebuilt-in-Ok-Recover.field-0.0 (see view (g.C.Cluster.shown c.rebuild.new.cluster))
    (c.in_err-rebuilt-in-Ok-Recover.ensures.err view
    (view_same view proxy proxy a m (same_service_refl proxy) (e.writes.only.later.namenodes ∙ d.drove.on.only.later.namenodes) has)))

pub returns-in-Ok-Success-clause-ok : goal.returns-in-Ok-Success-clause-ok
returns-in-Ok-Success-clause-ok g c view has =
    let d = c.in-Ok-Success.ensures.drove in
    let a = g.C.Cluster.shown c.args.cluster.now in
    let z = g.C.Cluster.shown d.before in
    let m = g.C.Cluster.shown c.drive_end.new.cluster in
    let e = g.met.C.Cluster.ends_row d.before c.drive_end.new.cluster c.args.pipe.link d.ended in
    finishes c.args.self.now.settings c.args.pipe (see view a) (see view z) (see view m) d.last (standing_seen view c.requires.may.standing)
    c.requires.ending.0 (drove_seen view d.drove) (ended_seen view e) d.is_core
    (d.none_left c.requires.ending.0 (done_is d.last c.in-Ok-Success.field-0 d.has_ended d.is c.in-Ok-Success.field-0-is))

pub returns-in-Ok-Bad-clause-err : goal.returns-in-Ok-Bad-clause-err
returns-in-Ok-Bad-clause-err g c view has =
    let d = c.in-Ok-Bad.ensures.drove in
    let a = g.C.Cluster.shown c.args.cluster.now in
    let z = g.C.Cluster.shown d.before in
    let m = g.C.Cluster.shown c.drive_end.new.cluster in
    let e = g.met.C.Cluster.ends_row d.before c.drive_end.new.cluster c.args.pipe.link d.ended in
    once_bad c.args.self.now.settings c.args.pipe (see view a) (see view z) (see view m) d.last (standing_seen view c.requires.may.standing)
    c.requires.ending.0 (drove_seen view d.drove) (ended_seen view e) d.is_core c.in-Ok-Bad.seqno _
    (bad_is d.last c.in-Ok-Bad.field-0 c.in-Ok-Bad.seqno d.has_ended d.is c.in-Ok-Bad.field-0-is)

pub returns-in_ok-rebuilt-in-Ok-Recover-clause-ok : goal.returns-in_ok-rebuilt-in-Ok-Recover-clause-ok
returns-in_ok-rebuilt-in-Ok-Recover-clause-ok g c view has =
    let proxy = proxy_of c.args.namenode.now in
    let d = c.in-Ok-Recover.ensures.drove in
    let a = g.C.Cluster.shown c.args.cluster.now in
    let z = g.C.Cluster.shown d.before in
    let m = g.C.Cluster.shown c.drive_end.new.cluster in
    let e = g.met.C.Cluster.ends_row d.before c.drive_end.new.cluster c.args.pipe.link d.ended in
    let r = recovers_is d.last c.in-Ok-Recover.field-0 c.in-Ok-Recover.failed c.in-Ok-Recover.replay d.is_core d.has_ended d.is c.in-Ok-Recover.field-0-is in
    let some : length c.as_slice.result.now ≢ 0 = eqb-false (length c.as_slice.result.now) 0 (sym c.is_empty.ensures ∙ c.if-is_empty.false) in
    once_rebuilt c.args.self.now.settings c.args.pipe (see view a) (see view z) (see view m) d.last (standing_seen view c.requires.may.standing)
    c.requires.ending.0 (drove_seen view d.drove) (ended_seen view e) d.is_core
    c.in-Ok-Recover.failed r.0 (name_of c.args.namenode.now) c.in-Ok-Recover.replay c.args.self.now.length 0 c.requires.few.1 c.with_length-plan.result r.1
    c.with_length-plan.ensures c.in_ok-rebuilt-in-Ok-Recover.rebuilt (see view (g.C.Cluster.shown c.rebuild.new.cluster))
    (c.in_ok-rebuilt-in-Ok-Recover.ensures.ok view
    (view_same view proxy proxy a m (same_service_refl proxy) (e.writes.only.later.namenodes ∙ d.drove.on.only.later.namenodes) has))
    (omega (arith, ap length c.as_slice.ensures, some))

pub rebuild-requires-clause-allowed : goal.rebuild-requires-clause-allowed
rebuild-requires-clause-allowed g c =
    lets_lengthened c.args.pipe.plan c.with_length-plan.result c.args.self.now.length c.with_length-plan.ensures c.requires.may.allowed

pub returns-then-is_empty-clause-answered : goal.returns-then-is_empty-clause-answered
returns-then-is_empty-clause-answered g c first answered = answered

pub returns-in-Ok-Success-clause-answered : goal.returns-in-Ok-Success-clause-answered
returns-in-Ok-Success-clause-answered g c first answered = answered

pub returns-in_ok-rebuilt-in-Ok-Recover-clause-answered : goal.returns-in_ok-rebuilt-in-Ok-Recover-clause-answered
returns-in_ok-rebuilt-in-Ok-Recover-clause-answered g c =
    stays_from c.args.pipe.plan c.with_length-plan.result c.in_ok-rebuilt-in-Ok-Recover.rebuilt.plan c.args.self.now.length c.with_length-plan.ensures
    c.in_ok-rebuilt-in-Ok-Recover.ensures.answered
