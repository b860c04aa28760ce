-- The goals of BlockWriter::rebuild_ended.
use Rattle.std.proofs.Common.{◌≡◌, [], sym, ◌∙◌, ap, subst, arith}
use Rattle.hdfs_cluster.specs.Shown.{Shown}
use Rattle.hdfs_namenode.specs.Clients.{name_of, proxy_of, through}
use Rattle.hdfs_namenode.specs.Views.{Seen, see}
use Rattle.hdfs_namenode.proofs.Seeing.{view_same}
use Rattle.hdfs_namenode.proofs.Services.{same_service_refl, service_same}
use Rattle.hdfs_block_reader.specs.Carrying.{total}
use Rattle.hdfs_rebuild.specs.declared.block_plan.BlockPlan.{BlockPlan}
use Rattle.hdfs_rebuild.specs.Attempts.{GaveNoneAfter, RebuiltAfter, standing, task_of}
use Rattle.hdfs_rebuild.specs.Plans.{CanRebuild, StaysAnswered}
use Rattle.hdfs_rebuild.proofs.Seeing.{drove_seen, ended_seen, stops_seen}
use Rattle.hdfs_rebuild.proofs.Tried.{err_by, ok_by}
use Rattle.hdfs_block_writer.specs.Pushing.{FallsEnded, RebuildsEnded}
use Rattle.hdfs_block_writer.proofs.EndedRebuilt.{bad_is, ended_bad, ended_given_up, ended_rebuilt, ended_same, ended_stopped, recovers_is}
use Rattle.hdfs_block_writer.proofs.Seeing.{standing_seen}
use Rattle.hdfs_block_writer.proofs.Standing.{can_rebuild_standing, standing_drove}
use Rattle.hdfs_block_writer.proofs.Allowed.{lets_lengthened, stays_from}
use Rattle.hdfs_block_writer.proofs.block_writer.BlockWriter.rebuild_ended.Goals as goal

pub returns-in-Err-clause-err : goal.returns-in-Err-clause-err
returns-in-Err-clause-err g c view has =
    let s = c.in-Err.ensures.err in
    ended_stopped c.args.self.now.settings c.args.pipe (see view (g.C.Cluster.shown c.args.cluster.now)) (see view (g.C.Cluster.shown s.before))
    (see view (g.C.Cluster.shown c.drive_end.new.cluster)) (stops_seen view s.stopped)
    (ended_seen view (g.met.C.Cluster.ends_row s.before c.drive_end.new.cluster c.args.pipe.link s.ended))

pub rebuild-requires-clause-service : goal.rebuild-requires-clause-service
rebuild-requires-clause-service g c =
    let d = c.in-Ok-Recover.ensures.drove in
    let e = g.met.C.Cluster.ends_row d.before c.drive_end.new.cluster c.args.pipe.link d.ended in
    service_same (proxy_of c.args.namenode.now) (proxy_of c.args.namenode.now) (g.C.Cluster.shown c.args.cluster.now)
    (g.C.Cluster.shown c.drive_end.new.cluster) (same_service_refl (proxy_of c.args.namenode.now))
    (e.writes.only.later.namenodes ∙ d.drove.on.only.later.namenodes) c.requires.may.service

pub rebuild-requires-clause-can : goal.rebuild-requires-clause-can
rebuild-requires-clause-can g c =
    let d = c.in-Ok-Recover.ensures.drove in
    let a = g.C.Cluster.shown c.args.cluster.now in
    let z = g.C.Cluster.shown d.before in
    let r = recovers_is d.last c.in-Ok-Recover.field-0 c.in-Ok-Recover.failed c.in-Ok-Recover.replay d.is_core d.has_ended d.is c.in-Ok-Recover.field-0-is in
    let same : d.last.pushed ≡ c.args.pipe.core.pushed = ended_same c.args.pipe a z d.last c.requires.ended.0 d.drove in
    subst (λ (plan : BlockPlan). CanRebuild (record { plan = plan; failed = c.in-Ok-Recover.failed; replay = c.in-Ok-Recover.replay }) c.args.self.now.settings c.args.unsent)
    (sym c.with_length-plan.ensures)
    (can_rebuild_standing c.args.self.now.settings (record { plan = c.args.pipe.plan; core = d.last; link = c.args.pipe.link }) z
    (standing_drove c.args.self.now.settings c.args.pipe [] [] d.last a z d.drove d.is_core c.requires.may.standing)
    c.in-Ok-Recover.failed r.0 c.args.self.now.length c.args.unsent c.in-Ok-Recover.replay r.1
    (omega (arith, c.requires.few.0, ap total same), c.requires.few.1))

pub returns-in-Ok-Recover-clause-err : goal.returns-in-Ok-Recover-clause-err
returns-in-Ok-Recover-clause-err g c =
    let d = c.in-Ok-Recover.ensures.drove in
    let proxy = proxy_of c.args.namenode.now in
    let a = g.C.Cluster.shown c.args.cluster.now in
    let z = g.C.Cluster.shown d.before in
    let m = g.C.Cluster.shown c.drive_end.new.cluster in
    let n = g.C.Cluster.shown c.rebuild.new.cluster in
    let e = g.met.C.Cluster.ends_row d.before c.drive_end.new.cluster c.args.pipe.link d.ended in
    let r = recovers_is d.last c.in-Ok-Recover.field-0 c.in-Ok-Recover.failed c.in-Ok-Recover.replay d.is_core d.has_ended d.is c.in-Ok-Recover.field-0-is in
    let task = task_of c.args.self.now.settings (name_of c.args.namenode.now) c.in-Ok-Recover.replay c.args.unsent in
    err_by
    (λ error. Seen g.C.Cluster.shown (through c.args.namenode.now c.drive_end.new.cluster) c.rebuild.new.cluster
    (λ (s t : Shown). GaveNoneAfter task (standing c.with_length-plan.result c.in-Ok-Recover.failed s) error t))
    (λ error. Seen g.C.Cluster.shown (through c.args.namenode.now c.args.cluster.now) c.rebuild.new.cluster
    (λ (s t : Shown). FallsEnded c.args.self.now.settings s c.args.pipe error t)) c.rebuild.result
    (λ error gave view has.
    ended_given_up c.args.self.now.settings c.args.pipe (see view a) (see view z) (see view m) d.last (standing_seen view c.requires.may.standing)
    c.requires.ended.0 (drove_seen view d.drove) (ended_seen view e) d.is_core
    (name_of c.args.namenode.now) c.in-Ok-Recover.failed c.in-Ok-Recover.replay c.args.self.now.length c.args.unsent c.requires.few.1
    c.with_length-plan.result r.0 r.1 c.with_length-plan.ensures error (see view n)
    (gave view (view_same view proxy proxy a m (same_service_refl proxy) (e.writes.only.later.namenodes ∙ d.drove.on.only.later.namenodes) has)))
    c.rebuild.ensures.err

pub returns-in-Ok-Recover-clause-ok : goal.returns-in-Ok-Recover-clause-ok
returns-in-Ok-Recover-clause-ok g c =
    let d = c.in-Ok-Recover.ensures.drove in
    let proxy = proxy_of c.args.namenode.now in
    let a = g.C.Cluster.shown c.args.cluster.now in
    let z = g.C.Cluster.shown d.before in
    let m = g.C.Cluster.shown c.drive_end.new.cluster in
    let n = g.C.Cluster.shown c.rebuild.new.cluster in
    let e = g.met.C.Cluster.ends_row d.before c.drive_end.new.cluster c.args.pipe.link d.ended in
    let r = recovers_is d.last c.in-Ok-Recover.field-0 c.in-Ok-Recover.failed c.in-Ok-Recover.replay d.is_core d.has_ended d.is c.in-Ok-Recover.field-0-is in
    let task = task_of c.args.self.now.settings (name_of c.args.namenode.now) c.in-Ok-Recover.replay c.args.unsent in
    ok_by
    (λ pipe. Seen g.C.Cluster.shown (through c.args.namenode.now c.drive_end.new.cluster) c.rebuild.new.cluster
    (λ (s t : Shown). RebuiltAfter task (standing c.with_length-plan.result c.in-Ok-Recover.failed s) pipe t))
    (λ pipe. Seen g.C.Cluster.shown (through c.args.namenode.now c.args.cluster.now) c.rebuild.new.cluster
    (λ (s t : Shown). RebuildsEnded c.args.self.now.settings s c.args.pipe t pipe)) c.rebuild.result
    (λ pipe rebuilt view has.
    ended_rebuilt c.args.self.now.settings c.args.pipe (see view a) (see view z) (see view m) d.last (standing_seen view c.requires.may.standing)
    c.requires.ended.0 (drove_seen view d.drove) (ended_seen view e) d.is_core
    (name_of c.args.namenode.now) c.in-Ok-Recover.failed c.in-Ok-Recover.replay c.args.self.now.length c.args.unsent c.requires.few.1
    c.with_length-plan.result r.0 r.1 c.with_length-plan.ensures pipe (see view n)
    (rebuilt view (view_same view proxy proxy a m (same_service_refl proxy) (e.writes.only.later.namenodes ∙ d.drove.on.only.later.namenodes) has)))
    c.rebuild.ensures.ok

pub returns-in-Ok-Bad-clause-err : goal.returns-in-Ok-Bad-clause-err
returns-in-Ok-Bad-clause-err g c view has =
    let d = c.in-Ok-Bad.ensures.drove in
    let z = g.C.Cluster.shown d.before in
    let m = g.C.Cluster.shown c.drive_end.new.cluster in
    ended_bad c.args.self.now.settings c.args.pipe (see view (g.C.Cluster.shown c.args.cluster.now)) (see view z) (see view m) d.last
    (standing_seen view c.requires.may.standing) c.requires.ended.0 (drove_seen view d.drove)
    (ended_seen view (g.met.C.Cluster.ends_row d.before c.drive_end.new.cluster c.args.pipe.link d.ended)) d.is_core c.in-Ok-Bad.seqno _
    (bad_is d.last c.in-Ok-Bad.field-0 c.in-Ok-Bad.seqno d.has_ended d.is c.in-Ok-Bad.field-0-is)

pub rebuild-requires-clause-allowed : goal.rebuild-requires-clause-allowed
rebuild-requires-clause-allowed g c =
    lets_lengthened c.args.pipe.plan c.with_length-plan.result c.args.self.now.length c.with_length-plan.ensures c.requires.may.allowed

pub returns-in-Ok-Recover-clause-answered : goal.returns-in-Ok-Recover-clause-answered
returns-in-Ok-Recover-clause-answered g c =
    let client = name_of c.args.namenode.now in
    ok_by (λ pipe. StaysAnswered g.C.Cluster.may_answer client c.with_length-plan.result pipe.plan)
    (λ pipe. StaysAnswered g.C.Cluster.may_answer client c.args.pipe.plan pipe.plan) c.rebuild.result
    (λ pipe stays. stays_from c.args.pipe.plan c.with_length-plan.result pipe.plan c.args.self.now.length c.with_length-plan.ensures stays)
    c.rebuild.ensures.answered
