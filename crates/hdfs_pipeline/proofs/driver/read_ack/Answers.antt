-- The goals of read_ack.
use Rattle.std.proofs.Common.{[], sym, ◌∙◌, subst, arith}
use Rattle.hdfs_cluster.specs.declared.asks.LinkFault.{LinkFault}
use Rattle.hdfs_cluster.specs.Pipes.{NotAcknowledged}
use Rattle.hdfs_pipeline.specs.declared.event.Event.TheVariants.{Acked}
use Rattle.hdfs_pipeline.specs.Pipelines.{Pipeline}
use Rattle.hdfs_pipeline.specs.Cores.{next_of}
use Rattle.hdfs_pipeline.specs.Driving.{Drove}
use Rattle.hdfs_pipeline.proofs.Acknowledging.{acks}
use Rattle.hdfs_pipeline.proofs.Driving.{acked_drove, broke_drove}
use Rattle.hdfs_pipeline.proofs.Rows.{fails_to_ack}
use Rattle.hdfs_pipeline.proofs.DrivingOn.{ack_stops}
use Rattle.hdfs_pipeline.proofs.Happening.{acked_happened, broke_happened}
use Rattle.hdfs_pipeline.proofs.driver.read_ack.Goals as goal

pub returns-in-Ok-clause-drove : goal.returns-in-Ok-clause-drove
returns-in-Ok-clause-drove g c =
    let core = c.args.core.now in
    let going = c.requires.going.going in
    let step = c.requires.going.drives.2 going in
    subst (λ (p : Pipeline). Drove c.args.link [] core (g.C.Cluster.shown c.args.cluster.now) p (g.C.Cluster.shown c.ack.new.self)) (sym c.acked.ensures.follows.next)
    (acked_drove c.args.link core (g.C.Cluster.shown c.args.cluster.now) (g.C.Cluster.shown c.ack.new.self) c.in-Ok.ack c.requires.going.drives going c.in-Ok.ensures.ok (next_of core (Acked c.in-Ok.ack))
    (acks core c.in-Ok.ack going c.requires.going.is_core.forgets step.heartbeats (omega (arith, step.sent, c.requires.some))))

pub returns-in-Err-Broken-clause-drove : goal.returns-in-Err-Broken-clause-drove
returns-in-Err-Broken-clause-drove g c =
    let core = c.args.core.now in
    let going = c.requires.going.going in
    subst (λ (p : Pipeline). Drove c.args.link [] core (g.C.Cluster.shown c.args.cluster.now) p (g.C.Cluster.shown c.ack.new.self)) (sym (c.ack_failed.ensures.next ∙ sym (fails_to_ack core c.requires.going.is_core.forgets going).next))
    (broke_drove c.args.link core (g.C.Cluster.shown c.args.cluster.now) (g.C.Cluster.shown c.ack.new.self) c.requires.going.drives going
    (subst (λ (fault : LinkFault). NotAcknowledged (g.C.Cluster.shown c.args.cluster.now) c.args.link fault (g.C.Cluster.shown c.ack.new.self)) c.in-Err-Broken.field-0-is c.in-Err-Broken.ensures.err))

pub returns-in-Ok-clause-happened : goal.returns-in-Ok-clause-happened
returns-in-Ok-clause-happened g c =
    acked_happened c.args.link c.args.core.now c.acked.new.self (g.C.Cluster.shown c.args.cluster.now) (g.C.Cluster.shown c.ack.new.self) c.in-Ok.ack c.in-Ok.ensures.ok c.acked.ensures.follows

pub returns-in-Err-Broken-clause-happened : goal.returns-in-Err-Broken-clause-happened
returns-in-Err-Broken-clause-happened g c =
    broke_happened c.args.link c.args.core.now c.ack_failed.new.self (g.C.Cluster.shown c.args.cluster.now) (g.C.Cluster.shown c.ack.new.self)
    (subst (λ (fault : LinkFault). NotAcknowledged (g.C.Cluster.shown c.args.cluster.now) c.args.link fault (g.C.Cluster.shown c.ack.new.self)) c.in-Err-Broken.field-0-is c.in-Err-Broken.ensures.err) c.ack_failed.ensures

pub returns-in-Err-NoMemory-clause-err : goal.returns-in-Err-NoMemory-clause-err
returns-in-Err-NoMemory-clause-err g c =
    ack_stops c.args.link c.args.core.now (g.C.Cluster.shown c.args.cluster.now) (g.C.Cluster.shown c.ack.new.self)
    (subst (λ (fault : LinkFault). NotAcknowledged (g.C.Cluster.shown c.args.cluster.now) c.args.link fault (g.C.Cluster.shown c.ack.new.self)) c.in-Err-NoMemory.field-0-is c.in-Err-NoMemory.ensures.err)
