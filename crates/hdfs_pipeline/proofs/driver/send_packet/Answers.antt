-- The goals of send_packet.
use Rattle.std.proofs.Common.{◌∷◌, ◌++◌, [], Some, sym, ◌∙◌, ap, subst, refl}
use Rattle.std.specs.Option.{option_copied}
use Rattle.hdfs_wire.specs.Outgoing.{Outgoing}
use Rattle.hdfs_cluster.specs.declared.asks.LinkFault.{LinkFault}
use Rattle.hdfs_cluster.specs.declared.asks.LinkFault.TheVariants as faults
use Rattle.hdfs_cluster.specs.Pipes.{Sent, NotSent}
use Rattle.hdfs_cluster.specs.Sending.{end_of, seqno_of}
use Rattle.hdfs_pipeline.specs.Pipelines.{Pipeline}
use Rattle.hdfs_pipeline.specs.Driving.{Drove}
use Rattle.hdfs_pipeline.proofs.Driving.{sent_drove, unsent_drove}
use Rattle.hdfs_pipeline.proofs.DrivingOn.{some_same, in_hand, wrote_is, unsent_is, send_stops}
use Rattle.hdfs_pipeline.proofs.Happening.{sent_happened, unsent_happened}
use Rattle.hdfs_pipeline.proofs.driver.send_packet.Goals as goal

pub returns-in-Ok-send-clause-drove : goal.returns-in-Ok-send-clause-drove
returns-in-Ok-send-clause-drove g c =
    let core = c.args.core.now in
    let a = g.C.Cluster.shown c.args.cluster.now in
    let b = g.C.Cluster.shown c.send.new.self in
    let step = c.requires.going.drives.2 c.requires.going.going in
    let hand = in_hand core c.push.new.self c.take.new.self c.wrote.new.self c.args.packet c.requires.going.drives.0 c.requires.going.is_core.forgets c.requires.going.going step c.requires.room c.in-Ok.ensures.follows c.take.ensures.follows in
    let same = some_same c.in-Some.hand.now c.args.packet (ap option_copied (sym c.in-Some.is) ∙ c.hand.ensures.is ∙ hand) in
    subst (λ (p : Pipeline). Drove c.args.link (c.args.packet ∷ []) core a p b) (sym (wrote_is core c.push.new.self c.take.new.self c.wrote.new.self c.args.packet c.requires.going.drives.0 c.requires.going.is_core.forgets c.requires.going.going step c.requires.room c.in-Ok.ensures.follows c.take.ensures.follows c.wrote.ensures))
    (sent_drove c.args.link core a b c.requires.going.drives c.requires.going.going c.args.packet (subst (λ (packet : Outgoing). Sent a c.args.link packet b) same c.in-Ok-send.ensures.ok))

pub returns-in-Ok-send-clause-sent : goal.returns-in-Ok-send-clause-sent
returns-in-Ok-send-clause-sent g c = λ going.
    let core = c.args.core.now in
    let a = g.C.Cluster.shown c.args.cluster.now in
    let b = g.C.Cluster.shown c.send.new.self in
    let step = c.requires.going.drives.2 c.requires.going.going in
    let hand = in_hand core c.push.new.self c.take.new.self c.wrote.new.self c.args.packet c.requires.going.drives.0 c.requires.going.is_core.forgets c.requires.going.going step c.requires.room c.in-Ok.ensures.follows c.take.ensures.follows in
    let same = some_same c.in-Some.hand.now c.args.packet (ap option_copied (sym c.in-Some.is) ∙ c.hand.ensures.is ∙ hand) in
    let sent : Sent a c.args.link c.args.packet b = subst (λ (packet : Outgoing). Sent a c.args.link packet b) same c.in-Ok-send.ensures.ok in
    let write = c.requires.going.drives.0 in
    (record { setup = write.setup; end = Some (end_of c.args.packet); waiting = write.waiting ++ seqno_of c.args.packet ∷ [] }, sent.now write c.requires.going.drives.1, refl)

pub returns-in-Err-NoMemory-clause-err : goal.returns-in-Err-NoMemory-clause-err
returns-in-Err-NoMemory-clause-err g c =
    let core = c.args.core.now in
    let a = g.C.Cluster.shown c.args.cluster.now in
    let b = g.C.Cluster.shown c.send.new.self in
    let step = c.requires.going.drives.2 c.requires.going.going in
    let hand = in_hand core c.push.new.self c.take.new.self c.take.new.self c.args.packet c.requires.going.drives.0 c.requires.going.is_core.forgets c.requires.going.going step c.requires.room c.in-Ok.ensures.follows c.take.ensures.follows in
    let same = some_same c.in-Some.hand.now c.args.packet (ap option_copied (sym c.in-Some.is) ∙ c.hand.ensures.is ∙ hand) in
    let wanting : NotSent a c.args.link c.in-Some.hand.now faults.NoMemory b = subst (λ (fault : LinkFault). NotSent a c.args.link c.in-Some.hand.now fault b) c.in-Err-NoMemory.field-0-is c.in-Err-NoMemory.ensures.err in
    send_stops c.args.link core a b c.args.packet (subst (λ (packet : Outgoing). NotSent a c.args.link packet faults.NoMemory b) same wanting)

pub returns-in-Err-Broken-clause-drove : goal.returns-in-Err-Broken-clause-drove
returns-in-Err-Broken-clause-drove g c =
    let core = c.args.core.now in
    let a = g.C.Cluster.shown c.args.cluster.now in
    let b = g.C.Cluster.shown c.send.new.self in
    let step = c.requires.going.drives.2 c.requires.going.going in
    let hand = in_hand core c.push.new.self c.take.new.self c.write_failed.new.self c.args.packet c.requires.going.drives.0 c.requires.going.is_core.forgets c.requires.going.going step c.requires.room c.in-Ok.ensures.follows c.take.ensures.follows in
    let same = some_same c.in-Some.hand.now c.args.packet (ap option_copied (sym c.in-Some.is) ∙ c.hand.ensures.is ∙ hand) in
    let broken : NotSent a c.args.link c.in-Some.hand.now faults.Broken b = subst (λ (fault : LinkFault). NotSent a c.args.link c.in-Some.hand.now fault b) c.in-Err-Broken.field-0-is c.in-Err-Broken.ensures.err in
    subst (λ (p : Pipeline). Drove c.args.link (c.args.packet ∷ []) core a p b) (sym (unsent_is core c.push.new.self c.take.new.self c.write_failed.new.self c.args.packet c.requires.going.drives.0 c.requires.going.is_core.forgets c.requires.going.going step c.requires.room c.in-Ok.ensures.follows c.take.ensures.follows c.write_failed.ensures))
    (unsent_drove c.args.link core a b c.requires.going.drives c.requires.going.going c.args.packet (subst (λ (packet : Outgoing). NotSent a c.args.link packet faults.Broken b) same broken))

pub returns-in-Ok-send-clause-happened : goal.returns-in-Ok-send-clause-happened
returns-in-Ok-send-clause-happened g c =
    let core = c.args.core.now in
    let a = g.C.Cluster.shown c.args.cluster.now in
    let b = g.C.Cluster.shown c.send.new.self in
    let step = c.requires.going.drives.2 c.requires.going.going in
    let hand = in_hand core c.push.new.self c.take.new.self c.wrote.new.self c.args.packet c.requires.going.drives.0 c.requires.going.is_core.forgets c.requires.going.going step c.requires.room c.in-Ok.ensures.follows c.take.ensures.follows in
    let same = some_same c.in-Some.hand.now c.args.packet (ap option_copied (sym c.in-Some.is) ∙ c.hand.ensures.is ∙ hand) in
    sent_happened c.args.link core c.push.new.self c.take.new.self c.wrote.new.self a b c.args.packet (subst (λ (packet : Outgoing). Sent a c.args.link packet b) same c.in-Ok-send.ensures.ok) c.in-Ok.ensures.follows c.take.ensures.follows c.wrote.ensures

pub returns-in-Err-Broken-clause-happened : goal.returns-in-Err-Broken-clause-happened
returns-in-Err-Broken-clause-happened g c =
    let a = g.C.Cluster.shown c.args.cluster.now in
    let b = g.C.Cluster.shown c.send.new.self in
    unsent_happened c.args.link c.args.core.now c.push.new.self c.take.new.self c.write_failed.new.self a b c.args.packet c.in-Some.hand.now
    (subst (λ (fault : LinkFault). NotSent a c.args.link c.in-Some.hand.now fault b) c.in-Err-Broken.field-0-is c.in-Err-Broken.ensures.err) c.in-Ok.ensures.follows c.take.ensures.follows c.write_failed.ensures

pub returns-in-Ok-send-clause-behind : goal.returns-in-Ok-send-clause-behind
returns-in-Ok-send-clause-behind g c =
    let core = c.args.core.now in
    let step = c.requires.going.drives.2 c.requires.going.going in
    ap (λ (p : Pipeline). p.pushed) (wrote_is core c.push.new.self c.take.new.self c.wrote.new.self c.args.packet c.requires.going.drives.0 c.requires.going.is_core.forgets c.requires.going.going step c.requires.room c.in-Ok.ensures.follows c.take.ensures.follows c.wrote.ensures)

pub returns-in-Err-Broken-clause-behind : goal.returns-in-Err-Broken-clause-behind
returns-in-Err-Broken-clause-behind g c =
    let core = c.args.core.now in
    let step = c.requires.going.drives.2 c.requires.going.going in
    ap (λ (p : Pipeline). p.pushed) (unsent_is core c.push.new.self c.take.new.self c.write_failed.new.self c.args.packet c.requires.going.drives.0 c.requires.going.is_core.forgets c.requires.going.going step c.requires.room c.in-Ok.ensures.follows c.take.ensures.follows c.write_failed.ensures)
