-- The goals of BlockWriter::flush.
use Rattle.std.proofs.Common.{rules, ◌≡◌, ◌+◌, Some, None, length, arith, ap, refl}
use Rattle.std.proofs.lemmas.Result.{err_from_is_err_and}
use Rattle.hdfs_namenode.specs.Clients.{proxy_of}
use Rattle.hdfs_namenode.specs.Views.{see, view_of}
use Rattle.hdfs_block_writer.specs.Packing.{filling_of}
use Rattle.hdfs_block_writer.proofs.Allowed.{goes_by, goes_same}
use Rattle.hdfs_block_writer.proofs.Seeing.{holds_shown, over_seen}
use Rattle.hdfs_block_writer.proofs.Sent.{can_push, holds_same, holds_sent, not_pushed, stays_full, wrote_sent}
use Rattle.hdfs_block_writer.proofs.block_writer.BlockWriter.flush.Goals as goal

pub returns-in_default-clause-holds : goal.returns-in_default-clause-holds
returns-in_default-clause-holds g c =
    let same : c.args.self.now.packet ≡ c.take.new.self = search rules in (
      holds_same (g.C.Cluster.shown c.args.cluster.now) c.args.self.now c.take.new.self same c.requires.holds,
      c.take.ensures.after,
    )

pub returns-in_default-clause-full : goal.returns-in_default-clause-full
returns-in_default-clause-full g c = λ one two packet is_one is_two is_packet.
    let none : c.args.self.now.packet ≡ None = search rules in
    absurd (cc (none, is_packet))

pub push-requires-clause-can : goal.push-requires-clause-can
push-requires-clause-can g c =
    let w = c.args.self.now in
    let piped : w.pipe ≡ Some c.in-Some-take.pipe = search rules in
    let is : w.packet ≡ Some c.in-Some.packet = search rules in
    let held = c.requires.holds c.in-Some-take.pipe piped in
    let filling = held.0.packet c.in-Some.packet is in
    can_push (g.C.Cluster.shown c.args.cluster.now) w c.in-Some-take.pipe c.in-Some.packet held.0 held.1 filling.next.begins
    (omega (arith, held.0.filled, ap (λ o. length (filling_of o)) is))

pub overflow_add-self : goal.overflow_add-self
overflow_add-self g c =
    let piped : c.args.self.now.pipe ≡ Some c.in-Some-take.pipe = search rules in
    let kept = (c.requires.holds c.in-Some-take.pipe piped).0 in
    omega (arith, kept.counted, kept.within.0, kept.within.1)

pub returns-clause-holds : goal.returns-clause-holds
returns-clause-holds g c =
    let w = c.args.self.now in
    let w' = record w { pipe = c.replace.new.self; packet = c.take.new.self; seqno = w.seqno + 1 } in
    let view = view_of (proxy_of c.args.namenode.now) in
    let piped : w.pipe ≡ Some c.in-Some-take.pipe = search rules in
    let is : w.packet ≡ Some c.in-Some.packet = search rules in
    let held = c.requires.holds c.in-Some-take.pipe piped in (
      holds_shown view (g.C.Cluster.shown c.push.new.cluster) w'
          (holds_sent w w' c.in-Some-take.pipe c.in_ok-pipe.pipe c.in-Some.packet (see view (g.C.Cluster.shown c.args.cluster.now))
          (see view (g.C.Cluster.shown c.push.new.cluster)) held.0 (over_seen view held.1) is (c.in_ok-pipe.ensures.ok view (refl, refl))
          (record { settings = refl; block_size = refl; chunk = refl; packet_size = refl }) refl refl c.take.ensures.after c.replace.ensures.after),
      c.take.ensures.after,
    )

pub returns-clause-full : goal.returns-clause-full
returns-clause-full g c =
    let w = c.args.self.now in
    let view = view_of (proxy_of c.args.namenode.now) in
    let piped : w.pipe ≡ Some c.in-Some-take.pipe = search rules in
    let is : w.packet ≡ Some c.in-Some.packet = search rules in
    let held = c.requires.holds c.in-Some-take.pipe piped in
    stays_full w (record w { pipe = c.replace.new.self; packet = c.take.new.self; seqno = w.seqno + 1 }) c.in-Some-take.pipe c.in_ok-pipe.pipe
    c.in-Some.packet (see view (g.C.Cluster.shown c.args.cluster.now)) (see view (g.C.Cluster.shown c.push.new.cluster)) held.0
    (over_seen view held.1) is (c.in_ok-pipe.ensures.ok view (refl, refl))
    (record { settings = refl; block_size = refl; chunk = refl; packet_size = refl }) refl refl c.take.ensures.after c.replace.ensures.after piped

pub returns-clause-wrote : goal.returns-clause-wrote
returns-clause-wrote g c view has =
    let w = c.args.self.now in
    let piped : w.pipe ≡ Some c.in-Some-take.pipe = search rules in
    let is : w.packet ≡ Some c.in-Some.packet = search rules in
    let held = c.requires.holds c.in-Some-take.pipe piped in
    wrote_sent w (record w { pipe = c.replace.new.self; packet = c.take.new.self; seqno = w.seqno + 1 }) c.in-Some-take.pipe c.in_ok-pipe.pipe
    c.in-Some.packet (see view (g.C.Cluster.shown c.args.cluster.now)) (see view (g.C.Cluster.shown c.push.new.cluster)) held.0
    (over_seen view held.1) is (c.in_ok-pipe.ensures.ok view has)
    (record { settings = refl; block_size = refl; chunk = refl; packet_size = refl }) refl refl c.take.ensures.after c.replace.ensures.after piped

pub returns-in_err-pipe-clause-err : goal.returns-in_err-pipe-clause-err
returns-in_err-pipe-clause-err g c =
    let p = err_from_is_err_and c.from_residual.result c.from_residual.ensures.1 in
    let w = c.args.self.now in
    let piped : w.pipe ≡ Some c.in-Some-take.pipe = search rules in
    let is : w.packet ≡ Some c.in-Some.packet = search rules in
    let held = c.requires.holds c.in-Some-take.pipe piped in
    rw (p.1, p.2) (λ view has. record {
      failed = c.take-2.ensures.after;
      keeps = record { settings = refl; block_size = refl; chunk = refl; packet_size = refl };
      gave_up = not_pushed w c.in-Some-take.pipe c.in-Some.packet piped held.0.filled (omega (arith, held.1.starts))
          (ap filling_of is) (held.0.packet c.in-Some.packet is).next.begins
          (see view (g.C.Cluster.shown c.args.cluster.now)) (see view (g.C.Cluster.shown c.push.new.cluster)) c.in_err-pipe.field-0.0
          (c.in_err-pipe.ensures.err view has);
    })

pub returns-in_default-clause-answered : goal.returns-in_default-clause-answered
returns-in_default-clause-answered g c = goes_same c.args.self.now (record c.args.self.now { packet = c.take.new.self }) refl

pub returns-clause-answered : goal.returns-clause-answered
returns-clause-answered g c =
    let w = c.args.self.now in
    let piped : w.pipe ≡ Some c.in-Some-take.pipe = search rules in
    goes_by w (record w { pipe = c.replace.new.self; packet = c.take.new.self; seqno = w.seqno + 1 }) c.in-Some-take.pipe c.in_ok-pipe.pipe piped
    c.replace.ensures.after c.in_ok-pipe.ensures.answered
