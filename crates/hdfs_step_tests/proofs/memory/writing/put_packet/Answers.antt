-- A packet that was sent waits, and its acknowledgement leaves the end where it is.
use Rattle.std.proofs.Common.{◌∷◌, [], arith, length-append}
use Rattle.hdfs_cluster.specs.Sending.{seqno_of}
use Rattle.hdfs_step_tests.proofs.memory.writing.put_packet.Goals as goal

pub ack-requires : goal.ack-requires
ack-requires c =
    let waiting = c.requires.0.waiting in
    (_, c.in_ok-send.ensures.ok.now c.requires.0 c.requires.1, omega (arith, length-append waiting (seqno_of c.args.packet.now ∷ [])))

pub returns : goal.returns
returns c =
    let after = c.in_ok-ack.ensures.ok.now _ (c.in_ok-send.ensures.ok.now c.requires.0 c.requires.1) in
    (after.0, after.1, after.3)
