-- The goals of BlockWriter::flush_full.
use Rattle.std.proofs.Common.{refl, sym, ◌∙◌}
use Rattle.std.proofs.lemmas.Bool.{false≢true}
use Rattle.hdfs_block_writer.proofs.Allowed.{goes_same}
use Rattle.hdfs_block_writer.proofs.Sent.{pipe_of, stands_empty, stands_from}
use Rattle.hdfs_block_writer.proofs.block_writer.BlockWriter.flush_full.Goals as goal

pub returns-clause-stands : goal.returns-clause-stands
returns-clause-stands g c =
    stands_empty (g.C.Cluster.shown c.flush.new.cluster) c.flush.new.self c.in_ok-flush.ensures.holds.0
    (λ pipe' is'. (let packet = c.has_full_packet.ensures.0 c.if-not-has_full_packet.false in
    let pipe = pipe_of c.args.self.now c.requires.may.is_open in
    c.in_ok-flush.ensures.full pipe.0 pipe' packet.0 pipe.1 is' packet.1 packet.2 (c.requires.full pipe.0 pipe.1)))
    c.in_ok-flush.ensures.holds.1

pub returns-then-not-has_full_packet-clause-stands : goal.returns-then-not-has_full_packet-clause-stands
returns-then-not-has_full_packet-clause-stands g c =
    stands_from (g.C.Cluster.shown c.args.cluster.now) c.args.self.now c.requires.may.holds c.requires.full
    (λ packet is full. false≢true (sym c.if-not-has_full_packet.true ∙ c.has_full_packet.ensures.1 (packet, is, full)))

pub returns-then-not-has_full_packet-clause-answered : goal.returns-then-not-has_full_packet-clause-answered
returns-then-not-has_full_packet-clause-answered g c = goes_same c.args.self.now c.args.self.now refl
