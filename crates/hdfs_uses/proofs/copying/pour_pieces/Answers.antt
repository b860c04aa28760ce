-- Piece by piece.
use Rattle.std.proofs.Common.{refl, sym, ◌∙◌, ap}
use Rattle.hdfs_client.specs.Streams.{is_ended}
use Rattle.hdfs_uses.proofs.Keeping.{others_refl, others_trans}
use Rattle.hdfs_uses.proofs.Pouring.{on_by, poured_all, poured_more, poured_none}
use Rattle.hdfs_uses.proofs.copying.pour_pieces.Goals as goal

pub turns-init : goal.turns-init
turns-init g c = record {
  client = c.requires.client;
  streams = c.requires.pieces.0;
  reads = c.requires.pieces.1;
  ended = c.requires.pieces.2;
  writer = c.requires.writer.0;
  answered = c.requires.writer.1;
  mounts = refl;
  others = others_refl c.args.client.now (g.C.Cluster.shown c.args.cluster.now) c.args.writer.now;
  poured = poured_none c.args.client.now (g.C.Cluster.shown c.args.cluster.now) c.args.pieces.now c.args.writer.now;
}

pub turns-preserved : goal.turns-preserved
turns-preserved g c =
    let one = c.in_ok-pour_next.ensures.pours in
    record {
      client = c.in_ok-pour_next.ensures.client;
      streams = c.in_ok-pour_next.ensures.stands.0;
      reads = c.in_ok-pour_next.ensures.stands.1;
      ended = ap is_ended (on_by one.gives) ∙ c.turns.invariant.ended;
      writer = c.in_ok-pour_next.ensures.writer.0;
      answered = c.in_ok-pour_next.ensures.writer.1;
      mounts = c.in_ok-pour_next.ensures.mounts ∙ c.turns.invariant.mounts;
      others = others_trans c.turns.invariant.others c.in_ok-pour_next.ensures.others;
      poured = poured_more c.turns.invariant.poured one;
    }

pub returns-in_err-pour_next-clause-others : goal.returns-in_err-pour_next-clause-others
returns-in_err-pour_next-clause-others g c = others_trans c.turns.invariant.others c.in_err-pour_next.ensures.others

pub returns-clause-pours : goal.returns-clause-pours
returns-clause-pours g c = poured_all c.turns.invariant.poured c.turns.invariant.ended (sym c.is_over.ensures ∙ c.turns-test.false)
