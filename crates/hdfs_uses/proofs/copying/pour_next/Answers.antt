-- A piece is read, and then written.
use Rattle.hdfs_client.specs.Streams.{reader_of}
use Rattle.hdfs_uses.proofs.Keeping.{files_others}
use Rattle.hdfs_uses.proofs.Pouring.{pours_one}
use Rattle.hdfs_uses.proofs.copying.pour_next.Goals as goal

pub next-requires-clause-blocks : goal.next-requires-clause-blocks
next-requires-clause-blocks g c = λ k default low end j ask is. c.requires.all _

pub pour_piece-requires-clause-writer : goal.pour_piece-requires-clause-writer
pour_piece-requires-clause-writer g c =
    let files = c.in-Some.ensures.files in (
      (files.stand c.args.writer.now c.requires.writer.0.0, files.wholes c.args.writer.now c.requires.writer.0.1),
      files.answered c.args.writer.now c.requires.writer.1,
    )

pub returns-in-Some-clause-pours : goal.returns-in-Some-clause-pours
returns-in-Some-clause-pours g c =
    pours_one c.args.client.now _ (g.C.Cluster.shown c.args.cluster.now) _ _ c.args.pieces.now _ c.args.writer.now _ c.in-Some.piece c.pour_piece.result
    (c.in-Some.ensures.gives c.requires.pieces.2) c.pour_piece.ensures.wrote

pub returns-in-Some-clause-stands : goal.returns-in-Some-clause-stands
returns-in-Some-clause-stands g c = (c.in-Some.ensures.stands.0, c.pour_piece.ensures.readers (reader_of c.next.new.self) c.in-Some.ensures.stands.1)

pub returns-in-Some-clause-others : goal.returns-in-Some-clause-others
returns-in-Some-clause-others g c = files_others c.in-Some.ensures.files c.pour_piece.ensures.others
