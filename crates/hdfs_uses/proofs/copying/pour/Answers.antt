-- The stream is over before the new file is closed.
use Rattle.std.proofs.Common.{sym, subst}
use Rattle.hdfs_client.specs.Readers.{ReadsBy}
use Rattle.hdfs_client.specs.declared.file_reader.FileReader.{FileReader}
use Rattle.hdfs_client.proofs.Leave.{lets_close}
use Rattle.hdfs_uses.proofs.Keeping.{none_of, others_refl, others_trans}
use Rattle.hdfs_uses.proofs.Pouring.{fills_by}
use Rattle.hdfs_uses.proofs.Whole.{closed_whole}
use Rattle.hdfs_uses.proofs.copying.pour.Goals as goal

pub returns-in_err-pieces-clause-stands : goal.returns-in_err-pieces-clause-stands
returns-in_err-pieces-clause-stands g c = λ file is. (c.requires.writer.0.0 file is).2

pub returns-in_err-pieces-clause-others : goal.returns-in_err-pieces-clause-others
returns-in_err-pieces-clause-others g c = others_refl c.args.client.now (g.C.Cluster.shown c.args.cluster.now) c.args.writer.now

pub pour_pieces-poured-requires-clause-pieces : goal.pour_pieces-poured-requires-clause-pieces
pour_pieces-poured-requires-clause-pieces g c =
    let of = c.in_ok-pieces.ensures.ok in
    (of.stands, subst (λ (reader : FileReader). ReadsBy c.args.client.now reader) (sym of.its_reader) c.requires.reader.1, of.fresh)

pub returns-in_err-poured-clause-stands : goal.returns-in_err-poured-clause-stands
returns-in_err-poured-clause-stands g c = λ file is. (c.pour_pieces-poured.ensures.writer.0.0 file is).2

pub close-requires-2-clause-allowed : goal.close-requires-2-clause-allowed
close-requires-2-clause-allowed g c = λ file is.
    let at = c.pour_pieces-poured.ensures.writer.0.0 file is in
    (at.0, at.1, lets_close g.C.Cluster.may_answer _ _ _ c.requires.all)

pub returns-in_err-close-clause-stands : goal.returns-in_err-close-clause-stands
returns-in_err-close-clause-stands g c = λ file is. absurd (none_of is c.in_err-close.ensures.shut.0)

pub returns-in_err-close-clause-others : goal.returns-in_err-close-clause-others
returns-in_err-close-clause-others g c = others_trans c.pour_pieces-poured.ensures.others c.in_err-close.ensures.others

pub returns-clause-fills : goal.returns-clause-fills
returns-clause-fills g c = (
  c.in_ok-close.ensures.shut.0,
  fills_by c.args.reader.now c.args.client.now _ (g.C.Cluster.shown c.args.cluster.now) _ _ c.in_ok-pieces.pieces _ c.args.writer.now _ c.file_length.result c.file_length.ensures c.in_ok-pieces.ensures.ok
      c.in_ok-poured.ensures.pours
      (closed_whole g.C.Cluster.shown c.pour_pieces-poured.new.client c.pour_pieces-poured.new.cluster c.close-2.new.cluster c.pour_pieces-poured.new.writer c.pour_pieces-poured.ensures.writer.0.1
      c.in_ok-close.ensures.closed),
)

pub returns-clause-stands : goal.returns-clause-stands
returns-clause-stands g c = λ file is. absurd (none_of is c.in_ok-close.ensures.shut.0)

pub returns-clause-others : goal.returns-clause-others
returns-clause-others g c = others_trans c.pour_pieces-poured.ensures.others c.in_ok-close.ensures.others
