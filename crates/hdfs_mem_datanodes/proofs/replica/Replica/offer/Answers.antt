-- The piece that is offered is the last one.
use Rattle.std.proofs.Common.{List, [], ◌∷◌, ◌++◌, take, ◌∙◌, ap}
use Rattle.hdfs_mem_datanodes.specs.declared.replica.Piece.{Piece}
use Rattle.hdfs_mem_datanodes.specs.Pieces.{put_pieces}
use Rattle.hdfs_mem_datanodes.proofs.Pieces.{put_pieces-push}
use Rattle.hdfs_mem_datanodes.proofs.replica.Replica.offer.Goals as goal

pub returns-clause-offered : goal.returns-clause-offered
returns-clause-offered c =
    let old = c.args.self.now in
    ap (put_pieces old.base) (c.in_ok-push.ensures.items ∙ ap (λ (pieces : List Piece). pieces ++ c.args.piece ∷ []) c.truncate.ensures.items)
    ∙ put_pieces-push old.base (take old.taken old.pieces.items) c.args.piece
