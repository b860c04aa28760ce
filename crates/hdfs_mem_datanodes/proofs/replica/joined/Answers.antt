-- One piece more is put over the bytes.
use Rattle.std.proofs.Common.{◌≡◌, ◌+◌, ℕ, List, [], ◌∷◌, ◌++◌, take, sym, ◌∙◌, ap, arith}
use Rattle.std.proofs.lemmas.List.{take_more}
use Rattle.hdfs_cluster.specs.Sending.{put}
use Rattle.hdfs_mem_datanodes.specs.declared.replica.Piece.{Piece}
use Rattle.hdfs_mem_datanodes.specs.Pieces.{put_pieces}
use Rattle.hdfs_mem_datanodes.proofs.Pieces.{put_pieces-push}
use Rattle.hdfs_mem_datanodes.proofs.replica.joined.Goals as goal

pub loop-piece-preserved : goal.loop-piece-preserved
loop-piece-preserved c =
    let pieces = c.args.pieces.now in
    let i = c.loop-piece.piece-index in
    let piece = c.piece-item.result in
    let more : take (i + 1) pieces ≡ take i pieces ++ piece ∷ [] = take_more pieces i piece (omega arith) ∙ ap (λ (p : Piece). take i pieces ++ p ∷ []) (sym c.piece-item.is) in
    c.in_ok-put_over.ensures
    ∙ ap (λ (bytes : List ℕ). put bytes piece.at piece.bytes) c.loop-piece.invariant
    ∙ sym (put_pieces-push c.args.base.now (take i pieces) piece)
    ∙ ap (put_pieces c.args.base.now) (sym more)
