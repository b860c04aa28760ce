-- One piece more over bytes.
use Rattle.std.proofs.Common.{◌≡◌, ℕ, List, [], ◌∷◌, ◌++◌, refl}
use Rattle.hdfs_cluster.specs.Sending.{put}
use Rattle.hdfs_mem_datanodes.specs.declared.replica.Piece.{Piece}
use Rattle.hdfs_mem_datanodes.specs.Pieces.{put_pieces}

-- the last piece is put over all that is there before
pub put_pieces-push : (bytes : List ℕ) (pieces : List Piece) (piece : Piece) → put_pieces bytes (pieces ++ piece ∷ []) ≡ put (put_pieces bytes pieces) piece.at piece.bytes
put_pieces-push bytes [] piece = refl
put_pieces-push bytes (first ∷ pieces) piece = put_pieces-push (put bytes first.at first.bytes) pieces piece
