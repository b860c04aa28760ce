-- Bytes with pieces over them.
use Rattle.std.specs.Prelude.{ℕ, List, [], ◌∷◌}
use Rattle.hdfs_cluster.specs.Sending.{put}
use Rattle.hdfs_mem_datanodes.specs.declared.replica.Piece.{Piece}

-- bytes with pieces over them, one after another
abbrev pub put_pieces : List ℕ → List Piece → List ℕ
put_pieces bytes [] = bytes
put_pieces bytes (piece ∷ pieces) = put_pieces (put bytes piece.at piece.bytes) pieces
