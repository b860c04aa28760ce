use Rattle.std.proofs.Common.{◌≡◌, take}
use Rattle.hdfs_mem_datanodes.specs.Pieces.{put_pieces}
use Rattle.hdfs_mem_datanodes.proofs.replica.joined.Given as goal

abbrev pub invariant-loop-piece : goal.invariant-loop-piece
invariant-loop-piece l = l.bytes.items ≡ put_pieces l.base (take l.piece-index l.pieces)
