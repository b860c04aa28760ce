-- Those so far.
use Rattle.std.proofs.Common.{◌≡◌, map}
use Rattle.hdfs_client.proofs.globbing.picking.parts_of.Given as goal

abbrev pub invariant-loop-piece : goal.invariant-loop-piece
invariant-loop-piece l = l.parts.items ≡ map (λ piece. piece.now) l.yielded
