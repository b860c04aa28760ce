-- Those so far.
use Rattle.std.proofs.Common.{◌≡◌, map}
use Rattle.hdfs_client.proofs.globbing.picking.paths_of.Given as goal

abbrev pub invariant-loop-status : goal.invariant-loop-status
invariant-loop-status l = l.paths.items ≡ map (λ status. status.path) l.yielded
