-- Of the entries so far just those are picked that are wanted.
use Rattle.hdfs_client.specs.Globbing.{IsWanted, Picks}
use Rattle.hdfs_client.proofs.globbing.picking.picked.Given as goal

abbrev pub invariant-loop-status : goal.invariant-loop-status
invariant-loop-status l = Picks (IsWanted l.follow l.dir l.component) l.yielded l.found.items
