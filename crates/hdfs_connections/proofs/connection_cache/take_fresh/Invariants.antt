-- The connections in front that are stale are taken.
use Rattle.std.proofs.Common.{◌≡◌, length}
use Rattle.hdfs_connections.specs.Connections.{fresh}
use Rattle.hdfs_connections.proofs.connection_cache.take_fresh.Given as goal

abbrev pub invariant-stale : goal.invariant-stale
invariant-stale l = fresh l.moment l.kept.items ≡ fresh l.fn.moment l.fn.kept.items

abbrev pub decreases-stale : goal.decreases-stale
decreases-stale l = length l.kept.items
