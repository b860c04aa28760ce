use Rattle.std.proofs.Common.{◌≡◌, [], None}
use Rattle.hdfs_pipeline.specs.Driving.{Happened, Drove, EndsInLast}
use Rattle.hdfs_pipeline.proofs.DrivingOn.{left_of}
use Rattle.hdfs_pipeline.proofs.driver.read_all.Given as goal

abbrev pub invariant-acks : goal.invariant-acks
invariant-acks g l = record {
  drove : Drove l.fn.link [] l.fn.core (g.C.Cluster.shown l.fn.cluster) l.core (g.C.Cluster.shown l.cluster);
  happened : Happened l.fn.link l.fn.core (g.C.Cluster.shown l.fn.cluster) l.core (g.C.Cluster.shown l.cluster);
  last : l.core.end ≡ None → EndsInLast l.core.pushed;
}

abbrev pub decreases-acks : goal.decreases-acks
decreases-acks g l = left_of l.core
