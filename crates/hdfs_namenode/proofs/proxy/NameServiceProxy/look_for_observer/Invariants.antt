-- No namenode so far is an observer.
use Rattle.std.proofs.Common.{◌-◌}
use Rattle.hdfs_cluster.specs.Shown.{Later}
use Rattle.hdfs_namenode.specs.Asked.{NoneObserves, numbers_from}
use Rattle.hdfs_namenode.proofs.proxy.NameServiceProxy.look_for_observer.Given as goal

abbrev pub invariant-namenodes : goal.invariant-namenodes
invariant-namenodes g l = record {
  none : NoneObserves g.C.Cluster.serves (numbers_from l.self.first (l.i - l.self.first)) l.fn.cluster l.cluster;
  later : Later (g.C.Cluster.shown l.fn.cluster) (g.C.Cluster.shown l.cluster);
}
