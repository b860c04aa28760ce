-- What asking has come to so far.
use Rattle.std.proofs.Common.{◌≡◌, ◌+◌, ◌-◌, ◌<◌, ◌≤◌}
use Rattle.std.specs.Prelude.{IfOk}
use Rattle.hdfs_cluster.specs.Failover.{numbers_but}
use Rattle.hdfs_cluster.specs.Namenode.{IsShaped}
use Rattle.hdfs_namenode.specs.Asked.{order_of}
use Rattle.hdfs_namenode.proofs.Going.{Going}
use Rattle.hdfs_namenode.proofs.proxy.NameServiceProxy.ask_in_order.Given as goal

abbrev pub invariant-others : goal.invariant-others
invariant-others g l = record {
  going : Going g.C.Cluster.serves (order_of l.self) (numbers_but l.self.remembered l.i (l.end - l.i)) l.ask l.fn.cluster l.last l.given l.cluster;
  shaped : IfOk l.given (IsShaped l.ask);
  answered : IfOk l.given (g.C.Cluster.may_answer l.ask);
  from : l.self.first ≤ l.last;
  below : l.last < l.self.first + l.self.count;
  namenodes : (g.C.Cluster.shown l.cluster).namenodes ≡ (g.C.Cluster.shown l.fn.cluster).namenodes;
}
