-- The pipeline goes on, and its last packet was pushed last.
use Rattle.std.proofs.Common.{◌-◌}
use Rattle.hdfs_cluster.specs.Shown.{Shown}
use Rattle.hdfs_namenode.specs.Asked.{IsServiceOf}
use Rattle.hdfs_namenode.specs.Clients.{SameClient, name_of, proxy_of, through}
use Rattle.hdfs_namenode.specs.Views.{Seen}
use Rattle.hdfs_rebuild.specs.Plans.{StaysAnswered}
use Rattle.hdfs_block_writer.proofs.PushingOn.{WaitsAgain}
use Rattle.hdfs_block_writer.proofs.block_writer.BlockWriter.finish.Given as goal

abbrev pub invariant-loop-plan : goal.invariant-loop-plan
invariant-loop-plan g l = record {
  service : IsServiceOf (proxy_of l.namenode) (g.C.Cluster.shown l.cluster);
  client : SameClient l.fn.namenode l.namenode;
  answered : StaysAnswered g.C.Cluster.may_answer (name_of l.fn.namenode) l.fn.pipe.plan l.pipe.plan;
  waits : Seen g.C.Cluster.shown (through l.fn.namenode l.fn.cluster) l.cluster
      (λ (old new : Shown). WaitsAgain l.self.settings old l.fn.pipe new l.pipe);
}

abbrev pub decreases-loop-plan : goal.decreases-loop-plan
decreases-loop-plan g l = l.self.settings.rebuild_limit - l.pipe.plan.rebuilds
