-- The packet was pushed, or the pipeline was rebuilt and it isn't yet.
use Rattle.hdfs_cluster.specs.Shown.{Shown}
use Rattle.hdfs_namenode.specs.Asked.{IsServiceOf}
use Rattle.hdfs_namenode.specs.Clients.{SameClient, name_of, proxy_of, through}
use Rattle.hdfs_namenode.specs.Views.{Seen}
use Rattle.hdfs_rebuild.specs.Plans.{StaysAnswered}
use Rattle.hdfs_block_writer.proofs.PushingOn.{PushedSoFar, turns_left}
use Rattle.hdfs_block_writer.proofs.block_writer.BlockWriter.push.Given as goal

abbrev pub invariant-loop-packet : goal.invariant-loop-packet
invariant-loop-packet g l = record {
  service : IsServiceOf (proxy_of l.namenode) (g.C.Cluster.shown l.cluster);
  client : SameClient l.fn.namenode l.namenode;
  answered : StaysAnswered g.C.Cluster.may_answer (name_of l.fn.namenode) l.fn.pipe.plan l.pushed.pipe.plan;
  so_far : Seen g.C.Cluster.shown (through l.fn.namenode l.fn.cluster) l.cluster
      (λ (old new : Shown). PushedSoFar l.self.settings old l.fn.pipe l.self.length l.fn.packet l.pushed.back new l.pushed.pipe);
}

abbrev pub decreases-loop-packet : goal.decreases-loop-packet
decreases-loop-packet g l = turns_left l.self.settings l.pushed.back l.pushed.pipe
