use Rattle.hdfs_pipeline.specs.Cores.{IsCore}
use Rattle.hdfs_rebuild.proofs.Replaying.{SentSoFar}
use Rattle.hdfs_rebuild.proofs.replay.send_again.Given as goal

-- the packets so far were sent, or came back once the pipeline had ended
abbrev pub invariant-loop-packet : goal.invariant-loop-packet
invariant-loop-packet g l = record {
  so_far : SentSoFar l.fn.link l.fn.core (g.C.Cluster.shown l.fn.cluster) l.yielded l.core l.rest (g.C.Cluster.shown l.cluster);
  is_core : IsCore l.core;
}
