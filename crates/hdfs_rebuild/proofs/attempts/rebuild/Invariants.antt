-- Attempts have failed so far, fewer than there may be.
use Rattle.std.proofs.Common.{◌-◌}
use Rattle.hdfs_cluster.specs.Requests.{LetsGoOn}
use Rattle.hdfs_namenode.specs.Clients.{SameClient, name_of, through}
use Rattle.hdfs_namenode.specs.Views.{Seen}
use Rattle.hdfs_rebuild.specs.Plans.{StaysAnswered}
use Rattle.hdfs_rebuild.proofs.Repeating.{FellSoFar}
use Rattle.hdfs_rebuild.proofs.attempts.rebuild.Given as goal

abbrev pub invariant-attempts : goal.invariant-attempts
invariant-attempts g l = record {
  fell : Seen g.C.Cluster.shown (through l.fn.namenode l.fn.cluster) l.cluster
      (λ old new. FellSoFar l.fn.fallen l.settings (name_of l.fn.namenode) l.unsent old l.fallen new);
  client : SameClient l.fn.namenode l.namenode;
  allowed : LetsGoOn g.C.Cluster.allows g.C.Cluster.may_answer (name_of l.namenode) l.fallen.plan.src l.fallen.plan.block;
  answered : StaysAnswered g.C.Cluster.may_answer (name_of l.fn.namenode) l.fn.fallen.plan l.fallen.plan;
}

abbrev pub decreases-attempts : goal.decreases-attempts
decreases-attempts g l = l.settings.rebuild_limit - l.fallen.plan.rebuilds
