-- All tries so far have failed, and the writer is what it was.
use Rattle.std.proofs.Common.{◌≡◌}
use Rattle.hdfs_cluster.specs.Requests.{AreFirst}
use Rattle.hdfs_namenode.specs.Clients.{SameClient, name_of, through}
use Rattle.hdfs_namenode.specs.Views.{Seen}
use Rattle.hdfs_file_writer.specs.Tries.{HasTried}
use Rattle.hdfs_file_writer.proofs.file_writer.FileWriter.begin_block.Given as goal

abbrev pub invariant-tries : goal.invariant-tries
invariant-tries g l = record {
  same : l.self ≡ l.fn.self;
  client : SameClient l.fn.namenode l.namenode;
  first : AreFirst g.C.Cluster.may_answer (name_of l.namenode) l.self.path l.self.file_id l.tries.excluded;
  tried : Seen g.C.Cluster.shown (through l.fn.namenode l.fn.cluster) l.cluster (λ old new. HasTried old l.self l.tries new);
}

abbrev pub decreases-tries : goal.decreases-tries
decreases-tries g l = l.tries.left
