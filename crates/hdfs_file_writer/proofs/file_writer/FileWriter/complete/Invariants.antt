-- What asking has come to so far.
use Rattle.hdfs_namenode.specs.Clients.{SameClient, through}
use Rattle.hdfs_namenode.specs.Views.{Seen}
use Rattle.hdfs_file_writer.proofs.Closing.{Asking}
use Rattle.hdfs_file_writer.proofs.file_writer.FileWriter.complete.Given as goal

abbrev pub invariant-loop : goal.invariant-loop
invariant-loop g l = record {
  asking : Seen g.C.Cluster.shown (through l.fn.namenode l.fn.cluster) l.cluster (λ old new. Asking l.counter old l.fn.self new);
  client : SameClient l.fn.namenode l.namenode;
}
