use Rattle.std.proofs.Common.{length}
use Rattle.hdfs_commands.proofs.AbandonFiles.{LeftFiles}
use Rattle.hdfs_commands.proofs.Abandoning.{Left}
use Rattle.hdfs_commands.proofs.session.Session.abandon.Given as goal

abbrev pub invariant-loop-writer : goal.invariant-loop-writer
invariant-loop-writer g l = record {
  left : Left (g.C.Cluster.shown l.fn.cluster) (g.C.Cluster.shown l.cluster) l.fn.self (length l.yielded);
  files : LeftFiles (g.C.Cluster.shown l.fn.cluster) (g.C.Cluster.shown l.cluster) l.fn.self (length l.yielded);
}
