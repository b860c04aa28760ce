-- How far the bytes were taken.
use Rattle.std.proofs.Common.{◌≡◌, ℕ, List, ◌++◌, length}
use Rattle.hdfs_namenode.specs.Clients.{SameClient, name_of, through}
use Rattle.hdfs_namenode.specs.Views.{Seen}
use Rattle.hdfs_file_writer.specs.Writers.{CanGoOn, Wrote}
use Rattle.hdfs_file_writer.proofs.file_writer.FileWriter.write_all.Given as goal

abbrev pub invariant-blocks-2 : goal.invariant-blocks-2
invariant-blocks-2 g l = record {
  goes : CanGoOn g.C.Cluster.may_answer (name_of l.fn.namenode) (g.C.Cluster.shown l.cluster) l.self;
  told : (done : List ℕ) × (l.fn.bytes ≡ done ++ l.rest)
      × Seen g.C.Cluster.shown (through l.fn.namenode l.fn.cluster) l.cluster (λ old new. Wrote old l.fn.self done new l.self);
  client : SameClient l.fn.namenode l.namenode;
}

abbrev pub decreases-blocks-2 : goal.decreases-blocks-2
decreases-blocks-2 g l = length l.rest
