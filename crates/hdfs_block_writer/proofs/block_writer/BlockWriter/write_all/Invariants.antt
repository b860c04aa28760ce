-- How far the bytes were taken.
use Rattle.std.proofs.Common.{◌≡◌, ℕ, ◌+◌, ◌≤◌, List, ◌++◌, length, IsSome}
use Rattle.hdfs_cluster.specs.Shown.{Shown}
use Rattle.hdfs_namenode.specs.Asked.{IsServiceOf}
use Rattle.hdfs_namenode.specs.Clients.{SameClient, name_of, proxy_of, through}
use Rattle.hdfs_namenode.specs.Views.{Seen}
use Rattle.hdfs_block_writer.specs.BlockWriters.{MayGoOn, Stands}
use Rattle.hdfs_block_writer.specs.Written.{GoesOnAnswered, Wrote}
use Rattle.hdfs_block_writer.proofs.block_writer.BlockWriter.write_all.Given as goal

abbrev pub invariant-pieces : goal.invariant-pieces
invariant-pieces g l = record {
  service : IsServiceOf (proxy_of l.namenode) (g.C.Cluster.shown l.cluster);
  client : SameClient l.fn.namenode l.namenode;
  stands : Stands (g.C.Cluster.shown l.cluster) l.self;
  some : IsSome l.self.pipe;
  answered : GoesOnAnswered g.C.Cluster.may_answer (name_of l.fn.namenode) l.fn.self l.self;
  allowed : MayGoOn g.C.Cluster.allows g.C.Cluster.may_answer (name_of l.namenode) l.self;
  room : l.self.length + length l.rest ≤ l.self.block_size;
  told : (done : List ℕ) × (l.fn.bytes ≡ done ++ l.rest)
      × Seen g.C.Cluster.shown (through l.fn.namenode l.fn.cluster) l.cluster (λ (old new : Shown). Wrote old l.fn.self done new l.self);
}

abbrev pub decreases-pieces : goal.decreases-pieces
decreases-pieces g l = length l.rest
