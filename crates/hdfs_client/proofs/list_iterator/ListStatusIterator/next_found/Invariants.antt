-- Of the directories that were passed nothing was left, over a told picture too, and while none wants a page nothing is asked.
use Rattle.std.proofs.Common.{◌≡◌, true, vec_len}
use Rattle.hdfs_client.specs.Clients.{IsClientOf, Stays, mounts_of}
use Rattle.hdfs_client.specs.Iterating.{LetsWalk, asks_none, begun_by}
use Rattle.hdfs_client.specs.Told.{AreWhole, IsPageIn, WhereTold}
use Rattle.hdfs_client.specs.Turning.{IsPassed}
use Rattle.hdfs_client.specs.Writing.{KeepsFiles}
use Rattle.hdfs_client.proofs.list_iterator.ListStatusIterator.next_found.Given as goal

abbrev pub invariant-directories : goal.invariant-directories
invariant-directories g l = record {
  client : IsClientOf l.client (g.C.Cluster.shown l.cluster);
  rest : Stays l.fn.client l.client;
  files : KeepsFiles g.C.Cluster.allows g.C.Cluster.may_answer l.fn.client (g.C.Cluster.shown l.fn.cluster) l.client (g.C.Cluster.shown l.cluster);
  recursive : l.self.recursive ≡ l.fn.self.recursive;
  lets : LetsWalk g.C.Cluster.allows g.C.Cluster.may_answer (mounts_of l.fn.client) l.fn.self.recursive (begun_by l.self);
  passed : IsPassed g.C.Cluster.may_answer (mounts_of l.fn.client) (begun_by l.fn.self) (begun_by l.self);
  told : AreWhole l.fn.client (g.C.Cluster.shown l.fn.cluster) (begun_by l.fn.self)
      → AreWhole l.client (g.C.Cluster.shown l.cluster) (begun_by l.self)
      × WhereTold (g.C.Cluster.shown l.fn.cluster) (g.C.Cluster.shown l.cluster) (λ p. IsPassed (IsPageIn p) (mounts_of l.fn.client) (begun_by l.fn.self) (begun_by l.self));
  quiet : asks_none (begun_by l.fn.self) ≡ true → (l.client ≡ l.fn.client) × (l.cluster ≡ l.fn.cluster) × (asks_none (begun_by l.self) ≡ true);
}

abbrev pub decreases-directories : goal.decreases-directories
decreases-directories g l = vec_len l.self.outer
