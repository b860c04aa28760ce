-- What the path has is what was given, and then what is left.
use Rattle.std.proofs.Common.{◌≡◌, ◌-◌, ◌≤◌, vec_len}
use Rattle.hdfs_client.specs.Clients.{IsClientOf, Stays, mounts_of}
use Rattle.hdfs_client.specs.Iterating.{left_of}
use Rattle.hdfs_client.specs.Listing.{AreOnPages}
use Rattle.hdfs_client.specs.Writing.{KeepsFiles}
use Rattle.hdfs_client.proofs.Gathered.{Gathers}
use Rattle.hdfs_client.proofs.client.Client.entries.Given as goal

abbrev pub invariant-entries : goal.invariant-entries
invariant-entries g l = record {
  client : IsClientOf l.self (g.C.Cluster.shown l.cluster);
  rest : Stays l.fn.self l.self;
  files : KeepsFiles g.C.Cluster.allows g.C.Cluster.may_answer l.fn.self (g.C.Cluster.shown l.fn.cluster) l.self (g.C.Cluster.shown l.cluster);
  path : l.dir.path ≡ l.path;
  room : vec_len l.own ≤ l.limit;
  gathers : Gathers g.C.Cluster.may_answer (mounts_of l.fn.self) l.path l.own.items (left_of l.dir);
  told : AreOnPages g.C.Cluster.may_answer (mounts_of l.fn.self) (left_of l.dir).path (left_of l.dir).held;
}

abbrev pub decreases-entries : goal.decreases-entries
decreases-entries g l = l.limit - vec_len l.own
