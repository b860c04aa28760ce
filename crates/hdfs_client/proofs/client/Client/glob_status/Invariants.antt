-- The texts so far have given what was found.
use Rattle.std.proofs.Common.{◌≤◌, drop, vec_len}
use Rattle.hdfs_client.specs.Clients.{IsClientOf, Stays, mounts_of}
use Rattle.hdfs_client.specs.Globbing.{IsListed, IsLooked, ReachesText, SomeOfText}
use Rattle.hdfs_client.specs.declared.status.FileStatus.{FileStatus}
use Rattle.hdfs_client.specs.Writing.{KeepsFiles}
use Rattle.hdfs_client.proofs.Globbed.{Goes, GoesSome}
use Rattle.hdfs_client.proofs.client.Client.glob_status.Given as goal

abbrev pub invariant-texts : goal.invariant-texts
invariant-texts g l = record {
  client : IsClientOf l.self (g.C.Cluster.shown l.cluster);
  rest : Stays l.fn.self l.self;
  files : KeepsFiles g.C.Cluster.allows g.C.Cluster.may_answer l.fn.self (g.C.Cluster.shown l.fn.cluster) l.self (g.C.Cluster.shown l.cluster);
  room : vec_len l.found ≤ l.limit;
  goes : Goes FileStatus (ReachesText (IsListed g.C.Cluster.serves g.C.Cluster.may_answer (mounts_of l.fn.self) l.limit) (IsLooked g.C.Cluster.serves (mounts_of l.fn.self)))
      l.all (drop l.text-index l.all) l.found.items;
  some : GoesSome (ReachesText (IsListed g.C.Cluster.serves g.C.Cluster.may_answer (mounts_of l.fn.self) l.limit) (IsLooked g.C.Cluster.serves (mounts_of l.fn.self)))
      (SomeOfText (IsListed g.C.Cluster.serves g.C.Cluster.may_answer (mounts_of l.fn.self) l.limit) (IsLooked g.C.Cluster.serves (mounts_of l.fn.self)))
      l.all (drop l.text-index l.all) l.found.items;
}
