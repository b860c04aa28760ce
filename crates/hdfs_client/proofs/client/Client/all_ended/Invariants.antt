-- The directories so far have given what was found, and from the others it may be gone on.
use Rattle.std.proofs.Common.{◌≤◌, ℕ, List, [], drop, vec_len}
use Rattle.hdfs_client.specs.Clients.{IsClientOf, Stays, mounts_of}
use Rattle.hdfs_client.specs.Globbing.{EachOf, EndsAt, IsListed, IsLooked, IsOneOf, LetsStep, is_wild}
use Rattle.hdfs_client.specs.declared.status.FileStatus.{FileStatus}
use Rattle.hdfs_client.specs.Writing.{KeepsFiles}
use Rattle.hdfs_client.proofs.Globbed.{Goes, GoesSome}
use Rattle.hdfs_client.proofs.client.Client.all_ended.Given as goal

abbrev pub invariant-dirs : goal.invariant-dirs
invariant-dirs g l = record {
  client : IsClientOf l.self (g.C.Cluster.shown l.cluster);
  rest : Stays l.fn.self l.self;
  files : KeepsFiles g.C.Cluster.allows g.C.Cluster.may_answer l.fn.self (g.C.Cluster.shown l.fn.cluster) l.self (g.C.Cluster.shown l.cluster);
  room : vec_len l.found ≤ l.limit;
  goes : Goes FileStatus (EndsAt (IsListed g.C.Cluster.serves g.C.Cluster.may_answer (mounts_of l.fn.self) l.limit) (IsLooked g.C.Cluster.serves (mounts_of l.fn.self))
      (is_wild l.component) l.component) l.dirs (drop l.dir-index l.dirs) l.found.items;
  some : GoesSome (EndsAt (IsListed g.C.Cluster.serves g.C.Cluster.may_answer (mounts_of l.fn.self) l.limit) (IsLooked g.C.Cluster.serves (mounts_of l.fn.self))
      (is_wild l.component) l.component) (EndsAt (IsListed g.C.Cluster.serves g.C.Cluster.may_answer (mounts_of l.fn.self) l.limit)
      (IsLooked g.C.Cluster.serves (mounts_of l.fn.self)) (is_wild l.component) l.component) l.dirs (drop l.dir-index l.dirs) l.found.items;
  lets : EachOf (λ dir. LetsStep g.C.Cluster.allows (mounts_of l.fn.self) (is_wild l.component) dir l.component []) (drop l.dir-index l.dirs);
  within : (dir : List ℕ) → IsOneOf dir (drop l.dir-index l.dirs) → IsOneOf dir l.dirs;
}
