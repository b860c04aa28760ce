-- The directories so far have led to those that are held, and of the others each may be listed.
use Rattle.std.proofs.Common.{◌≡◌, ℕ, List, drop, true}
use Rattle.hdfs_client.specs.Clients.{IsClientOf, Stays, mounts_of}
use Rattle.hdfs_client.specs.Globbing.{EachOf, IsListed, IsOneOf, LeadsTo, is_wild}
use Rattle.hdfs_client.specs.Listing.{LetsListAt}
use Rattle.hdfs_client.specs.Statuses.{or_root}
use Rattle.hdfs_client.specs.Writing.{KeepsFiles}
use Rattle.hdfs_client.proofs.Globbed.{Goes}
use Rattle.hdfs_client.proofs.client.Client.all_led.Given as goal

abbrev pub invariant-dirs : goal.invariant-dirs
invariant-dirs g l = record {
  client : IsClientOf l.self (g.C.Cluster.shown l.cluster);
  rest : Stays l.fn.self l.self;
  files : KeepsFiles g.C.Cluster.allows g.C.Cluster.may_answer l.fn.self (g.C.Cluster.shown l.fn.cluster) l.self (g.C.Cluster.shown l.cluster);
  goes : Goes (List ℕ) (LeadsTo (IsListed g.C.Cluster.serves g.C.Cluster.may_answer (mounts_of l.fn.self) l.limit) (is_wild l.component) l.component)
      l.dirs (drop l.dir-index l.dirs) l.mids.items;
  lets : is_wild l.component ≡ true → EachOf (λ dir. LetsListAt g.C.Cluster.allows (mounts_of l.fn.self) (or_root dir)) (drop l.dir-index l.dirs);
  within : (dir : List ℕ) → IsOneOf dir (drop l.dir-index l.dirs) → IsOneOf dir l.dirs;
}
