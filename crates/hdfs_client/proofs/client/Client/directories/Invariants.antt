-- The components so far have led to the directories that are held, which are reached.
use Rattle.std.proofs.Common.{◌∷◌, ◌++◌, [], drop}
use Rattle.hdfs_client.specs.Clients.{IsClientOf, Stays, mounts_of}
use Rattle.hdfs_client.specs.Globbing.{EachOf, IsListed, IsReached}
use Rattle.hdfs_client.specs.Listing.{HasAll}
use Rattle.hdfs_client.specs.Writing.{KeepsFiles}
use Rattle.hdfs_client.proofs.Globbed.{ArrivesOn}
use Rattle.hdfs_client.proofs.client.Client.directories.Given as goal

abbrev pub invariant-components : goal.invariant-components
invariant-components g l = record {
  client : IsClientOf l.self (g.C.Cluster.shown l.cluster);
  rest : Stays l.fn.self l.self;
  files : KeepsFiles g.C.Cluster.allows g.C.Cluster.may_answer l.fn.self (g.C.Cluster.shown l.fn.cluster) l.self (g.C.Cluster.shown l.cluster);
  arrives : ArrivesOn (IsListed g.C.Cluster.serves g.C.Cluster.may_answer (mounts_of l.fn.self) l.limit) ([] ∷ []) l.front (drop l.component-index l.front) l.dirs.items;
  reached : EachOf (λ dir. IsReached (HasAll g.C.Cluster.may_answer (mounts_of l.fn.self)) (l.front ++ l.last ∷ []) dir
      (drop l.component-index l.front ++ l.last ∷ [])) l.dirs.items;
}
