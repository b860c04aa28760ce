-- What is listed is what was given, and then what is to come, whether all of that was answered or some; and what is to come may be listed.
-- Each directory that is begun is the path's own, or was answered below it. Over a told picture all of this is so of its pages.
use Rattle.std.proofs.Common.{◌≡◌, ◌-◌, ◌≤◌, vec_len}
use Rattle.hdfs_client.specs.Clients.{IsClientOf, Stays, mounts_of}
use Rattle.hdfs_client.specs.Iterating.{LetsWalk, begun_by}
use Rattle.hdfs_client.specs.Told.{IsWholeBelow, WhereTold}
use Rattle.hdfs_client.specs.Writing.{KeepsFiles}
use Rattle.hdfs_client.proofs.Below.{AreBegun}
use Rattle.hdfs_client.proofs.Listed.{GoesAll, GoesSome}
use Rattle.hdfs_client.proofs.ToldLists.{GoesIn}
use Rattle.hdfs_client.proofs.client.Client.list_status.Given as goal

abbrev pub invariant-entries : goal.invariant-entries
invariant-entries g l = record {
  client : IsClientOf l.self (g.C.Cluster.shown l.cluster);
  rest : Stays l.fn.self l.self;
  files : KeepsFiles g.C.Cluster.allows g.C.Cluster.may_answer l.fn.self (g.C.Cluster.shown l.fn.cluster) l.self (g.C.Cluster.shown l.cluster);
  recursive : l.listing.recursive ≡ l.recursive;
  room : vec_len l.found ≤ l.limit;
  lets : LetsWalk g.C.Cluster.allows g.C.Cluster.may_answer (mounts_of l.self) l.listing.recursive (begun_by l.listing);
  all : GoesAll g.C.Cluster.may_answer (mounts_of l.fn.self) l.recursive l.path l.found.items (begun_by l.listing);
  some : GoesSome g.C.Cluster.may_answer (mounts_of l.fn.self) l.recursive l.path l.found.items (begun_by l.listing);
  begun : AreBegun g.C.Cluster.may_answer (mounts_of l.fn.self) l.recursive l.path (begun_by l.listing);
  told : IsWholeBelow g.C.Cluster.may_answer l.recursive l.fn.self l.path (g.C.Cluster.shown l.fn.cluster)
      → WhereTold (g.C.Cluster.shown l.fn.cluster) (g.C.Cluster.shown l.cluster) (λ p. GoesIn (mounts_of l.fn.self) l.recursive l.path p l.found.items (begun_by l.listing));
}

abbrev pub decreases-entries : goal.decreases-entries
decreases-entries g l = l.limit - vec_len l.found
