-- Of what was found so far the ends of the files were read, by the client's mounts.
use Rattle.std.proofs.Common.{◌≡◌, take}
use Rattle.hdfs_client.specs.Clients.{IsClientOf, mounts_of}
use Rattle.hdfs_client.specs.Writing.{KeepsFiles}
use Rattle.hdfs_uses.specs.Footers.{AreEnds, IsEndRead}
use Rattle.hdfs_uses.proofs.footers.all_ends.Given as goal

abbrev pub invariant-statuses : goal.invariant-statuses
invariant-statuses g l = record {
  client : IsClientOf l.client (g.C.Cluster.shown l.cluster);
  mounts : mounts_of l.client ≡ mounts_of l.fn.client;
  files : KeepsFiles g.C.Cluster.allows g.C.Cluster.may_answer l.fn.client (g.C.Cluster.shown l.fn.cluster) l.client (g.C.Cluster.shown l.cluster);
  ends : AreEnds (IsEndRead g.C.Cluster.shown g.C.Cluster.serves (mounts_of l.fn.client)) (take l.status-index l.found) l.footers.items;
}
