-- What was found so far was copied, by the client's mounts.
use Rattle.std.proofs.Common.{◌≡◌, ◌-◌, ◌^◌, ℕ, min, take}
use Rattle.hdfs_client.specs.Clients.{IsClientOf, mounts_of}
use Rattle.hdfs_client.specs.Writing.{KeepsFiles}
use Rattle.hdfs_uses.specs.Copying.{AreCopied, IsCopied}
use Rattle.hdfs_uses.proofs.copying.copy_all.Given as goal

abbrev pub invariant-statuses : goal.invariant-statuses
invariant-statuses g l = record {
  client : IsClientOf l.client (g.C.Cluster.shown l.cluster);
  mounts : mounts_of l.client ≡ mounts_of l.fn.client;
  files : KeepsFiles g.C.Cluster.allows g.C.Cluster.may_answer l.fn.client (g.C.Cluster.shown l.fn.cluster) l.client (g.C.Cluster.shown l.cluster);
  copies : (count : ℕ)
      × AreCopied (IsCopied g.C.Cluster.shown g.C.Cluster.may_answer g.C.Cluster.serves (mounts_of l.fn.client) l.from l.to) (take l.status-index l.found) count
      × (l.copied ≡ min count (2 ^ 64 - 1));
}
