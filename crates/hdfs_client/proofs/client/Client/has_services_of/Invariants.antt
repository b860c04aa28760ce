-- The services so far are the cluster's.
use Rattle.std.proofs.Common.{◌≡◌, ◌<◌, ℕ, Some, slice_get}
use Rattle.hdfs_namenode.specs.Asked.{IsServiceOf}
use Rattle.hdfs_namenode.specs.Clients.{proxy_of}
use Rattle.hdfs_namenode.specs.declared.protocol.NamenodeProtocol.{NamenodeProtocol}
use Rattle.hdfs_client.proofs.client.Client.has_services_of.Given as goal

abbrev pub invariant-services : goal.invariant-services
invariant-services g l =
    (k : ℕ) (namenode : NamenodeProtocol) → k < l.namenode-index → slice_get l.self.services.items k ≡ Some namenode
    → IsServiceOf (proxy_of namenode) (g.C.Cluster.shown l.cluster)
