-- One ask of the service to which the path leads.
use Rattle.std.proofs.Common.{true, refl}
use Rattle.hdfs_client.proofs.Asking.{asks_at, asks_nothing, client_later, for_memory, is_service}
use Rattle.hdfs_client.proofs.Beside.{files_asked}
use Rattle.hdfs_client.proofs.client.Client.remove_default_acl.Goals as goal

pub returns-in_err-to-clause-asked : goal.returns-in_err-to-clause-asked
returns-in_err-to-clause-asked g c =
    asks_nothing g.C.Cluster.serves true _ c.args.self.now c.args.path.now c.args.cluster.now _ (for_memory _ c.from_residual.result c.from_residual.ensures.1)

pub remove_default_acl-requires-clause-service : goal.remove_default_acl-requires-clause-service
remove_default_acl-requires-clause-service g c = is_service c.args.self.now _ _ _ c.requires.client c.in_ok-to.ensures.1 c.index_mut.ensures.value

pub returns-clause-asked : goal.returns-clause-asked
returns-clause-asked g c =
    asks_at g.C.Cluster.serves true _ c.args.self.now _ c.args.path.now c.in_ok-to.to _ _ _ c.args.cluster.now _ _ c.in_ok-to.ensures.0 c.as_str.ensures
    c.in_ok-to.ensures.1 c.index_mut.ensures.value refl (refl, refl, refl) c.remove_default_acl.ensures.asked c.remove_default_acl.ensures.keeps

pub returns-clause-client : goal.returns-clause-client
returns-clause-client g c =
    client_later g.C.Cluster.shown g.C.Cluster.serves g.met.C.Cluster.serves_rows true _ c.args.self.now _ c.args.path.now c.args.cluster.now _ _
    c.requires.client (returns-clause-asked g c)

pub returns-clause-files : goal.returns-clause-files
returns-clause-files g c =
    files_asked g.C.Cluster.shown g.C.Cluster.serves g.met.C.Cluster.serves_rows g.C.Cluster.allows g.C.Cluster.may_answer true _ c.args.self.now _ c.args.path.now c.args.cluster.now _ _
    (returns-clause-asked g c)
