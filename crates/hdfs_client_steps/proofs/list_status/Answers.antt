-- The goals of list_status.
use Rattle.hdfs_client_steps.proofs.Listing.{list_does}
use Rattle.hdfs_client_steps.proofs.list_status.Goals as goal

pub returns-clause-does : goal.returns-clause-does
returns-clause-does g c =
    list_does c.args.client.now c.list_status.new.self c.list_status.ensures.rest c.args.path.now c.args.limit (g.C.Cluster.shown c.args.cluster.now) (g.C.Cluster.shown c.list_status.new.cluster) g.C.Cluster.may_answer
    (g.met.C.Cluster.sound c.args.cluster.now) c.list_status.result c.list_status.ensures.count c.list_status.ensures.told

pub returns-clause-parts : goal.returns-clause-parts
returns-clause-parts g c = (c.list_status.ensures.rest.mounts, c.list_status.ensures.rest.replacement)
