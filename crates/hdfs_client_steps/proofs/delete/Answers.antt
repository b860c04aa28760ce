-- The goals of delete.
use Rattle.hdfs_client_steps.proofs.Deleting.{delete_does, delete_says}
use Rattle.hdfs_client_steps.proofs.delete.Goals as goal

pub returns-clause-does : goal.returns-clause-does
returns-clause-does g c =
    delete_does c.args.recursive g.met.C.Cluster.serves_rows g.met.C.Cluster.active_below g.met.C.Cluster.sound c.args.client.now c.delete.new.self c.args.path.now c.args.cluster.now c.delete.new.cluster
    c.delete.result c.delete.ensures.asked

pub returns-clause-says : goal.returns-clause-says
returns-clause-says g c =
    delete_says c.args.recursive g.met.C.Cluster.serves_rows g.met.C.Cluster.active_below g.met.C.Cluster.sound c.args.client.now c.delete.new.self c.args.path.now c.args.cluster.now c.delete.new.cluster
    c.delete.result c.delete.ensures.asked

pub returns-clause-parts : goal.returns-clause-parts
returns-clause-parts g c = (let others = c.delete.ensures.asked.others in (others.mounts, others.replacement))
