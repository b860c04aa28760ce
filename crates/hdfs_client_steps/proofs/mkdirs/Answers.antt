-- The goals of mkdirs.
use Rattle.hdfs_client_steps.proofs.Making.{mkdirs_does, mkdirs_parts}
use Rattle.hdfs_client_steps.proofs.mkdirs.Goals as goal

pub returns-clause-does : goal.returns-clause-does
returns-clause-does g c =
    mkdirs_does c.args.permission c.args.create_parent g.met.C.Cluster.serves_rows g.met.C.Cluster.active_below c.args.client.now c.mkdirs.new.self c.args.path.now c.args.cluster.now c.mkdirs.new.cluster
    c.mkdirs.result c.mkdirs.ensures.refused c.mkdirs.ensures.asked

pub returns-clause-parts : goal.returns-clause-parts
returns-clause-parts g c =
    mkdirs_parts c.args.permission c.args.create_parent g.met.C.Cluster.serves_rows g.met.C.Cluster.active_below c.args.client.now c.mkdirs.new.self c.args.path.now c.args.cluster.now c.mkdirs.new.cluster
    c.mkdirs.result c.mkdirs.ensures.refused c.mkdirs.ensures.asked
