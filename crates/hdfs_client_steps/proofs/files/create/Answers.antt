-- The goals of create.
use Rattle.hdfs_client_steps.proofs.Created.{create_does, create_parts}
use Rattle.hdfs_client_steps.proofs.files.create.Goals as goal

pub returns-clause-does : goal.returns-clause-does
returns-clause-does g c =
    create_does c.args.options.now g.met.C.Cluster.serves_rows g.met.C.Cluster.active_below g.met.C.Cluster.sound c.args.client.now c.create.new.self c.args.path.now c.args.cluster.now
    c.create.new.cluster g.C.Cluster.may_answer c.create.result c.create.ensures.refused c.create.ensures.created c.create.ensures.err

pub returns-clause-parts : goal.returns-clause-parts
returns-clause-parts g c =
    create_parts c.args.options.now g.met.C.Cluster.serves_rows g.met.C.Cluster.active_below g.met.C.Cluster.sound c.args.client.now c.create.new.self c.args.path.now c.args.cluster.now
    c.create.new.cluster g.C.Cluster.may_answer c.create.result c.create.ensures.refused c.create.ensures.created c.create.ensures.err
