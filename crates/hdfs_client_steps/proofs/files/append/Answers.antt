-- The goals of append.
use Rattle.hdfs_client_steps.proofs.Reopened.{append_does, append_parts}
use Rattle.hdfs_client_steps.proofs.files.append.Goals as goal

pub returns-clause-does : goal.returns-clause-does
returns-clause-does g c =
    append_does g.met.C.Cluster.serves_rows g.met.C.Cluster.active_below g.met.C.Cluster.sound c.args.client.now c.append.new.self c.args.path.now c.args.cluster.now
    c.append.new.cluster g.C.Cluster.may_answer c.append.result c.append.ensures.opened c.append.ensures.err

pub returns-clause-parts : goal.returns-clause-parts
returns-clause-parts g c =
    append_parts g.met.C.Cluster.serves_rows g.met.C.Cluster.active_below g.met.C.Cluster.sound c.args.client.now c.append.new.self c.args.path.now c.args.cluster.now
    c.append.new.cluster g.C.Cluster.may_answer c.append.result c.append.ensures.opened c.append.ensures.err
