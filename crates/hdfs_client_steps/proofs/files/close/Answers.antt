-- The goals of close.
use Rattle.hdfs_client_steps.proofs.Shut.{close_does}
use Rattle.hdfs_client_steps.proofs.files.close.Goals as goal

pub returns-clause-does : goal.returns-clause-does
returns-clause-does g c =
    close_does g.C.Cluster.shown g.met.C.Cluster.sound c.args.client.now c.close.new.client c.args.writer.now c.args.cluster.now c.close.new.cluster
    c.close.result c.close.ensures.closed c.close.ensures.err c.close.ensures.lease
