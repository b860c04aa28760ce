-- The goals of write.
use Rattle.hdfs_client_steps.proofs.Written.{write_does}
use Rattle.hdfs_client_steps.proofs.files.write.Goals as goal

pub returns-clause-does : goal.returns-clause-does
returns-clause-does g c =
    write_does g.C.Cluster.shown g.met.C.Cluster.sound c.args.client.now c.write.new.client c.args.writer.now c.write.new.self c.args.bytes.now c.args.cluster.now c.write.new.cluster
    c.write.result c.write.ensures.wrote c.write.ensures.plain c.write.ensures.state c.write.ensures.err c.write.ensures.writer.2
