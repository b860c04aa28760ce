-- The goals of name_pipeline.
use Rattle.std.proofs.Common.{true, rules}
use Rattle.hdfs_namenode.specs.Clients.{through}
use Rattle.hdfs_rebuild.proofs.Allowed.{allowed_as}
use Rattle.hdfs_rebuild.proofs.Asks.{once_links}
use Rattle.hdfs_rebuild.proofs.Restamping.{named, named_not}
use Rattle.hdfs_rebuild.proofs.recovery.name_pipeline.Goals as goal

pub update_pipeline-requires-clause-allowed : goal.update_pipeline-requires-clause-allowed
update_pipeline-requires-clause-allowed g c =
    allowed_as g.C.Cluster.allows (cc (c.in_ok-block.ensures, c.in_ok-ids.ensures, c.as_slice.ensures, c.as_slice-2.ensures, c.as_slice-3.ensures)) c.requires.allowed

pub returns-in-Ok-clause-links : goal.returns-in-Ok-clause-links
returns-in-Ok-clause-links g c =
    once_links g.C.Cluster.shown g.C.Cluster.serves g.met.C.Cluster.serves_rows true _ (through c.args.namenode.now c.args.cluster.now) _
    (through c.update_pipeline.new.self c.update_pipeline.new.cluster) c.in-Ok.ensures.asked

pub returns-in-Ok-clause-names : goal.returns-in-Ok-clause-names
returns-in-Ok-clause-names g c = λ view has.
    named c.args.plan.now (search rules) (rw c.in_ok-block.ensures at (c.in-Ok.ensures.came view has))

pub returns-clause-links : goal.returns-clause-links
returns-clause-links g c =
    once_links g.C.Cluster.shown g.C.Cluster.serves g.met.C.Cluster.serves_rows true _ (through c.args.namenode.now c.args.cluster.now) _
    (through c.update_pipeline.new.self c.update_pipeline.new.cluster) c.in-Err.ensures.asked

pub returns-clause-err : goal.returns-clause-err
returns-clause-err g c = λ view has.
    named_not c.args.plan.now (search rules) (rw c.in_ok-block.ensures at (c.in-Err.ensures.came view has))
