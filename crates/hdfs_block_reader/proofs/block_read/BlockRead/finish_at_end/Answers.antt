-- The packet behind the range is asked for, and the link is ended behind it.
use Rattle.hdfs_block_reader.proofs.Connected.{asked_goes}
use Rattle.hdfs_block_reader.proofs.block_read.BlockRead.finish_at_end.Goals as goal

pub returns-then-ends_well-clause-goes : goal.returns-then-ends_well-clause-goes
returns-then-ends_well-clause-goes g c =
    let shown = g.C.Cluster.shown in
    asked_goes (shown c.args.cluster.now) (shown c.ends_well.new.cluster) (shown c.keep.new.cluster) c.args.self.now c.keep.new.self c.in-Some.link c.requires c.in-Some.is
    c.ends_well.ensures c.keep.ensures.goes.frame c.keep.ensures.idle

pub returns-else-ends_well-clause-goes : goal.returns-else-ends_well-clause-goes
returns-else-ends_well-clause-goes g c =
    let shown = g.C.Cluster.shown in
    asked_goes (shown c.args.cluster.now) (shown c.ends_well.new.cluster) (shown c.stop.new.cluster) c.args.self.now c.stop.new.self c.in-Some.link c.requires c.in-Some.is
    c.ends_well.ensures c.stop.ensures.goes.frame c.stop.ensures.idle
