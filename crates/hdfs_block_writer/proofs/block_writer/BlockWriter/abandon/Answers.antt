-- The goals of BlockWriter::abandon.
use Rattle.std.proofs.Common.{[], ap}
use Rattle.hdfs_block_writer.proofs.Opened.{lets_go}
use Rattle.hdfs_block_writer.proofs.Sent.{is_open}
use Rattle.hdfs_block_writer.proofs.block_writer.BlockWriter.abandon.Goals as goal

pub fail-requires : goal.fail-requires
fail-requires g c = λ pipe is.
    is_open c.args.self.settings (g.C.Cluster.shown c.args.cluster.now) pipe [] (c.requires pipe is).1.standing

pub returns-clause-gone : goal.returns-clause-gone
returns-clause-gone g c =
    lets_go c.args.self (g.C.Cluster.shown c.args.cluster.now) (g.C.Cluster.shown c.fail.new.cluster) c.fail.ensures.ended
    (λ none. ap g.C.Cluster.shown (c.fail.ensures.still none))
