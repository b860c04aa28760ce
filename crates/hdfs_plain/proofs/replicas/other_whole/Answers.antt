use Rattle.std.proofs.Common.{sym, ◌∙◌}
use Rattle.hdfs_plain.proofs.Whole.{whole_on}
use Rattle.hdfs_plain.proofs.replicas.other_whole.Goals as goal

-- a datanode with a whole replica was found
pub returns-then-left_of-whole : goal.returns-then-left_of-whole
returns-then-left_of-whole c =
    whole_on c.args.lines.now c.args.path.now c.args.block c.args.node c.args.whole c.args.count c.loop-other.other c.loop-other-test.true c.if-other-node.true (sym c.left_of.ensures ∙ c.if-left_of-whole.true)
