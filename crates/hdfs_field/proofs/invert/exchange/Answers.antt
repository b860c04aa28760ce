use Rattle.std.proofs.Common.{length}
use Rattle.hdfs_field.proofs.Kernels.{follows_exchange}
use Rattle.hdfs_field.proofs.invert.exchange.Goals as goal

pub returns-clause-follows : goal.returns-clause-follows
returns-clause-follows g c =
    follows_exchange g.T.Ring.ring g.met.T.Ring.lawful (length c.args.left.now) c.args.left.now c.args.right.now c.args.a c.args.b c.swap_rows.ensures.grid c.swap_rows-2.ensures.grid
    c.requires.pair c.requires.first c.requires.second _ _ c.swap_rows.ensures.swapped c.swap_rows-2.ensures.swapped
