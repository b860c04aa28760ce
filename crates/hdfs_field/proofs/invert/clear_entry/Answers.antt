use Rattle.std.proofs.Common.{length, sym}
use Rattle.hdfs_field.proofs.Kernels.{follows_subtraction}
use Rattle.hdfs_field.proofs.invert.clear_entry.Goals as goal

pub returns-clause-follows : goal.returns-clause-follows
returns-clause-follows g c =
    follows_subtraction g.T.Ring.ring g.met.T.Ring.lawful (length c.args.left.now) c.args.left.now c.args.right.now c.subtract_row.new.self c.subtract_row-2.new.self
    c.requires.pair c.args.i c.args.r c.at-times.result c.subtract_row.ensures c.subtract_row-2.ensures c.requires.row c.requires.within (λ e. c.requires.apart (sym e))
