use Rattle.std.proofs.Common.{length, sym, ◌∙◌}
use Rattle.hdfs_field.proofs.Kernels.{follows_division}
use Rattle.hdfs_field.proofs.invert.normalize.Goals as goal

pub returns-clause-follows : goal.returns-clause-follows
returns-clause-follows g c =
    follows_division g.T.Ring.ring g.met.T.Ring.lawful g.T.Field.quotient g.met.T.Field.field (length c.args.left.now) c.args.left.now c.args.right.now
    c.divide_row.new.self c.divide_row-2.new.self c.requires.pair c.args.r c.at-pivot.result
    (λ e. c.requires.pivot (sym c.at-pivot.ensures ∙ e)) c.divide_row.ensures c.divide_row-2.ensures c.requires.within
