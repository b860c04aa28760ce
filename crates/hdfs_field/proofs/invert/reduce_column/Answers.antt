use Rattle.std.proofs.Common.{length}
use Rattle.hdfs_field.proofs.Reductions.{follows_next, normal_units, normal_pivot}
use Rattle.hdfs_field.proofs.invert.reduce_column.Goals as goal

pub clear_column-requires-clause-units : goal.clear_column-requires-clause-units
clear_column-requires-clause-units g c =
    let found = c.in-Some.ensures.found in
    normal_units g.T.Ring.ring g.met.T.Ring.lawful g.T.Field.quotient g.met.T.Field.field c.args.r c.in-Some.p c.args.left.now c.args.right.now
    c.exchange.new.left c.exchange.new.right c.normalize.new.left c.requires.units c.requires.within found.0 found.1 found.2 c.exchange.ensures.swapped
    c.exchange.ensures.follows c.normalize.ensures.divided

pub clear_column-requires-clause-pivot : goal.clear_column-requires-clause-pivot
clear_column-requires-clause-pivot g c =
    let found = c.in-Some.ensures.found in
    normal_pivot g.T.Ring.ring g.met.T.Ring.lawful g.T.Field.quotient g.met.T.Field.field c.args.r c.in-Some.p c.args.left.now c.args.right.now
    c.exchange.new.left c.exchange.new.right c.normalize.new.left c.requires.units c.requires.within found.0 found.1 found.2 c.exchange.ensures.swapped
    c.exchange.ensures.follows c.normalize.ensures.divided

pub returns-in-Some-clause-follows : goal.returns-in-Some-clause-follows
returns-in-Some-clause-follows g c =
    let n = length c.args.left.now in
    let twice = follows_next g.T.Ring.ring n c.args.left.now c.args.right.now c.exchange.new.left c.exchange.new.right c.normalize.new.left c.normalize.new.right
    c.exchange.ensures.follows c.normalize.ensures.follows in
    follows_next g.T.Ring.ring n c.args.left.now c.args.right.now c.normalize.new.left c.normalize.new.right c.clear_column.new.left c.clear_column.new.right twice
    c.clear_column.ensures.follows
