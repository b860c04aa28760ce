use Rattle.hdfs_field.proofs.Grids.{col_within, read_entry}
use Rattle.hdfs_field.proofs.matrix.MatrixIndexTuple2UsizeUsize.index.Goals as goal

pub index-requires-2 : goal.index-requires-2
index-requires-2 g c =
    col_within c.self.inside.rows.items c.args.self.now c.args.index.0 c.args.index.1 c.index.result.now c.self.invariant c.self.view_is c.requires.0
    c.requires.1 c.index.ensures

pub returns : goal.returns
returns g c =
    read_entry c.self.inside.rows.items c.args.self.now c.args.index.0 c.args.index.1 c.index.result.now c.index-2.result.now c.self.invariant c.self.view_is
    c.requires.0 c.requires.1 c.index.ensures c.index-2.ensures
