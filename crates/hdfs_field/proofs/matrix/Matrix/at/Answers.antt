use Rattle.hdfs_field.proofs.Grids.{col_within}
use Rattle.hdfs_field.proofs.matrix.Matrix.at.Goals as goal

pub index-requires-2 : goal.index-requires-2
index-requires-2 g c =
    col_within c.self.inside.rows.items c.args.self.now c.args.r c.args.c c.index.result.now c.self.invariant c.self.view_is c.requires.row c.requires.col c.index.ensures
