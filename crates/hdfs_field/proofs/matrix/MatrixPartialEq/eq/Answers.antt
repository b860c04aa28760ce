use Rattle.std.proofs.Common.{◌∙◌}
use Rattle.hdfs_field.proofs.Grids.{same_listed}
use Rattle.hdfs_field.proofs.matrix.MatrixPartialEq.eq.Goals as goal

pub returns : goal.returns
returns g c =
    c.eq.ensures
    ∙ same_listed g.T.PartialEq.eq c.self.inside.rows.items c.other.inside.rows.items c.args.self.now c.args.other.now c.self.view_is c.other.view_is
