use Rattle.std.proofs.Common.{sym, subst}
use Rattle.hdfs_field.specs.Matrices.{IsGrid}
use Rattle.hdfs_field.proofs.Grids.{taken_is, grid-take}
use Rattle.hdfs_field.proofs.matrix.Matrix.truncate_rows.Goals as goal

pub returns : goal.returns
returns g c = taken_is c.self.inside.rows.items c.truncate.new.self.items c.args.self.now c.args.n c.self.view_is c.truncate.ensures.items

pub invariant_of-self : goal.invariant_of-self
invariant_of-self g c =
    subst IsGrid (sym (taken_is c.self.inside.rows.items c.truncate.new.self.items c.args.self.now c.args.n c.self.view_is c.truncate.ensures.items))
    (grid-take c.args.self.now c.args.n (subst IsGrid c.self.view_is c.self.invariant) c.requires.some c.requires.within)
