use Rattle.std.proofs.Common.{sym, subst}
use Rattle.hdfs_field.specs.Matrices.{IsGrid}
use Rattle.hdfs_field.proofs.Grids.{swapped_is, grid-swap}
use Rattle.hdfs_field.proofs.matrix.Matrix.swap_rows.Goals as goal

pub returns-clause-swapped : goal.returns-clause-swapped
returns-clause-swapped g c = swapped_is c.self.inside.rows.items c.swap.new.self.items c.args.self.now c.args.a c.args.b c.self.view_is c.requires.first c.requires.second c.swap.ensures.items

pub invariant_of-self : goal.invariant_of-self
invariant_of-self g c =
    subst IsGrid
    (sym (swapped_is c.self.inside.rows.items c.swap.new.self.items c.args.self.now c.args.a c.args.b c.self.view_is c.requires.first c.requires.second c.swap.ensures.items))
    (grid-swap c.args.self.now c.args.a c.args.b (subst IsGrid c.self.view_is c.self.invariant) c.requires.first c.requires.second)

pub returns-clause-grid : goal.returns-clause-grid
returns-clause-grid g c = subst IsGrid c.self.view_is c.self.invariant
