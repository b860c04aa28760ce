use Rattle.std.proofs.Common.{refl, sym, subst}
use Rattle.hdfs_field.specs.Matrices.{IsGrid}
use Rattle.hdfs_field.proofs.Grids.{col_within, put_is, grid-with_entry}
use Rattle.hdfs_field.proofs.matrix.Matrix.set.Goals as goal

pub index_mut-requires-2 : goal.index_mut-requires-2
index_mut-requires-2 g c =
    col_within c.self.inside.rows.items c.args.self.now c.args.r c.args.c c.index_mut.result.now c.self.invariant c.self.view_is c.requires.row c.requires.col
    c.index_mut.ensures.value

pub returns : goal.returns
returns g c =
    put_is c.self.inside.rows.items c.args.self.now c.args.r c.args.c c.args.v c.index_mut.result.now _ c.self.view_is c.requires.row c.index_mut.ensures.value refl

pub invariant_of-self : goal.invariant_of-self
invariant_of-self g c =
    subst IsGrid
    (sym (put_is c.self.inside.rows.items c.args.self.now c.args.r c.args.c c.args.v c.index_mut.result.now _ c.self.view_is c.requires.row c.index_mut.ensures.value refl))
    (grid-with_entry c.args.self.now c.args.r c.args.c c.args.v (subst IsGrid c.self.view_is c.self.invariant))
