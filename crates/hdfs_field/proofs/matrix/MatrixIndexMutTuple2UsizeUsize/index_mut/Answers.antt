use Rattle.std.proofs.Common.{refl, sym, subst}
use Rattle.hdfs_field.specs.Matrices.{IsGrid}
use Rattle.hdfs_field.proofs.Grids.{col_within, put_is, grid-with_entry, read_entry}
use Rattle.hdfs_field.proofs.matrix.MatrixIndexMutTuple2UsizeUsize.index_mut.Goals as goal

pub index_mut-requires : goal.index_mut-requires
index_mut-requires g c =
    col_within c.self.inside.rows.items c.args.self.now c.args.index.0 c.args.index.1 c.index_mut-row.result.now c.self.invariant c.self.view_is
    c.requires.0 c.requires.1 c.index_mut-row.ensures.value

pub invariant_of-self-lent : goal.invariant_of-self-lent
invariant_of-self-lent g c = λ w.
    subst IsGrid
    (sym (put_is c.self.inside.rows.items c.args.self.now c.args.index.0 c.args.index.1 w c.index_mut-row.result.now _ c.self.view_is c.requires.0 c.index_mut-row.ensures.value refl))
    (grid-with_entry c.args.self.now c.args.index.0 c.args.index.1 w (subst IsGrid c.self.view_is c.self.invariant))

pub returns : goal.returns
returns g c = (
  (
    refl,
    λ w.
        put_is c.self.inside.rows.items c.args.self.now c.args.index.0 c.args.index.1 w c.index_mut-row.result.now _ c.self.view_is c.requires.0
        c.index_mut-row.ensures.value refl,
  ),
  record {
    writes_back = tt;
    value =
        read_entry c.self.inside.rows.items c.args.self.now c.args.index.0 c.args.index.1 c.index_mut-row.result.now c.index_mut.result.now c.self.invariant
        c.self.view_is c.requires.0 c.requires.1 c.index_mut-row.ensures.value c.index_mut.ensures.value;
  },
)
