use Rattle.std.proofs.Common.{◌++◌, sym, ap, ◌∙◌}
use Rattle.hdfs_ec.specs.Striping.{row_cells}
use Rattle.hdfs_ec.proofs.Gathering.{cells_none, cells_more}
use Rattle.hdfs_ec.proofs.stripes.cells_of.Goals as goal

pub loop-row-init : goal.loop-row-init
loop-row-init c = c.new-cells.ensures.items ∙ sym (cells_none c.args.cell c.args.shares.now)

pub loop-row-preserved : goal.loop-row-preserved
loop-row-preserved c =
    c.in_ok-push_row.ensures ∙ ap (λ xs. xs ++ row_cells c.args.cell c.args.shares.now c.loop-row.row) c.loop-row.invariant
    ∙ sym (cells_more c.args.cell c.args.shares.now c.loop-row.row)
