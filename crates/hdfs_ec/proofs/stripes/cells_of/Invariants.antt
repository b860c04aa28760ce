use Rattle.std.proofs.Common.{◌≡◌}
use Rattle.hdfs_ec.specs.Striping.{cells}
use Rattle.hdfs_ec.proofs.stripes.cells_of.Given as goal

abbrev pub invariant-loop-row : goal.invariant-loop-row
invariant-loop-row l = l.cells.items ≡ cells l.cell l.shares l.row
