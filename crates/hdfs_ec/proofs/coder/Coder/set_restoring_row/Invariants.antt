use Rattle.std.proofs.Common.{length}
use Rattle.hdfs_field.specs.Elements.{gf256}
use Rattle.hdfs_field.specs.Rows.{SetsBelow}
use Rattle.hdfs_ec.specs.Restoring.{restoring_at}
use Rattle.hdfs_ec.proofs.coder.Coder.set_restoring_row.Given as goal

abbrev pub invariant-loop-i : goal.invariant-loop-i
invariant-loop-i l = SetsBelow gf256 l.j l.i (restoring_at l.inverse l.held l.first (length l.missing) l.j) l.fn.rows l.rows
