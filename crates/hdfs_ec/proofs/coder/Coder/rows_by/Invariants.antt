use Rattle.std.proofs.Common.{length}
use Rattle.hdfs_ec.specs.Restoring.{restoring_at}
use Rattle.hdfs_ec.proofs.Restoring.{HasRows}
use Rattle.hdfs_ec.proofs.coder.Coder.rows_by.Given as goal

abbrev pub invariant-loop-j : goal.invariant-loop-j
invariant-loop-j l = HasRows (length l.missing) l.self.units (restoring_at l.inverse l.held l.first (length l.missing)) l.j l.rows
