use Rattle.std.proofs.Common.{◌+◌, length, get_or}
use Rattle.hdfs_ec.specs.Coding.{coefficient}
use Rattle.hdfs_ec.proofs.Restoring.{HasRows}
use Rattle.hdfs_ec.proofs.coder.Coder.minor.Given as goal

abbrev pub invariant-loop-i : goal.invariant-loop-i
invariant-loop-i l = HasRows (length l.missing) (length l.missing) (λ i j. coefficient (get_or l.held (l.first + i) 0) (get_or l.missing j 0)) l.i l.m
