use Rattle.std.proofs.Common.{get_or}
use Rattle.hdfs_field.specs.Elements.{gf256}
use Rattle.hdfs_field.specs.Rows.{SetsBelow}
use Rattle.hdfs_ec.specs.Coding.{coefficient}
use Rattle.hdfs_ec.proofs.coder.Coder.set_minor_row.Given as goal

abbrev pub invariant-loop-j : goal.invariant-loop-j
invariant-loop-j l = SetsBelow gf256 l.i l.j (λ j. coefficient l.r (get_or l.missing j 0)) l.fn.m l.m
