use Rattle.hdfs_field.specs.Lanes.{AreRowTables}
use Rattle.hdfs_field.proofs.slices.Matrix+GF256.row_tables.Given as goal

abbrev pub invariant-loop-c : goal.invariant-loop-c
invariant-loop-c l = AreRowTables l.self l.r l.c l.all.items
