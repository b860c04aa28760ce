use Rattle.hdfs_field.specs.Elements.{gf256}
use Rattle.hdfs_field.specs.Rows.{SetsBelow}
use Rattle.hdfs_field.specs.Matrices.{width}
use Rattle.hdfs_ec.specs.Coding.{coding_at}
use Rattle.hdfs_ec.proofs.coder.set_coding_row.Given as goal

abbrev pub invariant-loop-c : goal.invariant-loop-c
invariant-loop-c l = SetsBelow gf256 l.r l.c (λ c. coding_at (width l.fn.m) l.r c) l.fn.m l.m
