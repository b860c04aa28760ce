use Rattle.std.proofs.Common.{◌≡◌, map}
use Rattle.hdfs_field.specs.Slices.{combined_below}
use Rattle.hdfs_field.proofs.slices.Matrix+GF256.combined_byte.Given as goal

abbrev pub invariant-loop-c : goal.invariant-loop-c
invariant-loop-c l = l.sum ≡ combined_below l.self (map (λ p. p.now) l.inputs) l.r l.c l.q
