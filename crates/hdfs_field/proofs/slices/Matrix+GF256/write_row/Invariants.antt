use Rattle.std.proofs.Common.{◌≡◌, ◌≤◌, ◌-◌, length, map}
use Rattle.hdfs_field.specs.Matrices.{width}
use Rattle.hdfs_field.specs.Slices.{AreFirst}
use Rattle.hdfs_field.proofs.slices.Matrix+GF256.write_row.Given as goal

abbrev pub decreases-vectors : goal.decreases-vectors
decreases-vectors l = length l.out - l.i

abbrev pub invariant-vectors : goal.invariant-vectors
invariant-vectors l = record {
  within : l.i ≤ length l.out;
  long : length l.out ≡ length l.initial.out;
  first : AreFirst l.self (map (λ p. p.now) l.inputs) l.r (width l.self) l.i l.out;
}

abbrev pub invariant-bytes : goal.invariant-bytes
invariant-bytes l = record {
  long : length l.out ≡ length l.initial.out;
  first : AreFirst l.self (map (λ p. p.now) l.inputs) l.r (width l.self) l.q l.out;
}
