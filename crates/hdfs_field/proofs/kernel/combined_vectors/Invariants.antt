use Rattle.std.proofs.Common.{ℕ, ◌+◌, List, length, map}
use Rattle.hdfs_field.specs.declared.gf256.GF256.{GF256}
use Rattle.hdfs_field.specs.Lanes.{HasLanes, AreRowTables}
use Rattle.hdfs_field.specs.Slices.{combined_below}
use Rattle.hdfs_field.proofs.kernel.combined_vectors.Given as goal

abbrev pub invariant-loop-c : goal.invariant-loop-c
invariant-loop-c l = record {
  first : (m : List (List GF256)) (r : ℕ) → AreRowTables m r (length l.inputs) l.tables
      → HasLanes l.first (λ k. (combined_below m (map (λ p. p.now) l.inputs) r l.c (l.i + k)).value);
  second : (m : List (List GF256)) (r : ℕ) → AreRowTables m r (length l.inputs) l.others
      → HasLanes l.second (λ k. (combined_below m (map (λ p. p.now) l.inputs) r l.c (l.i + k)).value);
}
