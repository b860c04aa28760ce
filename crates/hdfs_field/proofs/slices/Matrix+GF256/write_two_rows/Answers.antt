use Rattle.std.proofs.Common.{ℕ, ◌+◌, length, map, sym, subst, ◌∙◌, arith}
use Rattle.hdfs_field.specs.Lanes.{HasLanes, AreRowTables}
use Rattle.hdfs_field.specs.Matrices.{width}
use Rattle.hdfs_field.specs.Slices.{combined_below}
use Rattle.hdfs_field.proofs.LaneLemmas.{slice_count}
use Rattle.hdfs_field.proofs.slices.Matrix+GF256.write_two_rows.Goals as goal

pub vectors-preserved : goal.vectors-preserved
vectors-preserved c =
    let m = c.args.self.now in
    let shards = map (λ p. p.now) c.args.inputs.now in
    let n = width m in
    let count = slice_count c.args.inputs.now n c.requires.even.size in
    let so : AreRowTables m c.args.r (length c.args.inputs.now) c.deref.result.now
    = subst (λ k. AreRowTables m c.args.r k c.deref.result.now) (sym count) (subst (AreRowTables m c.args.r n) (sym c.deref.ensures.value) c.in_ok-tables.ensures) in
    let other_so : AreRowTables m c.args.next (length c.args.inputs.now) c.deref-in-vectors.result.now
    = subst (λ k. AreRowTables m c.args.next k c.deref-in-vectors.result.now) (sym count) (subst (AreRowTables m c.args.next n) (sym c.deref-in-vectors.ensures.value) c.in_ok-other_tables.ensures) in
    let lanes = subst (λ (k : ℕ). HasLanes c.combined_vectors.result.0 (λ j. (combined_below m shards c.args.r k (c.vectors.i + j)).value)) count
    (c.combined_vectors.ensures.first m c.args.r so) in
    let other_lanes = subst (λ (k : ℕ). HasLanes c.combined_vectors.result.1 (λ j. (combined_below m shards c.args.next k (c.vectors.i + j)).value)) count
    (c.combined_vectors.ensures.second m c.args.next other_so) in
    record {
      within = omega arith;
      long = c.store.ensures.long ∙ c.vectors.invariant.long;
      first = c.store.ensures.first m shards c.args.r n c.vectors.invariant.first lanes;
      other_long = c.store-in-vectors.ensures.long ∙ c.vectors.invariant.other_long;
      second = c.store-in-vectors.ensures.first m shards c.args.next n c.vectors.invariant.second other_lanes;
    }
