use Rattle.std.proofs.Common.{ℕ, ◌+◌, length, map, sym, subst, ◌∙◌, arith}
use Rattle.hdfs_field.specs.Lanes.{HasLanes, AreRowTables}
use Rattle.hdfs_field.specs.Matrices.{width}
use Rattle.hdfs_field.specs.Slices.{combined_below}
use Rattle.hdfs_field.proofs.LaneLemmas.{slice_count}
use Rattle.hdfs_field.proofs.slices.Matrix+GF256.write_row.Goals as goal

pub vectors-preserved : goal.vectors-preserved
vectors-preserved c =
    let m = c.args.self.now in
    let shards = map (λ p. p.now) c.args.inputs.now in
    let n = width m in
    let count = slice_count c.args.inputs.now n c.requires.even.size in
    let so : AreRowTables m c.args.r (length c.args.inputs.now) c.deref.result.now
    = subst (λ k. AreRowTables m c.args.r k c.deref.result.now) (sym count) (subst (AreRowTables m c.args.r n) (sym c.deref.ensures.value) c.in_ok-tables.ensures) in
    let lanes = subst (λ (k : ℕ). HasLanes c.combined_vector.result (λ j. (combined_below m shards c.args.r k (c.vectors.i + j)).value)) count
    (c.combined_vector.ensures m c.args.r so) in
    record {
      within = omega arith;
      long = c.store.ensures.long ∙ c.vectors.invariant.long;
      first = c.store.ensures.first m shards c.args.r n c.vectors.invariant.first lanes;
    }
