use Rattle.std.proofs.Common.{◌≡◌, [], length, map, ap, ◌∙◌, ◌<◌, arith}
use Rattle.std.proofs.lemmas.List.{get_or_read}
use Rattle.hdfs_field.proofs.Combining.{rows_more, row_product}
use Rattle.hdfs_field.proofs.slices.Matrix+GF256.mul_slices.Goals as goal

pub loop-r-preserved : goal.loop-r-preserved
loop-r-preserved c =
    let m = c.args.self.now in
    let rows = c.args.rows.now in
    let product = c.in_ok-mul_row.field-0 in
    let inputs : map (λ p. p.now) c.deref.result.now ≡ rows = ap (map (λ p. p.now)) c.deref.ensures.value ∙ c.in_ok-inputs.ensures in
    let grid = c.rows-count.ensures.grid in
    let some : 0 < length rows = omega (arith, c.requires.size) in
    let even = c.len-len.ensures.value ∙ ap length (get_or_read rows 0 c.index-rows-0.result some c.index-rows-0.is []) in
    rows_more m rows c.loop-r.r c.loop-r.products.items c.push.new.self.items product c.loop-r.invariant
    (row_product m (map (λ p. p.now) c.deref.result.now) rows c.loop-r.r c.len-len.result product inputs even c.in_ok-mul_row.ensures) c.in_ok-push.ensures.items
