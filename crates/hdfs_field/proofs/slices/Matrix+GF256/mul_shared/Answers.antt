use Rattle.std.proofs.Common.{◌≡◌, ℕ, ◌+◌, [], length, map, sym, ap, subst, ◌∙◌, ◌<◌, arith}
use Rattle.std.proofs.lemmas.List.{get_or_read}
use Rattle.hdfs_field.specs.Slices.{IsRowProduct}
use Rattle.hdfs_field.proofs.Combining.{CombinedRows, rows_more, row_product}
use Rattle.hdfs_field.proofs.slices.Matrix+GF256.mul_shared.Goals as goal

pub pairs-preserved : goal.pairs-preserved
pairs-preserved c =
    let m = c.args.self.now in
    let rows = c.args.rows.now in
    let product = c.in_ok-product.product in
    let next = c.in_ok-product.next in
    let inputs : map (λ p. p.now) c.deref.result.now ≡ rows = ap (map (λ p. p.now)) c.deref.ensures.value ∙ c.in_ok-inputs.ensures in
    let grid = c.rows-count.ensures.grid in
    let some : 0 < length rows = omega (arith, c.requires.size) in
    let even = c.len-len.ensures.value ∙ ap length (get_or_read rows 0 c.index-rows-0.result some c.index-rows-0.is []) in
    let one = rows_more m rows c.pairs.r c.pairs.products.items c.push.new.self.items product c.pairs.invariant.rows
    (row_product m (map (λ p. p.now) c.deref.result.now) rows c.pairs.r c.len-len.result product inputs even c.in_ok-product.ensures.first) c.in_ok-push.ensures.items in
    let two = rows_more m rows (c.pairs.r + 1) c.push.new.self.items c.push-in-pairs.new.self.items next one
    (row_product m (map (λ p. p.now) c.deref.result.now) rows (c.pairs.r + 1) c.len-len.result next inputs even c.in_ok-product.ensures.second) c.in_ok-push-2.ensures.items in
    let at : c.pairs.r + 1 + 1 ≡ c.pairs.r + 2 = omega arith in
    record { within = omega arith; rows = subst (λ (k : ℕ). CombinedRows m rows c.push-in-pairs.new.self.items k) at two }

pub last-preserved : goal.last-preserved
last-preserved c =
    let m = c.args.self.now in
    let rows = c.args.rows.now in
    let bytes = c.in_ok-from_vec.field-0 in
    let inputs : map (λ p. p.now) c.deref-in-last.result.now ≡ rows = ap (map (λ p. p.now)) c.deref-in-last.ensures.value ∙ c.in_ok-inputs.ensures in
    let grid = c.rows-count.ensures.grid in
    let some : 0 < length rows = omega (arith, c.requires.size) in
    let even = c.len-len.ensures.value ∙ ap length (get_or_read rows 0 c.index-rows-0.result some c.index-rows-0.is []) in
    let written = subst (IsRowProduct m (map (λ p. p.now) c.deref-in-last.result.now) c.last.r c.len-len.result) (sym (c.in_ok-from_vec.ensures.ok ∙ c.into_vec.ensures))
    c.in_ok-product-2.ensures in
    rows_more m rows c.last.r c.last.products.items c.push-in-last.new.self.items bytes c.last.invariant
    (row_product m (map (λ p. p.now) c.deref-in-last.result.now) rows c.last.r c.len-len.result bytes inputs even written) c.in_ok-push-3.ensures.items
