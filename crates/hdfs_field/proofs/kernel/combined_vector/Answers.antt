use Rattle.std.proofs.Common.{◌≡◌, ℕ, ◌+◌, ◌≤◌, List, [], length, get_or, map, sym, ap, subst, ◌∙◌, arith}
use Rattle.hdfs_field.specs.Elements.{product, gf256}
use Rattle.hdfs_field.specs.Lanes.{HasLanes}
use Rattle.hdfs_field.specs.Matrices.{entry}
use Rattle.hdfs_field.specs.Slices.{combined_below}
use Rattle.hdfs_field.proofs.LaneLemmas.{combined_lanes_none, combined_lanes_more, slice_at}
use Rattle.hdfs_field.proofs.kernel.combined_vector.Goals as goal

pub load-requires : goal.load-requires
load-requires c = subst (λ (s : List ℕ). c.args.i + 32 ≤ length s) (slice_at c.args.inputs.now c.loop-c.c) (c.requires.room c.loop-c.c c.loop-c-test.true)

pub loop-c-init : goal.loop-c-init
loop-c-init c = λ m r tables. combined_lanes_none m (map (λ p. p.now) c.args.inputs.now) r c.args.i

pub loop-c-preserved : goal.loop-c-preserved
loop-c-preserved c = λ m r tables.
    let e = entry gf256 m r c.loop-c.c in
    let lt = c.loop-c-test.true in
    let times = c.times-sum.ensures e.value e.in_range (c.twice.ensures e.value (tables.low c.loop-c.c lt)) (c.twice-in-loop-c.ensures (product e.value 16) (tables.high c.loop-c.c lt)) in
    let read = c.load.ensures.lanes in
    let input = (get_or c.args.inputs.now c.loop-c.c (record { ref_ptr = (0, 0); now = [] })).now in
    let products : HasLanes c.times-sum.result (λ k. product e.value (get_or input (c.args.i + k) 0))
    = record { long = times.long; each = λ k l. times.each k l ∙ ap (product e.value) (read.each k l) } in
    combined_lanes_more m (map (λ p. p.now) c.args.inputs.now) r c.args.i c.loop-c.c c.loop-c.sum c.times-sum.result input c.load.ensures.bytes
    (sym (slice_at c.args.inputs.now c.loop-c.c)) (c.loop-c.invariant m r tables) products

pub returns : goal.returns
returns c = λ m r tables.
    let end : c.loop-c.c ≡ length c.args.inputs.now = omega arith in
    subst (λ (n : ℕ). HasLanes c.loop-c.sum (λ k. (combined_below m (map (λ p. p.now) c.args.inputs.now) r n (c.args.i + k)).value)) end (c.loop-c.invariant m r tables)
