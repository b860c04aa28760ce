use Rattle.std.proofs.Common.{◌≡◌, ℕ, ◌<◌, List, length, get_or, map, sym, ap, subst, ◌∙◌, arith}
use Rattle.hdfs_field.specs.declared.gf256.GF256.{GF256}
use Rattle.hdfs_field.specs.Elements.{element, gf256}
use Rattle.hdfs_field.specs.Matrices.{entry, total}
use Rattle.hdfs_field.specs.Slices.{byte_at}
use Rattle.hdfs_field.proofs.Writes.{total_more}
use Rattle.hdfs_field.proofs.LaneLemmas.{slice_at}
use Rattle.hdfs_field.proofs.slices.Matrix+GF256.combined_byte.Goals as goal

pub bounds-inputs-q : goal.bounds-inputs-q
bounds-inputs-q c =
    let cols = c.cols-c-end.ensures.is in
    let count = c.requires.count in
    subst (λ (s : List ℕ). c.args.q < length s) (slice_at c.args.inputs.now c.loop-c.c) (c.requires.room c.loop-c.c (omega arith))

pub loop-c-init : goal.loop-c-init
unfolding total
loop-c-init c = c.zero-sum.ensures

pub loop-c-preserved : goal.loop-c-preserved
loop-c-preserved c =
    let m = c.args.self.now in
    let shards = map (λ p. p.now) c.args.inputs.now in
    let f : ℕ → GF256 = λ n. gf256.product (entry gf256 m c.args.r n) (element (byte_at shards n c.args.q)) in
    let read = ap (λ (s : List ℕ). element (get_or s c.args.q 0)) (sym (slice_at c.args.inputs.now c.loop-c.c)) in
    let term : c.mul.result ≡ f c.loop-c.c
    = c.mul.ensures.is ∙ ap (λ (x : GF256). gf256.product x c.from.result) c.at.ensures
    ∙ ap (gf256.product (entry gf256 m c.args.r c.loop-c.c)) (c.from.ensures ∙ read) in
    c.add-sum.ensures ∙ ap (λ (x : GF256). gf256.sum c.loop-c.sum x) term ∙ ap (λ (x : GF256). gf256.sum x (f c.loop-c.c)) c.loop-c.invariant
    ∙ sym (total_more gf256 c.loop-c.c f)
