use Rattle.std.proofs.Common.{◌≡◌, ◌<◌, length, take, drop, arith, ap, sym, ◌∙◌}
use Rattle.std.specs.Int.{w32, from_be_bytes}
use Rattle.std.proofs.lemmas.List.{take_min, drop_min}
use Rattle.hdfs_wire.specs.Checksums.{sum_of}
use Rattle.hdfs_wire.proofs.Chunks.{Left, Left-all, cut_short, Left-more, zero_iff, is_false, differs}
use Rattle.hdfs_wire.proofs.checksums.chunks_hold.Goals as goal

pub returns-then-size-eq0 : goal.returns-then-size-eq0
returns-then-size-eq0 c = zero_iff c.args.kind c.args.size c.args.checksum.now c.args.payload.now c.is_empty.result (omega arith) c.is_empty.ensures

pub pairs-init : goal.pairs-init
pairs-init c = Left-all c.args.kind c.args.size c.args.checksum.now c.args.payload.now

pub returns-then-number-sum_of : goal.returns-then-number-sum_of
returns-then-number-sum_of c =
    let some : 0 < length c.chunks.rest.now = grind arith in
    let sum_is : c.number-in-chunks.result ≡ from_be_bytes w32 (take 4 c.chunks.sums.now) = c.number-in-chunks.ensures ∙ ap (from_be_bytes w32) c.split_at-in-chunks.ensures.front in
    let chunk_is : c.split_at-in-chunks-2.result.0.now ≡ take c.args.size c.chunks.rest.now =
    c.split_at-in-chunks-2.ensures.front ∙ ap (λ n. take n c.chunks.rest.now) c.min.ensures ∙ take_min c.args.size c.chunks.rest.now in
    let other_is : c.sum_of.result ≡ sum_of c.args.kind (take c.args.size c.chunks.rest.now) = c.sum_of.ensures ∙ ap (sum_of c.args.kind) chunk_is in
    is_false (differs c.args.kind c.args.size c.args.checksum.now c.args.payload.now c.chunks.sums.now c.chunks.rest.now c.chunks.invariant some (λ e. c.if-number-sum_of.true (sum_is ∙ e ∙ sym other_is)))

pub chunks-preserved : goal.chunks-preserved
chunks-preserved c =
    let some : 0 < length c.chunks.rest.now = grind arith in
    let sum_is : c.number-in-chunks.result ≡ from_be_bytes w32 (take 4 c.chunks.sums.now) = c.number-in-chunks.ensures ∙ ap (from_be_bytes w32) c.split_at-in-chunks.ensures.front in
    let chunk_is : c.split_at-in-chunks-2.result.0.now ≡ take c.args.size c.chunks.rest.now =
    c.split_at-in-chunks-2.ensures.front ∙ ap (λ n. take n c.chunks.rest.now) c.min.ensures ∙ take_min c.args.size c.chunks.rest.now in
    let other_is : c.sum_of.result ≡ sum_of c.args.kind (take c.args.size c.chunks.rest.now) = c.sum_of.ensures ∙ ap (sum_of c.args.kind) chunk_is in
    let left_is : c.split_at-in-chunks-2.result.1.now ≡ drop c.args.size c.chunks.rest.now =
    c.split_at-in-chunks-2.ensures.back ∙ ap (λ n. drop n c.chunks.rest.now) c.min.ensures ∙ drop_min c.args.size c.chunks.rest.now in
    let sums_is = c.split_at-in-chunks.ensures.back in
    rw (sums_is, left_is) (Left-more c.args.kind c.args.size c.args.checksum.now c.args.payload.now c.chunks.sums.now c.chunks.rest.now c.chunks.invariant some (omega arith) (sym sum_is ∙ c.if-number-sum_of.false ∙ other_is))

pub returns-then-sums-lt4 : goal.returns-then-sums-lt4
returns-then-sums-lt4 c =
    let some : 0 < length c.chunks.rest.now = grind arith in
    is_false (cut_short c.args.kind c.args.size c.args.checksum.now c.args.payload.now c.chunks.sums.now c.chunks.rest.now c.chunks.invariant some (omega arith))

-- ---- two chunks at a time

pub returns-then-number-is : goal.returns-then-number-is
returns-then-number-is c =
    let kind = c.args.kind in
    let size = c.args.size in
    let sums = c.pairs.sums.now in
    let rest = c.pairs.rest.now in
    let number_is : c.number.result ≡ from_be_bytes w32 (take 4 sums) = c.number.ensures ∙ ap (from_be_bytes w32) c.split_at.ensures.front in
    let sum_is : c.sums_of-is.result.0 ≡ sum_of kind (take size rest) = c.sums_of-is.ensures.first ∙ ap (sum_of kind) c.split_at-in-pairs-2.ensures.front in
    is_false (differs kind size c.args.checksum.now c.args.payload.now sums rest c.pairs.invariant (omega arith) (λ e. c.if-number-is.true (number_is ∙ e ∙ sym sum_is)))

pub returns-then-number-next_is : goal.returns-then-number-next_is
returns-then-number-next_is c =
    let kind = c.args.kind in
    let size = c.args.size in
    let sums = c.pairs.sums.now in
    let rest = c.pairs.rest.now in
    let number_is : c.number.result ≡ from_be_bytes w32 (take 4 sums) = c.number.ensures ∙ ap (from_be_bytes w32) c.split_at.ensures.front in
    let sum_is : c.sums_of-is.result.0 ≡ sum_of kind (take size rest) = c.sums_of-is.ensures.first ∙ ap (sum_of kind) c.split_at-in-pairs-2.ensures.front in
    let after = Left-more kind size c.args.checksum.now c.args.payload.now sums rest c.pairs.invariant (omega arith) (omega arith) (sym number_is ∙ c.if-number-is.false ∙ sum_is) in
    let left : Left kind size c.args.checksum.now c.args.payload.now c.split_at.result.1.now c.split_at-in-pairs-2.result.1.now
    = rw (c.split_at.ensures.back, c.split_at-in-pairs-2.ensures.back) after in
    let next_number : c.number-in-pairs.result ≡ from_be_bytes w32 (take 4 c.split_at.result.1.now) = c.number-in-pairs.ensures ∙ ap (from_be_bytes w32) c.split_at-in-pairs.ensures.front in
    let next_is : c.sums_of-is.result.1 ≡ sum_of kind (take size c.split_at-in-pairs-2.result.1.now) = c.sums_of-is.ensures.second ∙ ap (sum_of kind) c.split_at-in-pairs-3.ensures.front in
    let behind = c.split_at-in-pairs-2.ensures.back_len in
    is_false (differs kind size c.args.checksum.now c.args.payload.now c.split_at.result.1.now c.split_at-in-pairs-2.result.1.now left (omega arith)
    (λ e. c.if-number-next_is.true (next_number ∙ e ∙ sym next_is)))

pub pairs-preserved : goal.pairs-preserved
pairs-preserved c =
    let kind = c.args.kind in
    let size = c.args.size in
    let sums = c.pairs.sums.now in
    let rest = c.pairs.rest.now in
    let number_is : c.number.result ≡ from_be_bytes w32 (take 4 sums) = c.number.ensures ∙ ap (from_be_bytes w32) c.split_at.ensures.front in
    let sum_is : c.sums_of-is.result.0 ≡ sum_of kind (take size rest) = c.sums_of-is.ensures.first ∙ ap (sum_of kind) c.split_at-in-pairs-2.ensures.front in
    let after = Left-more kind size c.args.checksum.now c.args.payload.now sums rest c.pairs.invariant (omega arith) (omega arith) (sym number_is ∙ c.if-number-is.false ∙ sum_is) in
    let left : Left kind size c.args.checksum.now c.args.payload.now c.split_at.result.1.now c.split_at-in-pairs-2.result.1.now
    = rw (c.split_at.ensures.back, c.split_at-in-pairs-2.ensures.back) after in
    let next_number : c.number-in-pairs.result ≡ from_be_bytes w32 (take 4 c.split_at.result.1.now) = c.number-in-pairs.ensures ∙ ap (from_be_bytes w32) c.split_at-in-pairs.ensures.front in
    let next_is : c.sums_of-is.result.1 ≡ sum_of kind (take size c.split_at-in-pairs-2.result.1.now) = c.sums_of-is.ensures.second ∙ ap (sum_of kind) c.split_at-in-pairs-3.ensures.front in
    let behind = c.split_at-in-pairs-2.ensures.back_len in
    let sums_left = c.split_at.ensures.back_len in
    rw (c.split_at-in-pairs.ensures.back, c.split_at-in-pairs-3.ensures.back)
    (Left-more kind size c.args.checksum.now c.args.payload.now c.split_at.result.1.now c.split_at-in-pairs-2.result.1.now left (omega arith) (omega arith)
    (sym next_number ∙ c.if-number-next_is.false ∙ next_is))
