use Rattle.std.proofs.Common.{◌≡◌, ◌++◌, ◌+◌, ◌-◌, ◌*◌, ◌≤◌, List, ℕ, length, take, drop, arith, ap, refl, ◌∙◌}
use Rattle.std.specs.Int.{w32, to_be_bytes}
use Rattle.std.proofs.lemmas.List.{take_min, drop_min, length-drop}
use Rattle.std.proofs.lemmas.Nat.{le-div}
use Rattle.hdfs_wire.specs.Crc.{crc32c_of}
use Rattle.hdfs_wire.specs.Outgoing.{chunk_count, first_sums}
use Rattle.hdfs_wire.proofs.WrittenPacket.{sums_none, sums_more, rest_more}
use Rattle.hdfs_wire.proofs.write_packet.put_checksums.Goals as goal

-- two more whole chunks are among all chunks
within_two : (size done : ℕ) (payload rest : List ℕ) → 1 ≤ size → rest ≡ drop (done * size) payload → 2 * size ≤ length rest → done + 2 ≤ chunk_count size (length payload)
within_two size done payload rest some at room =
    let left = ap length at ∙ length-drop (done * size) payload in
    let whole : (done + 2) * size ≡ done * size + 2 * size = omega arith in
    le-div (done + 2) (length payload + (size - 1)) size some (omega arith)

pub pairs-init : goal.pairs-init
pairs-init c = record {
  out = sums_none c.args.out.now.items c.args.payload.now c.args.size;
  rest = (let e : 0 * c.args.size ≡ 0 = omega arith in rw e refl);
  within = omega arith;
}

pub pairs-preserved : goal.pairs-preserved
pairs-preserved c =
    let size : ℕ = c.args.size in
    let payload : List ℕ = c.args.payload.now in
    let rest : List ℕ = c.pairs.rest.now in
    let here = c.pairs.invariant.rest in
    let sum_is : to_be_bytes w32 c.crc32c_of_two-sum.result.0 ≡ to_be_bytes w32 (crc32c_of (take size rest))
    = ap (to_be_bytes w32) (c.crc32c_of_two-sum.ensures.first ∙ ap crc32c_of c.split_at.ensures.front) in
    let first = c.in_ok-put_sum.ensures ∙ sums_more c.args.out.now.items c.pairs.out.items (to_be_bytes w32 c.crc32c_of_two-sum.result.0) rest payload size c.pairs.done c.pairs.invariant.out here sum_is in
    let after : c.split_at.result.1.now ≡ drop ((c.pairs.done + 1) * size) payload = rest_more rest c.split_at.result.1.now payload size c.pairs.done here c.split_at.ensures.back in
    let next_is : to_be_bytes w32 c.crc32c_of_two-sum.result.1 ≡ to_be_bytes w32 (crc32c_of (take size c.split_at.result.1.now))
    = ap (to_be_bytes w32) (c.crc32c_of_two-sum.ensures.second ∙ ap crc32c_of c.split_at-in-pairs.ensures.front) in
    let next = c.in_ok-put_sum-2.ensures
    ∙ sums_more c.args.out.now.items c.put_sum.new.out.items (to_be_bytes w32 c.crc32c_of_two-sum.result.1) c.split_at.result.1.now payload size (c.pairs.done + 1) first after next_is in
    let two : c.pairs.done + 1 + 1 ≡ c.pairs.done + 2 = omega arith in
    let count = c.chunk_count-count.ensures in
    let within = within_two size c.pairs.done payload rest c.requires.0 here c.pairs-test.true in
    record {
      out = next ∙ ap (λ (n : ℕ). c.args.out.now.items ++ first_sums n size payload) two;
      rest = rest_more c.split_at.result.1.now c.split_at-in-pairs.result.1.now payload size (c.pairs.done + 1) after c.split_at-in-pairs.ensures.back
          ∙ ap (λ (n : ℕ). drop (n * size) payload) two;
      within = omega (arith, within);
    }

pub chunks-preserved : goal.chunks-preserved
chunks-preserved c =
    let size : ℕ = c.args.size in
    let rest : List ℕ = c.chunks.rest.now in
    let chunk_is : c.split_at-in-chunks.result.0.now ≡ take size rest = c.split_at-in-chunks.ensures.front ∙ ap (λ n. take n rest) c.min.ensures ∙ take_min size rest in
    let after_is : c.split_at-in-chunks.result.1.now ≡ drop size rest = c.split_at-in-chunks.ensures.back ∙ ap (λ n. drop n rest) c.min.ensures ∙ drop_min size rest in
    let sum_is : to_be_bytes w32 c.crc32c.result ≡ to_be_bytes w32 (crc32c_of (take size rest)) = ap (to_be_bytes w32) (c.crc32c.ensures ∙ ap crc32c_of chunk_is) in
    record {
      out = c.in_ok-put_sum-3.ensures
          ∙ sums_more c.args.out.now.items c.chunks.out.items (to_be_bytes w32 c.crc32c.result) rest c.args.payload.now size c.chunks.counter c.chunks.invariant.out c.chunks.invariant.rest sum_is;
      rest = rest_more rest c.split_at-in-chunks.result.1.now c.args.payload.now size c.chunks.counter c.chunks.invariant.rest after_is;
    }
