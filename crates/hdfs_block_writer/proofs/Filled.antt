-- Bytes go into the packet that is being filled.
use Rattle.std.proofs.Common.{◌≡◌, ℕ, pos, ◌+◌, ◌-◌, ◌<◌, ◌≤◌, List, ◌++◌, length, Some, ◌∙◌, ap, subst, arith}
use Rattle.std.proofs.lemmas.List.{length-append}
use Rattle.hdfs_wire.specs.Outgoing.{Outgoing}
use Rattle.hdfs_block_writer.specs.declared.block_writer.BlockWriter.{BlockWriter}
use Rattle.hdfs_block_writer.specs.Packing.{IsNext, filling_of}
use Rattle.hdfs_block_writer.specs.BlockWriters.{IsFilling, IsKept, start_of}

-- a packet that took bytes is the next one still
pub next_after : (chunk size start seqno : ℕ) (a b : Outgoing) → IsNext chunk size start seqno a → b.header ≡ record a.header { data_len = pos (length b.payload) } → b.chunk ≡ a.chunk → b.limit ≡ a.limit → IsNext chunk size start seqno b
next_after chunk size start seqno a b next header chunks limit = record {
  begins = ap (λ h. h.offset_in_block) header ∙ next.begins;
  numbered = ap (λ h. h.seqno) header ∙ next.numbered;
  not_last = ap (λ h. h.last_packet_in_block) header ∙ next.not_last;
  chunks = chunks ∙ next.chunks;
  limit = limit ∙ next.limit;
}

-- and the writer keeps what it kept
pub kept_filled : (w : BlockWriter) (a b : Outgoing) (more : List ℕ) (n : ℕ) → IsKept w → IsNext w.chunk w.packet_size (start_of w) w.seqno a → a.payload ≡ filling_of w.packet → b.header ≡ record a.header { data_len = pos (length b.payload) }
    → b.chunk ≡ a.chunk → b.limit ≡ a.limit → b.payload ≡ a.payload ++ more → length more ≡ n → 0 < n → w.length + n ≤ w.block_size → length b.payload ≤ b.limit → IsKept (record w { packet = Some b; length = w.length + n })
kept_filled w a b more n kept next payload header chunks limit filled count some room within =
    let len : length b.payload ≡ length (filling_of w.packet) + n = omega (arith, ap length filled, length-append a.payload more, ap length payload, count) in
    let start : start_of w ≡ w.length + n - length b.payload = omega (arith, len, kept.filled) in
    record {
      sizes = kept.sizes;
      filled = omega (arith, len, kept.filled);
      within = (room, kept.within.1);
      counted = omega (arith, start, kept.counted);
      packet = λ packet is.
          let same : b ≡ packet = cc is in
          subst (IsFilling (record w { packet = Some b; length = w.length + n })) same (record {
            next = subst (λ (at : ℕ). IsNext w.chunk w.packet_size at w.seqno b) start (next_after w.chunk w.packet_size (start_of w) w.seqno a b next header chunks limit);
            some = omega (arith, len, some);
            within = within;
          });
    }
