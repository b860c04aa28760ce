-- The goals of BlockWriter::fill.
use Rattle.std.proofs.Common.{◌≡◌, ◌+◌, length, take, Some, sym, ap, subst, arith}
use Rattle.std.proofs.lemmas.List.{length-take-le, length-append}
use Rattle.hdfs_block_writer.specs.declared.block_writer.BlockWriter.{BlockWriter}
use Rattle.hdfs_block_writer.specs.BlockWriters.{IsKept}
use Rattle.hdfs_block_writer.proofs.Filled.{kept_filled}
use Rattle.hdfs_block_writer.proofs.block_writer.BlockWriter.fill.Goals as goal

pub returns-clause-kept : goal.returns-clause-kept
returns-clause-kept c =
    let a = c.in_ok-packet.packet in
    let b = c.write-taken.new.self in
    let n = c.write-taken.result in
    let e = c.in_ok-packet.ensures in
    let v = c.write-taken.ensures in
    let count : length (take n c.args.bytes.now) ≡ n = length-take-le n c.args.bytes.now (omega (arith, v.taken)) in
    subst (λ (w : BlockWriter). IsKept (record w { packet = Some b; length = w.length + n })) (sym e.same)
    (kept_filled c.args.self.now a b (take n c.args.bytes.now) n c.requires.kept e.next e.payload v.header v.kept.0 v.kept.1 v.payload count
    (omega (arith, v.taken, e.room, c.requires.bytes))
    (omega (arith, v.taken, c.requires.room))
    (omega (arith, v.taken, count, e.room, c.write-taken.ensures.kept.1, length-append a.payload (take n c.args.bytes.now), ap length v.payload)))
