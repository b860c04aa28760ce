use Rattle.std.proofs.Common.{List, ℕ, rules, ap, ◌∙◌}
use Rattle.std.specs.Int.{w32, w64, cast_unsigned, from_bool}
use Rattle.std.specs.Prelude.{FitsSigned as SFits}
use Rattle.std.proofs.lemmas.Int.{to_z-of_z}
use Rattle.std.proofs.lemmas.Result.{on_ok_weaker}
use Rattle.hdfs_wire.specs.declared.field.Value.TheVariants.{Varint, Eight, Four}
use Rattle.hdfs_wire.specs.Headers.{field}
use Rattle.hdfs_wire.specs.Fields.{field_spelling}
use Rattle.hdfs_wire.proofs.HeaderFields.{four, five, step, after_sync}
use Rattle.hdfs_wire.proofs.packet_header.put_header.Goals as goal

eight : ℕ → ℕ → List ℕ
eight number n = field_spelling (field number (Eight n))

varint : ℕ → ℕ → List ℕ
varint number n = field_spelling (field number (Varint n))

word : ℕ → ℕ → List ℕ
word number n = field_spelling (field number (Four n))

pub returns-in-None-clause-ok : goal.returns-in-None-clause-ok
unfolding eight varint word
returns-in-None-clause-ok c =
    let offset_fits : SFits w64 c.args.header.now.offset_in_block = search rules in
    let seqno_fits : SFits w64 c.args.header.now.seqno = search rules in
    let len_fits : SFits w32 c.args.header.now.data_len = search rules in
    let offset : ℕ = cast_unsigned w64 c.args.header.now.offset_in_block in
    let seqno : ℕ = cast_unsigned w64 c.args.header.now.seqno in
    let last : ℕ = from_bool c.args.header.now.last_packet_in_block in
    let len : ℕ = cast_unsigned w32 c.args.header.now.data_len in
    let a = step (eight 1) c.args.out.now.items c.put.new.out.items c.cast_unsigned-offset.result offset (c.cast_unsigned-offset.ensures ∙ ap (cast_unsigned w64) (to_z-of_z w64 c.args.header.now.offset_in_block offset_fits)) c.in_ok-put.ensures in
    let b = step (eight 2) c.put.new.out.items c.put-2.new.out.items c.cast_unsigned-seqno.result seqno (c.cast_unsigned-seqno.ensures ∙ ap (cast_unsigned w64) (to_z-of_z w64 c.args.header.now.seqno seqno_fits)) c.in_ok-put-2.ensures in
    let d = step (varint 3) c.put-2.new.out.items c.put-3.new.out.items c.from.result last c.from.ensures c.in_ok-put-3.ensures in
    let e = step (word 4) c.put-3.new.out.items c.put-4.new.out.items c.cast_unsigned.result len (c.cast_unsigned.ensures ∙ ap (cast_unsigned w32) (to_z-of_z w32 c.args.header.now.data_len len_fits)) c.in_ok-put-4.ensures in
    rw c.in-None.is (four c.args.out.now.items c.put.new.out.items c.put-2.new.out.items c.put-3.new.out.items c.put-4.new.out.items (eight 1 offset) (eight 2 seqno) (varint 3 last) (word 4 len) a b d e)

pub returns-in-Some-clause-ok : goal.returns-in-Some-clause-ok
unfolding eight varint word
returns-in-Some-clause-ok c =
    let offset_fits : SFits w64 c.args.header.now.offset_in_block = search rules in
    let seqno_fits : SFits w64 c.args.header.now.seqno = search rules in
    let len_fits : SFits w32 c.args.header.now.data_len = search rules in
    let offset : ℕ = cast_unsigned w64 c.args.header.now.offset_in_block in
    let seqno : ℕ = cast_unsigned w64 c.args.header.now.seqno in
    let last : ℕ = from_bool c.args.header.now.last_packet_in_block in
    let len : ℕ = cast_unsigned w32 c.args.header.now.data_len in
    let sync : ℕ = from_bool c.in-Some.sync in
    let a = step (eight 1) c.args.out.now.items c.put.new.out.items c.cast_unsigned-offset.result offset (c.cast_unsigned-offset.ensures ∙ ap (cast_unsigned w64) (to_z-of_z w64 c.args.header.now.offset_in_block offset_fits)) c.in_ok-put.ensures in
    let b = step (eight 2) c.put.new.out.items c.put-2.new.out.items c.cast_unsigned-seqno.result seqno (c.cast_unsigned-seqno.ensures ∙ ap (cast_unsigned w64) (to_z-of_z w64 c.args.header.now.seqno seqno_fits)) c.in_ok-put-2.ensures in
    let d = step (varint 3) c.put-2.new.out.items c.put-3.new.out.items c.from.result last c.from.ensures c.in_ok-put-3.ensures in
    let e = step (word 4) c.put-3.new.out.items c.put-4.new.out.items c.cast_unsigned.result len (c.cast_unsigned.ensures ∙ ap (cast_unsigned w32) (to_z-of_z w32 c.args.header.now.data_len len_fits)) c.in_ok-put-4.ensures in
    rw c.in-Some.is
    (on_ok_weaker c.put-in-Some.result
    (λ h. after_sync c.args.out.now.items c.put-4.new.out.items c.put-in-Some.new.out.items (eight 1 offset) (eight 2 seqno) (varint 3 last) (word 4 len) (varint 5 sync)
    (step (varint 5) c.put-4.new.out.items c.put-in-Some.new.out.items c.from-in-Some.result sync c.from-in-Some.ensures h)
    (five c.args.out.now.items c.put.new.out.items c.put-2.new.out.items c.put-3.new.out.items c.put-4.new.out.items (eight 1 offset) (eight 2 seqno) (varint 3 last) (word 4 len) (varint 5 sync) a b d e))
    c.put-in-Some.ensures)
