use Rattle.std.proofs.Common.{◌+◌, ◌∷◌, [], ℕ, drop, get_or, ap, sym, ◌∙◌, arith}
use Rattle.std.proofs.lemmas.List.{drop_more, drop_all}
use Rattle.hdfs_wire.specs.Crc.{enter}
use Rattle.hdfs_wire.proofs.Register.{enter-append, enter-none}
use Rattle.hdfs_wire.proofs.crc.enter_bytes.Goals as goal

pub loop-byte-preserved : goal.loop-byte-preserved
loop-byte-preserved c = λ p n.
    let r : ℕ = c.loop-byte.after in
    let i : ℕ = c.loop-byte.byte-index in
    let b : ℕ = get_or c.args.bytes.now i 0 in
    let here = drop_more c.args.bytes.now i 0 (omega arith) in
    let step = c.enter_byte-after.ensures p n in
    rw step (sym (enter-append p r (b ∷ []) (drop (i + 1) c.args.bytes.now)) ∙ sym (ap (enter p r) here) ∙ c.loop-byte.invariant p n)

pub returns : goal.returns
returns c = λ p n.
    let end = drop_all c.loop-byte.byte-index c.args.bytes.now (omega arith) in
    sym (ap (enter p c.loop-byte.after) end ∙ enter-none p c.loop-byte.after) ∙ c.loop-byte.invariant p n
