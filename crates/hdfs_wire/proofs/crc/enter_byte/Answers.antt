use Rattle.std.proofs.Common.{◌%◌, ◌/◌, ap, sym, ◌∙◌, lit<, ℕ, arith}
use Rattle.std.specs.Prelude.{bit_xor}
use Rattle.std.proofs.lemmas.Nat.{xor_of_8}
use Rattle.hdfs_wire.proofs.Register.{enter-one}
use Rattle.hdfs_wire.proofs.crc.enter_byte.Goals as goal

pub returns : goal.returns
returns c = λ p rule.
    let place : ℕ = bit_xor (c.args.register % 256) c.args.byte in
    let entry = rule 0 place (lit< tt) (xor_of_8 (c.args.register % 256) c.args.byte (omega arith) (omega arith)) in
    ap (λ (x : ℕ). bit_xor x (c.args.register / 256)) entry ∙ sym (enter-one p c.args.register c.args.byte (omega arith))
