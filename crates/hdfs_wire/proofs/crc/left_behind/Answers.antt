use Rattle.std.proofs.Common.{◌≡◌, ◌+◌, ◌-◌, ℕ, suc, ap, ◌∙◌, arith}
use Rattle.hdfs_wire.specs.CrcTables.{zero_bytes}
use Rattle.hdfs_wire.proofs.crc.left_behind.Goals as goal

pub returns-then-zeros-lt8 : goal.returns-then-zeros-lt8
returns-then-zeros-lt8 c = λ p n f.
    let e : suc (0 + c.args.zeros) ≡ c.args.zeros + 1 = omega arith in
    n c.args.zeros c.args.byte (omega arith) (omega arith) ∙ ap (λ (k : ℕ). zero_bytes p k c.args.byte) e

pub returns-else-zeros-lt8 : goal.returns-else-zeros-lt8
returns-else-zeros-lt8 c = λ p n f.
    let e : suc (8 + (c.args.zeros - 8)) ≡ c.args.zeros + 1 = omega arith in
    f (c.args.zeros - 8) c.args.byte (omega arith) (omega arith) ∙ ap (λ (k : ℕ). zero_bytes p k c.args.byte) e
