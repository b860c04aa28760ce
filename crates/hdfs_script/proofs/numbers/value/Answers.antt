use Rattle.std.proofs.Common.{arith}
use Rattle.hdfs_script.proofs.NumberLemmas.{too_large}
use Rattle.hdfs_script.proofs.numbers.value.Goals as goal

-- a digit more makes the value too large
pub returns-in_err-checked_mul : goal.returns-in_err-checked_mul
returns-in_err-checked_mul c =
    let large = rw c.in_err-checked_mul.was at c.checked_mul.ensures in
    let large' = rw c.from.ensures at large in
    rw c.from_residual.ensures (too_large c.args.base c.loop-c.value c.loop-c.c-index c.args.digits.now _ c.requires.base (omega arith) c.loop-c.invariant (omega (arith, large')))

pub returns-in_err-value : goal.returns-in_err-value
returns-in_err-value c =
    let large = rw c.in_err-value.was at c.checked_add.ensures in
    let product = rw c.in_ok-checked_mul.was at c.checked_mul.ensures in
    let product' = rw c.from.ensures at product in
    rw c.from_residual-in_err-value.ensures (too_large c.args.base c.loop-c.value c.loop-c.c-index c.args.digits.now _ c.requires.base (omega arith) c.loop-c.invariant (omega (arith, large, product'.1, c.from-digit.ensures)))
