use Rattle.std.proofs.Common.{refl, arith}
use Rattle.hdfs_field.proofs.slices.are_even.Goals as goal

pub returns : goal.returns
returns c = (λ _. record { size = c.if-slices-count.false; even = λ i lt. c.loop-i.invariant i (omega arith) }, λ _. refl)
