use Rattle.std.proofs.Common.{arith}
use Rattle.hdfs_field.proofs.LaneLemmas.{lanes-low, positions_fit, looked_up}
use Rattle.hdfs_field.proofs.kernel.at_low_halves.Goals as goal

pub swizzle : goal.swizzle
swizzle c = positions_fit _ _ (lanes-low c.args.bytes c.fits-bytes.0) (λ k l. omega arith)

pub returns : goal.returns
returns c = λ entry twice. looked_up _ _ (lanes-low c.args.bytes c.fits-bytes.0) (λ k l. omega arith) c.args.table entry twice
