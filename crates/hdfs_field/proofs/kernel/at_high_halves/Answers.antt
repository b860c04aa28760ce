use Rattle.hdfs_field.proofs.LaneLemmas.{lanes-high, high-lt, positions_fit, looked_up}
use Rattle.hdfs_field.proofs.kernel.at_high_halves.Goals as goal

pub swizzle : goal.swizzle
swizzle c = positions_fit _ _ (lanes-high c.args.bytes c.fits-bytes.0) (high-lt c.args.bytes c.fits-bytes.0 c.fits-bytes.1)

pub returns : goal.returns
returns c = λ entry twice. looked_up _ _ (lanes-high c.args.bytes c.fits-bytes.0) (high-lt c.args.bytes c.fits-bytes.0 c.fits-bytes.1) c.args.table entry twice
