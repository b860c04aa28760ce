-- At the end all marks are filled.
use Rattle.std.proofs.Common.{arith}
use Rattle.hdfs_globs.proofs.Marked.{marks-filled}
use Rattle.hdfs_globs.proofs.places.fill.Goals as goal

pub returns : goal.returns
returns c = λ n p marks. marks-filled n c.args.places.now c.loop-at.places c.loop-at.invariant.long p (λ k h. c.loop-at.invariant.behind k (omega (arith, c.loop-at.invariant.long))) marks
