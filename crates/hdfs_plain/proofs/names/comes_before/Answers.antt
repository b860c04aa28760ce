-- Where one of them ends the lengths decide.
use Rattle.std.proofs.Common.{◌≡◌, ◌<◌, length, sym, ◌∙◌, arith}
use Rattle.hdfs_plain.proofs.Walked.{comes_end}
use Rattle.hdfs_plain.proofs.names.comes_before.Goals.{then-bytes-test+else-at-b, else-bytes-test}
use Rattle.hdfs_plain.proofs.names.comes_before.Goals as goal

pub returns : goal.returns
returns c =
    sym (c.bytes.invariant.rest
    ∙ comes_end c.args.a.now c.args.b.now c.bytes.at c.bytes.invariant.first c.bytes.invariant.second
    (λ la lb. elim c.bytes-test.branch [ then-bytes-test+else-at-b w ↦ omega (arith, lb, w.if-at-b.false) | else-bytes-test w ↦ omega (arith, la, w.bytes-test.false) ]))
