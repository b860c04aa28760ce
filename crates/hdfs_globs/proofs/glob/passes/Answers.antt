-- One part more, and none left.
use Rattle.std.proofs.Common.{◌∙◌, ap, length, sym, arith}
use Rattle.hdfs_globs.specs.Patterns.{sign_of}
use Rattle.hdfs_globs.specs.Places.{State, step}
use Rattle.hdfs_globs.proofs.Standing.{run-more, run-all}
use Rattle.hdfs_globs.proofs.glob.passes.Goals as goal

pub loop-part-preserved : goal.loop-part-preserved
loop-part-preserved c =
    let h = c.loop-part.invariant in
    (step c.args.text.now (sign_of c.part-item.result) h.0, c.in_ok-pass.ensures (length c.args.text.now) h.0 h.1, run-more c.args.text.now c.args.parts.now c.loop-part.part-index c.part-item.result h.0 c.loop-part-test.true c.part-item.is ∙ h.2)

pub returns : goal.returns
returns c =
    let h = c.loop-part.invariant in
    c.is_at.ensures (length c.args.text.now) h.0 (omega arith) h.1 ∙ ap (λ (s : State). s.places (length c.args.text.now)) (sym (run-all c.args.text.now c.args.parts.now c.loop-part.part-index h.0 c.loop-part-test.false) ∙ h.2)
