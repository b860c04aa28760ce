-- A character that begins no cut, and the end of the text after a backslash or not.
use Rattle.std.proofs.Common.{◌∙◌, arith}
use Rattle.hdfs_globs.proofs.CutsRead.{cut-turn, ending-turn, cut-end, ending-end}
use Rattle.hdfs_globs.proofs.cut.find_cut.Goals as goal

pub loop-at-preserved : goal.loop-at-preserved
loop-at-preserved c =
    let is = c.character_at-c.ensures in
    record {
      left = rw (c.depth_past-depth.ensures.depth, c.escapes-escaped.ensures) (cut-turn _ c.args.text.now c.loop-at.at c.loop-at.depth c.character_at-c.result c.loop-at.escaped c.loop-at-test.true is (c.in_ok-group.ensures.none c.in_default.is c.character_at-c.result is) c.loop-at.invariant.left);
      ending = rw c.escapes-escaped.ensures (ending-turn _ c.args.text.now c.loop-at.at c.character_at-c.result c.loop-at.escaped is c.loop-at.invariant.ending);
      shallow = omega (arith, c.depth_past-depth.ensures.bound, c.loop-at.invariant.shallow);
    }

pub returns-then-escaped : goal.returns-then-escaped
returns-then-escaped c = (cut-end _ c.args.text.now c.loop-at.at c.loop-at.depth c.loop-at.escaped c.loop-at-test.false c.loop-at.invariant.left, ending-end _ c.args.text.now c.loop-at.at c.loop-at.escaped c.loop-at-test.false c.loop-at.invariant.ending ∙ c.if-escaped.true)

pub returns : goal.returns
returns c = (cut-end _ c.args.text.now c.loop-at.at c.loop-at.depth c.loop-at.escaped c.loop-at-test.false c.loop-at.invariant.left, ending-end _ c.args.text.now c.loop-at.at c.loop-at.escaped c.loop-at-test.false c.loop-at.invariant.ending ∙ c.if-escaped.false)
