-- An escaped character, a backslash, any other, and the end.
use Rattle.std.proofs.Common.{refl, ◌∙◌}
use Rattle.hdfs_globs.proofs.Grown.{chars-no_bytes, text-same}
use Rattle.hdfs_globs.proofs.Unescaped.{turn-kept, turn-backslash, turn-plain, unescaped-all}
use Rattle.hdfs_globs.proofs.expand.unescape_component.Goals as goal
use Rattle.hdfs_globs.proofs.expand.unescape_component.Goals.{then-escaped+in_ok-put_character, else-escaped+then-c-eq92, else-escaped+else-c-eq92+in_ok-put_character-2}

pub loop-c-init : goal.loop-c-init
loop-c-init c = rw (chars-no_bytes _ c.new-plain.ensures.bytes, c.deref-c-items.ensures.value, c.in_ok-characters.ensures) refl

pub loop-c-preserved : goal.loop-c-preserved
loop-c-preserved c =
    let all = c.deref-c-items.result.now in
    let i = c.loop-c.c-index in
    let x = c.c-item.result in
    elim c.if-escaped.branch [
      | then-escaped+in_ok-put_character w ↦ turn-kept _ all _ _ i x c.loop-c-test.true c.c-item.is _ _ c.loop-c.invariant w.if-escaped.true (text-same w.plain-is ∙ w.in_ok-put_character.ensures) w.escaped-is
      | else-escaped+then-c-eq92 w ↦ turn-backslash _ all _ _ i x c.loop-c-test.true c.c-item.is _ _ c.loop-c.invariant w.if-escaped.false w.if-c-eq92.true (text-same w.plain-is) w.escaped-is
      | else-escaped+else-c-eq92+in_ok-put_character-2 w ↦ turn-plain _ all _ _ i x c.loop-c-test.true c.c-item.is _ _ c.loop-c.invariant w.if-escaped.false w.if-c-eq92.false (text-same w.plain-is ∙ w.in_ok-put_character-2.ensures) (w.escaped-is ∙ w.if-escaped.false)
    ]

pub returns : goal.returns
returns c = unescaped-all _ c.deref-c-items.result.now _ c.loop-c.escaped c.loop-c.c-index c.loop-c-test.false c.loop-c.invariant
