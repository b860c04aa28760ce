-- No brace stands here, a group with a slash, one without, and one that isn't closed.
use Rattle.std.proofs.Common.{ap, ◌∙◌, arith}
use Rattle.std.specs.Option.{option_map}
use Rattle.hdfs_globs.specs.GroupScans.{shown_group}
use Rattle.hdfs_globs.proofs.CutsRead.{none-past, none-group, none-slash, some-cut, head-same}
use Rattle.hdfs_globs.proofs.cut.slashed_group.Goals as goal
use Rattle.hdfs_globs.proofs.cut.slashed_group.Goals.{then-escaped-via-then-escaped, then-escaped-via-else-escaped+then-depth-gt0, then-escaped-via-else-escaped+else-depth-gt0+then-character_at-ne123}

pub returns-then-escaped-clause-none : goal.returns-then-escaped-clause-none
returns-then-escaped-clause-none c = λ none x is. none-past c.args.text.now c.args.at c.args.depth c.args.escaped x is (λ plain outer brace.
    elim c.then-escaped.branch [
      | then-escaped-via-then-escaped w ↦ let h = w.if-escaped.true in cc
      | then-escaped-via-else-escaped+then-depth-gt0 w ↦ absurd (omega (arith, w.if-depth-gt0.true))
      | then-escaped-via-else-escaped+else-depth-gt0+then-character_at-ne123 w ↦ w.if-character_at-ne123.true (head-same w.character_at.ensures is ∙ brace)
    ])

pub returns-then-group-clause-some : goal.returns-then-group-clause-some
returns-then-group-clause-some c =
    some-cut c.args.text.now c.args.at c.args.depth c.args.escaped c.character_at.result c.character_at.ensures (shown_group c.args.text.now c.in-Some.group) c.if-escaped.false (omega (arith, c.if-depth-gt0.false)) c.if-character_at-ne123.false (c.in_ok-group.ensures.group ∙ ap (option_map (shown_group c.args.text.now)) c.in-Some.is) c.if-group.true

pub returns-else-group-clause-none : goal.returns-else-group-clause-none
returns-else-group-clause-none c = λ none x is. none-slash c.args.text.now c.args.at c.args.depth c.args.escaped x is (shown_group c.args.text.now c.in-Some.group) c.if-escaped.false (omega (arith, c.if-depth-gt0.false)) (head-same is c.character_at.ensures ∙ c.if-character_at-ne123.false) (c.in_ok-group.ensures.group ∙ ap (option_map (shown_group c.args.text.now)) c.in-Some.is) c.if-group.false

pub returns-in-None-clause-none : goal.returns-in-None-clause-none
returns-in-None-clause-none c = λ none x is. none-group c.args.text.now c.args.at c.args.depth c.args.escaped x is c.if-escaped.false (omega (arith, c.if-depth-gt0.false)) (head-same is c.character_at.ensures ∙ c.if-character_at-ne123.false) (c.in_ok-group.ensures.group ∙ ap (option_map (shown_group c.args.text.now)) c.in-None.is)
