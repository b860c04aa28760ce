-- The pattern waits first; then the text on top is opened, or refused.
use Rattle.std.proofs.Common.{◌∷◌, [], ◌++◌, List, ap, ◌∙◌}
use Rattle.hdfs_globs.specs.Openings.{shown_work, shown_strings}
use Rattle.hdfs_globs.specs.Expansions.{opens}
use Rattle.hdfs_globs.specs.declared.work.Work.{Work}
use Rattle.hdfs_globs.proofs.Opened.{opens-first, popped}
use Rattle.hdfs_globs.proofs.expand.expand.Goals as goal

pub opening-init : goal.opening-init
opening-init c =
    let lies = popped shown_work c.push.new.self.items [] c.of_pattern.result (c.in_ok-push.ensures.items ∙ ap (λ (xs : List Work). xs ++ c.of_pattern.result ∷ []) c.new-stack.ensures.items) in
    opens-first c.args.pattern.items (shown_strings c.new-texts.result.items) _ (ap shown_strings c.new-texts.ensures.items) (rw (c.of_pattern.ensures.text, c.of_pattern.ensures.from) at lies)

pub returns-then-not-branch : goal.returns-then-not-branch
returns-then-not-branch c =
    let lies = popped shown_work c.opening.stack.items c.pop.new.self.items c.in-Some.work c.in-Some.ensures.items in
    rw c.if-not-branch.true at (c.in_ok-open_next.ensures.opened (opens c.args.pattern.items) (rw lies at c.opening.invariant))

pub opening-preserved : goal.opening-preserved
opening-preserved c =
    let lies = popped shown_work c.opening.stack.items c.pop.new.self.items c.in-Some.work c.in-Some.ensures.items in
    rw c.if-not-branch.false at (c.in_ok-open_next.ensures.opened (opens c.args.pattern.items) (rw lies at c.opening.invariant))
