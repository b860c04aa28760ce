-- The path begins with the link's path and a step, or it has no answer.
use Rattle.std.proofs.Common.{List, ℕ, ◌++◌, Some, sym, ap, ◌∙◌}
use Rattle.hdfs_names.proofs.Mounted.{resolved_apart, resolved_beside, resolved_behind}
use Rattle.hdfs_names.proofs.mounts.MountLink.resolve.Goals as goal

pub returns-in_default : goal.returns-in_default
returns-in_default c = sym (resolved_apart _ _ _ (λ rest e. c.in_default.ensures.none rest (e ∙ ap (λ (x : List ℕ). x ++ rest) (sym c.as_str.ensures))))

pub returns-then-not-begins_step : goal.returns-then-not-begins_step
returns-then-not-begins_step c =
    sym (resolved_beside _ _ _ c.in-Some.rest.now (c.in-Some.ensures.some ∙ ap (λ (x : List ℕ). x ++ c.in-Some.rest.now) c.as_str.ensures) (sym c.begins_step.ensures ∙ c.if-not-begins_step.true))

pub returns : goal.returns
returns c =
    ap (λ (x : List ℕ). Some x) (c.in_ok-joined.ensures ∙ ap (λ (x : List ℕ). x ++ c.in-Some.rest.now) c.as_str-2.ensures)
    ∙ sym (resolved_behind _ _ _ c.in-Some.rest.now (c.in-Some.ensures.some ∙ ap (λ (x : List ℕ). x ++ c.in-Some.rest.now) c.as_str.ensures) (sym c.begins_step.ensures ∙ c.if-not-begins_step.false))
