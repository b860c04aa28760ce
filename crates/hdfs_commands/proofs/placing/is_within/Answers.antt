-- A path that begins with another is within it where nothing follows, or a slash.
use Rattle.std.proofs.Common.{List, ℕ, ◌++◌, ◌∙◌, ap, sym}
use Rattle.hdfs_commands.proofs.OpenWithin.{not_within, within_end, within_next}
use Rattle.hdfs_commands.proofs.placing.is_within.Goals as goal

pub returns-in-None : goal.returns-in-None
returns-in-None c = sym (not_within c.args.top.now c.args.path.now c.in-None.ensures.cases)

pub returns-in-None-first : goal.returns-in-None-first
returns-in-None-first c = within_end c.args.top.now c.args.path.now c.in-Some.rest.now c.as_bytes.result.now (c.in-Some.ensures.cases.1.1 ∙ ap (λ (r : List ℕ). c.args.top.now ++ r) (sym c.in-Some.ensures.cases.2)) c.in-None-first.ensures.value c.as_bytes.ensures.value

pub returns-in-Some-first : goal.returns-in-Some-first
returns-in-Some-first c = within_next c.args.top.now c.args.path.now c.in-Some.rest.now c.as_bytes.result.now c.in-Some-first.first.now (c.in-Some.ensures.cases.1.1 ∙ ap (λ (r : List ℕ). c.args.top.now ++ r) (sym c.in-Some.ensures.cases.2)) c.in-Some-first.ensures.value c.as_bytes.ensures.value
