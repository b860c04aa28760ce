-- The three answers.
use Rattle.std.proofs.Common.{sym, ◌∙◌}
use Rattle.hdfs_names.proofs.Configured.{mount_link, mount_fallback, mount_none}
use Rattle.hdfs_names.proofs.settings.mount_at.Goals as goal

pub returns-in-Some : goal.returns-in-Some
returns-in-Some c = mount_link c.args.link.now c.args.fallback.now c.args.key.now c.args.value.now c.in-Some.path.now _ _ c.in-Some.ensures.some c.in_ok-path.ensures.ok c.in_ok-from_str.ensures.ok

pub returns-then-eq : goal.returns-then-eq
returns-then-eq c = mount_fallback c.args.link.now c.args.fallback.now c.args.key.now c.args.value.now _ c.in_default.ensures.none (sym c.eq.ensures ∙ c.if-eq.true) c.in_ok-from_str-2.ensures.ok

pub returns : goal.returns
returns c = mount_none c.args.link.now c.args.fallback.now c.args.key.now c.args.value.now c.in_default.ensures.none (sym c.eq.ensures ∙ c.if-eq.false)
