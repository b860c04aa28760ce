-- An entry is wanted where its name fits.
use Rattle.std.proofs.Common.{sym, ◌∙◌}
use Rattle.std.proofs.lemmas.Bool.{false≢true}
use Rattle.hdfs_client.proofs.Picked.{wanted_if}
use Rattle.hdfs_client.proofs.globbing.picking.is_wanted.Goals as goal
use Rattle.hdfs_client.proofs.globbing.picking.is_wanted.Goals.{else-follow-via-then-follow+else-not-status, else-follow-via-else-follow}

pub returns-in-Some : goal.returns-in-Some
returns-in-Some c =
    wanted_if c.args.follow c.args.dir.now c.args.component.now c.args.status.now c.in-Some.name.now c.matches.result
    (sym c.as_str.ensures ∙ c.in-Some.ensures.some.0) c.in-Some.ensures.some.1
    (λ follows. elim c.else-follow.branch [
      | else-follow-via-then-follow+else-not-status w ↦ w.if-not-status.false
      | else-follow-via-else-follow w ↦ absurd (false≢true (sym w.if-follow.false ∙ follows))
    ])
    (c.matches.ensures _ c.requires)
