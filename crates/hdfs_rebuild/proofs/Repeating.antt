-- A pipeline is rebuilt again and again, until an attempt stands or comes to no link.
use Rattle.std.proofs.Common.{◌≡◌, ℕ, suc, List, ◌∙◌, subst}
use Rattle.hdfs_wire.specs.Outgoing.{Outgoing}
use Rattle.hdfs_cluster.specs.Shown.{Shown}
use Rattle.hdfs_rebuild.specs.declared.attempts.Attempt.TheVariants as attempts
use Rattle.hdfs_rebuild.specs.declared.attempts.Fallen.{Fallen}
use Rattle.hdfs_rebuild.specs.declared.block_plan.RebuildSettings.{RebuildSettings}
use Rattle.hdfs_rebuild.specs.Attempts.{Attempted, Missed, MissedTimes, fallen_at, task_of}
use Rattle.hdfs_rebuild.specs.Plans.{CanRebuild}
use Rattle.hdfs_rebuild.proofs.Trying.{can_rebuild_again}

-- Attempts have failed so far, and the pipeline can be rebuilt again.
pub record FellSoFar (first : Fallen) (settings : RebuildSettings) (client : List ℕ) (unsent : ℕ) (old : Shown) (fallen : Fallen) (now : Shown)
    : Type 0 where
  pub namenodes : now.namenodes ≡ old.namenodes
  pub can : CanRebuild fallen settings unsent
  pub same : fallen.replay ≡ first.replay
  pub times : ℕ
  pub missed : MissedTimes times (task_of settings client first.replay unsent) (fallen_at first old) (fallen_at fallen now)

-- One more attempt has failed.
pub one_fell : (first : Fallen) (settings : RebuildSettings) (client : List ℕ) (unsent : ℕ) (old : Shown) (fallen : Fallen) (now : Shown)
    → FellSoFar first settings client unsent old fallen now → (next : Fallen) (new : Shown)
    → Attempted (task_of settings client fallen.replay unsent) (fallen_at fallen now) (attempts.Fell next) new
    → FellSoFar first settings client unsent old next new
one_fell first settings client unsent old fallen now s next new attempt = record {
  namenodes = attempt.0.begins.later.namenodes ∙ s.namenodes;
  can = can_rebuild_again fallen settings now new client unsent next s.can attempt;
  same = attempt.1 ∙ s.same;
  times = suc s.times;
  missed = (
    fallen_at fallen now,
    s.missed,
    subst (λ (packets : List Outgoing). Missed (task_of settings client packets unsent) (fallen_at fallen now) (fallen_at next new)) s.same attempt.0,
  );
}
