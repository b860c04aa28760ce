-- What comes of the steps by which a pipeline is set up to go on with a block.
use Rattle.std.proofs.Common.{◌≡◌, inl, inr, ℕ, ◌≤◌, List, length, Some, None, IsSome, refl, sym, ◌∙◌, subst}
use Rattle.hdfs_wire.specs.Outgoing.{Outgoing}
use Rattle.hdfs_cluster.specs.declared.errors.HdfsError.{HdfsError}
use Rattle.hdfs_cluster.specs.declared.picture.OpenWrite.{OpenWrite}
use Rattle.hdfs_cluster.specs.Namenode.{IsToWrite}
use Rattle.hdfs_cluster.specs.Pipes.{WriteEnded, WriteOpened}
use Rattle.hdfs_cluster.specs.Shown.{Shown}
use Rattle.hdfs_pipeline.specs.Cores.{IsCore}
use Rattle.hdfs_pipeline.specs.Pipelines.{Pipeline, empty_pipeline}
use Rattle.hdfs_rebuild.specs.declared.attempts.Collected.{Collected}
use Rattle.hdfs_rebuild.specs.declared.attempts.Resumption.TheVariants as resumptions
use Rattle.hdfs_rebuild.specs.declared.block_plan.BlockPlan.{BlockPlan}
use Rattle.hdfs_rebuild.specs.declared.opening.Opening.{Opening}
use Rattle.hdfs_rebuild.specs.declared.replay.Resending.{Resending}
use Rattle.hdfs_rebuild.specs.declared.replay.SentAgain.{SentAgain}
use Rattle.hdfs_rebuild.specs.Opening.{setup_for}
use Rattle.hdfs_rebuild.specs.Resuming.{SendsAndNames, SendsOrNamesNot}
use Rattle.hdfs_rebuild.specs.Trying.{Collects, CollectsNot, Resumed, ResumedNot, course_of, with_plan}
use Rattle.hdfs_rebuild.proofs.Attempting.{stands_again, falls_again, collects_not, names_not, stops_short}
use Rattle.hdfs_rebuild.proofs.Ending.{Drifts}

-- a link that was open is so still where packets weren't sent on it, or the pipeline wasn't named
pub unsent_open : (task : Resending) (stamp : ℕ) (plan : BlockPlan) (old : Shown) (fault : HdfsError) (new : Shown) (write : OpenWrite)
    → old.writes task.link ≡ Some write → SendsOrNamesNot task stamp plan old fault new → IsSome (new.writes task.link)
unsent_open task stamp plan old fault new write is (inl (memory, stops)) = subst IsSome (sym (stops.on.still_open write is).1) refl
unsent_open task stamp plan old fault new write is (inr (sent, between, sends, links, not)) =
    subst IsSome (sym (links.writes task.link ∙ sends.drove.drives.1)) refl

module _ (plan : BlockPlan) (opening : Opening) (client : List ℕ) (replay : List Outgoing) (link : ℕ) (core : Pipeline)
    (a b : Shown) (to_write : IsToWrite plan.block)
    (windows : (1 ≤ opening.window) × (opening.window ≤ 1000)) (empty : core ≡ empty_pipeline opening.window (length plan.block.locs))
    (opened : WriteOpened a (setup_for plan opening client) link b) where
  -- the packets were sent, and the pipeline was named
  module _ (sent : SentAgain) (n : Shown) (s : SendsAndNames (record { core = core; link = link; replay = replay }) opening.stamp plan b sent n) (is_core : IsCore sent.core) where
    pub resumed_stands : sent.core.end ≡ None
        → Resumed (course_of plan opening client replay) a (with_plan plan (resumptions.Stands sent.core link)) n
    resumed_stands going =
        stands_again plan opening client replay link core a b s.between n sent to_write windows empty opened s.sends s.links
        s.names is_core going

    module _ (z : Shown) (before : Shown) where
      pub resumed_fell : Drifts link sent.core n before → WriteEnded before link z → (collected : Collected) → Collects sent collected
          → Resumed (course_of plan opening client replay) a (with_plan plan (resumptions.Fell collected)) z
      resumed_fell drifts gone collected collects =
          falls_again plan opening client replay link core a b s.between n sent to_write windows empty opened s.sends s.links
          s.names is_core before z drifts gone collected collects

      pub resumed_none : Drifts link sent.core n before → WriteEnded before link z → (fault : HdfsError) → CollectsNot sent fault
          → ResumedNot plan a fault z
      resumed_none drifts gone fault none =
          collects_not plan opening client replay link core a b s.between n sent to_write windows empty opened s.sends s.links
          s.names is_core before z drifts gone fault none

  -- they weren't, or it wasn't, and the link was ended
  pub resumed_unsent : (fault : HdfsError) (n z : Shown) → SendsOrNamesNot (record { core = core; link = link; replay = replay }) opening.stamp plan b fault n → WriteEnded n link z
      → ResumedNot plan a fault z
  resumed_unsent fault n z (inl (memory, stops)) gone =
      subst (λ (f : HdfsError). ResumedNot plan a f z) (sym memory)
      (stops_short plan opening client replay link core a b n z to_write windows empty opened stops gone)
  resumed_unsent fault n z (inr (sent, between, sends, links, not)) gone =
      names_not plan opening client replay link core a b between n sent to_write windows empty opened sends links
      fault z not gone
