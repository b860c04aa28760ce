-- The steps of one attempt to rebuild a pipeline.
use Rattle.std.specs.Prelude.{◌≡◌, ◌≢◌, ◌⊎◌, ℕ, ℤ, ◌+◌, ◌<◌, List, [], ◌∷◌, ◌++◌, length, slice_index_or, All, Some, None}
use Rattle.hdfs_wire.specs.Outgoing.{Outgoing}
use Rattle.hdfs_cluster.specs.declared.errors.HdfsError.{HdfsError}
use Rattle.hdfs_cluster.specs.declared.errors.HdfsError.TheVariants as errors
use Rattle.hdfs_cluster.specs.declared.errors.IoFault.TheVariants as io_faults
use Rattle.hdfs_cluster.specs.declared.errors.TransferFault.TheVariants as transfer_faults
use Rattle.hdfs_cluster.specs.declared.asks.Answer.{Answer}
use Rattle.hdfs_cluster.specs.declared.asks.Ask.{Ask}
use Rattle.hdfs_cluster.specs.declared.messages.LocatedBlock.{LocatedBlock}
use Rattle.hdfs_cluster.specs.declared.messages.Stage.TheVariants as stages
use Rattle.hdfs_cluster.specs.declared.picture.OpenWrite.{OpenWrite}
use Rattle.hdfs_cluster.specs.Counts.{Rose}
use Rattle.hdfs_cluster.specs.Namenode.{IsToWrite}
use Rattle.hdfs_cluster.specs.Picture.{Picture}
use Rattle.hdfs_cluster.specs.Pipes.{FollowsOn}
use Rattle.hdfs_cluster.specs.Requests.{IsNamed, IsPipelineOf, IsStamped, LetsWriteBlock, Request}
use Rattle.hdfs_cluster.specs.Sending.{uuids}
use Rattle.hdfs_cluster.specs.Shown.{Shown, Later, SameReads}
use Rattle.hdfs_pipeline.specs.Driving.{Drove, IsGoing, StopsShort}
use Rattle.hdfs_pipeline.specs.Pipelines.{Pipeline, Failed, Bad}
use Rattle.hdfs_pipeline.specs.Places.{ArePlaces}
use Rattle.hdfs_rebuild.specs.declared.attempts.Attempt.{Attempt}
use Rattle.hdfs_rebuild.specs.declared.attempts.Attempt.TheVariants as attempts
use Rattle.hdfs_rebuild.specs.declared.attempts.Collected.{Collected}
use Rattle.hdfs_rebuild.specs.declared.attempts.Fallen.{Fallen}
use Rattle.hdfs_rebuild.specs.declared.attempts.Resumption.{Resumption}
use Rattle.hdfs_rebuild.specs.declared.attempts.Resumption.TheVariants as resumptions
use Rattle.hdfs_rebuild.specs.declared.block_plan.BlockPlan.{BlockPlan}
use Rattle.hdfs_rebuild.specs.declared.block_plan.BlockPipeline.{BlockPipeline}
use Rattle.hdfs_rebuild.specs.declared.block_plan.RebuildSettings.{RebuildSettings}
use Rattle.hdfs_rebuild.specs.declared.opening.Opening.{Opening}
use Rattle.hdfs_rebuild.specs.declared.replay.SentAgain.{SentAgain}
use Rattle.hdfs_rebuild.specs.Between.{KeepsLinks, OnlyBlockOf, Touches}
use Rattle.hdfs_rebuild.specs.Opening.{setup_for, with_stamp_of}
use Rattle.hdfs_block_reader.specs.Carrying.{AreSlices, FollowFrom, LinkCarries}
use Rattle.hdfs_rebuild.specs.Plans.{HasStamp, Known, StaysAnswered, Waits, block_without, nodes_at, without}
use Rattle.hdfs_block_reader.specs.Rebuilding.{IsListed}
use Rattle.hdfs_rebuild.specs.Replacing.{Completes}
use Rattle.hdfs_rebuild.specs.Resuming.{AskFails, Restamps}

-- the datanodes that have failed are left out, and some are left
pub record LeavesOut (plan : BlockPlan) (settings : RebuildSettings) (failed : List ℕ) (plan' : BlockPlan) : Type 0 where
  pub is : plan' ≡ record plan { block = block_without failed plan.block; rebuilds = plan.rebuilds + 1 }
  pub within : plan.rebuilds < settings.rebuild_limit
  pub block : IsToWrite plan'.block

-- none is left, though it may be rebuilt once more; the pipeline was rebuilt as often as it may be; or memory was wanting
abbrev pub LeavesNone : BlockPlan → RebuildSettings → List ℕ → HdfsError → Type 0
LeavesNone plan settings failed error =
    (error ≡ errors.NoMemory)
    ⊎ ((error ≡ errors.DataTransferError transfer_faults.AllNodes) × (without 0 failed plan.block.locs ≡ []) × (plan.rebuilds < settings.rebuild_limit))
    ⊎ ((error ≡ errors.DataTransferError (transfer_faults.RebuildLimit plan.rebuilds)) × (plan.rebuilds ≡ settings.rebuild_limit))

-- the next pipeline of a block has a generation stamp and a token that were answered to the name that it had before, and where the one
-- before was answered, so was it
pub record IsRenewed (may_answer : Ask → Answer → Type 0) (client : List ℕ) (plan plan' : BlockPlan) : Type 0 where
  pub stamped : IsStamped may_answer client plan'.block.b plan.block.b.generation_stamp plan'.block.b.generation_stamp plan'.block.block_token
  pub stays : StaysAnswered may_answer client plan plan'

-- Leave to set up the pipeline of a plan, which was answered, behind one that has failed: it is opened as a later one of its block, which has
-- a generation stamp so far that was answered for it too, and to which the next one was.
pub record LetsResume (allows : Request → Type 0) (may_answer : Ask → Answer → Type 0) (client : List ℕ) (plan : BlockPlan) (opening : Opening)
    : Type 0 where
  pub first : LocatedBlock
  pub lets : LetsWriteBlock allows may_answer client plan.src first
  pub answered : IsPipelineOf may_answer client plan.src first plan.block
  pub stamped : IsStamped may_answer client plan.block.b opening.stamp plan.block.b.generation_stamp plan.block.block_token
  pub before : IsNamed may_answer client first (with_stamp_of plan.block.b opening.stamp)
  pub stage : opening.stage ≡ stages.Recovery

-- The plan of the next pipeline: the datanodes that have failed are left out, one more is added where that is due, and the block has a
-- greater generation stamp.
pub record GivesPlan (plan : BlockPlan) (settings : RebuildSettings) (failed : List ℕ) (old : Shown) (plan' : BlockPlan)
    (new : Shown) : Type 0 where
  pub left : BlockPlan
  pub whole : BlockPlan
  pub between : Shown
  pub leaves : LeavesOut plan settings failed left
  pub stays : KeepsLinks old between
  pub completes : Completes left settings (nodes_at plan.block.locs failed) old whole between
  pub keeps : KeepsLinks between new
  pub restamps : Restamps whole between plan' new

-- what is to be done on the next pipeline: the plan has its datanodes and generation stamp, it is opened so in the name of this client,
-- and these packets are sent again
pub record Course : Type 0 where
  pub plan : BlockPlan
  pub opening : Opening
  pub client : List ℕ
  pub replay : List Outgoing

-- the same, from its parts
abbrev pub course_of : BlockPlan → Opening → List ℕ → List Outgoing → Course
course_of plan opening client replay = record { plan = plan; opening = opening; client = client; replay = replay }

-- the pipeline stands: the packets were sent on its link, and it is named
pub record StandsAgain (course : Course) (old : Shown) (rebuilt : BlockPipeline) (new : Shown) : Type 0 where
  pub plan : rebuilt.plan ≡ course.plan
  pub later : Later old new
  pub reads : SameReads old new
  pub fresh : old.writes rebuilt.link ≡ None
  pub others : (other : ℕ) → other ≢ rebuilt.link → new.writes other ≡ old.writes other
  pub opened : (write : OpenWrite) × (new.writes rebuilt.link ≡ Some write)
      × (write.setup ≡ setup_for course.plan course.opening course.client)
  pub going : IsGoing new rebuilt.link rebuilt.core
  pub window : rebuilt.core.window ≡ course.opening.window
  pub pushed : rebuilt.core.pushed ≡ course.replay
  pub goes_on : (packet : Outgoing) (start : ℕ) → FollowFrom start (course.replay ++ packet ∷ []) → FollowsOn new rebuilt.link packet
  pub told : (p : Picture) (known : Known) → old.picture ≡ Some p → Waits p course.plan known
      → AreSlices known.bytes known.safe course.replay
      → (q : Picture) × (new.picture ≡ Some q)
      × LinkCarries q rebuilt.link course.plan.block.b.block_id (uuids course.plan.block.locs) known.safe course.replay known.bytes
      × IsListed q course.plan.block.b.block_id (uuids course.plan.block.locs) known.bytes
      × OnlyBlockOf course.plan.block.b.block_id p q × HasStamp q course.plan.block.b

-- the datanodes at these places of a plan have failed
abbrev pub HaveFailed : BlockPlan → List ℕ → Shown → Shown → Type 0
HaveFailed plan places old new =
    All (λ place. let node = slice_index_or (uuids plan.block.locs) place [] in Rose (old.counts.nodes node) (new.counts.nodes node)) places

-- it is named, datanodes of it failed at one of the packets, and its link is ended
pub record FallsAgain (course : Course) (old : Shown) (fallen : Fallen) (new : Shown) : Type 0 where
  pub plan : fallen.plan ≡ course.plan
  pub places : ArePlaces (length course.plan.block.locs) fallen.failed
  pub failed : HaveFailed course.plan fallen.failed old new
  pub replay : fallen.replay ≡ course.replay
  pub links : KeepsLinks old new
  pub told : (p : Picture) (known : Known) → old.picture ≡ Some p → Waits p course.plan known
      → AreSlices known.bytes known.safe course.replay
      → (q : Picture) × (new.picture ≡ Some q) × Waits q course.plan (record known { listed = uuids course.plan.block.locs })
      × OnlyBlockOf course.plan.block.b.block_id p q × HasStamp q course.plan.block.b

-- what came of the next pipeline
abbrev pub Resumed : Course → Shown → Attempt → Shown → Type 0
Resumed course old (attempts.Stands rebuilt) new = StandsAgain course old rebuilt new
Resumed course old (attempts.Fell fallen) new = FallsAgain course old fallen new

-- the plan of what came of an attempt
abbrev pub plan_of : Attempt → BlockPlan
plan_of (attempts.Stands rebuilt) = rebuilt.plan
plan_of (attempts.Fell fallen) = fallen.plan

-- what came of the next pipeline of a plan, with the plan
abbrev pub with_plan : BlockPlan → Resumption → Attempt
with_plan plan (resumptions.Stands core link) = attempts.Stands (record { plan = plan; core = core; link = link })
with_plan plan (resumptions.Fell collected) =
    attempts.Fell (record { plan = plan; failed = collected.failed; replay = collected.replay })

-- why no pipeline stands: for want of memory, since a namenode has failed, or since the links have
abbrev pub ResumeCause : BlockPlan → Shown → HdfsError → Shown → Type 0
ResumeCause plan old error new =
    AskFails plan old error new
    ⊎ (((error ≡ errors.IOError io_faults.Link) ⊎ (error ≡ errors.DataTransferError transfer_faults.Setup) ⊎ ((seqno : ℤ) × (error ≡ errors.DataTransferError (transfer_faults.BadAck seqno))))
    × Rose old.counts.links new.counts.links)

-- no pipeline stands, and none is left open
pub record ResumedNot (plan : BlockPlan) (old : Shown) (error : HdfsError) (new : Shown) : Type 0 where
  pub links : KeepsLinks old new
  pub cause : ResumeCause plan old error new
  pub touches : Touches plan old new

-- a pipeline that had ended was driven to its end, and its link was ended, or memory was wanting for that; nothing else happened
abbrev pub FallsFrom : {C : Type 0} → (C → Shown) → (C → Type 0) → ℕ → Pipeline → C → Type 0
FallsFrom {C} shown Ends link core old =
    (before : C) × Ends before
    × (((last : Pipeline) × Drove link [] core (shown old) last (shown before)) ⊎ StopsShort link [] core (shown old) (shown before))

-- all packets of a pipeline that has ended come back, with the places of the datanodes that have failed
pub record Collects (sent : SentAgain) (collected : Collected) : Type 0 where
  pub failed : sent.core.end ≡ Some (Failed collected.failed)
  pub replay : collected.replay ≡ sent.core.pushed ++ sent.rest

-- they don't, for want of memory or after a bad acknowledgement
abbrev pub CollectsNot : SentAgain → HdfsError → Type 0
CollectsNot sent error =
    (error ≡ errors.NoMemory) ⊎ ((seqno : ℤ) × (error ≡ errors.DataTransferError (transfer_faults.BadAck seqno)) × (sent.core.end ≡ Some (Bad seqno)))
