-- A pipeline is rebuilt, attempt by attempt.
use Rattle.std.specs.Prelude.{◌≡◌, ◌≢◌, ◌⊎◌, ℕ, zero, suc, ◌+◌, ◌-◌, ◌<◌, true, false, List, [], ◌∷◌, ◌++◌, length, All, Contains, Some, None}
use Rattle.hdfs_wire.specs.Outgoing.{Outgoing}
use Rattle.hdfs_cluster.specs.declared.errors.HdfsError.{HdfsError}
use Rattle.hdfs_cluster.specs.declared.errors.IoFault.TheVariants as io_faults
use Rattle.hdfs_cluster.specs.declared.errors.TransferFault.TheVariants as transfer_faults
use Rattle.hdfs_cluster.specs.declared.errors.HdfsError.TheVariants as errors
use Rattle.hdfs_cluster.specs.declared.messages.DatanodeInfo.{DatanodeInfo}
use Rattle.hdfs_cluster.specs.declared.picture.BlockEntry.{BlockEntry}
use Rattle.hdfs_cluster.specs.declared.picture.OpenWrite.{OpenWrite}
use Rattle.hdfs_cluster.specs.Counts.{Rose}
use Rattle.hdfs_cluster.specs.Picture.{Picture}
use Rattle.hdfs_cluster.specs.Pipes.{FollowsOn}
use Rattle.hdfs_cluster.specs.Sending.{uuids}
use Rattle.hdfs_cluster.specs.Shown.{Shown, Later, SameReads}
use Rattle.hdfs_names.specs.Shown.{shown as policy_of}
use Rattle.hdfs_pipeline.specs.Driving.{IsGoing}
use Rattle.hdfs_pipeline.specs.Places.{ArePlaces}
use Rattle.hdfs_rebuild.specs.declared.attempts.Attempt.{Attempt}
use Rattle.hdfs_rebuild.specs.declared.attempts.Attempt.TheVariants as attempts
use Rattle.hdfs_rebuild.specs.declared.attempts.Fallen.{Fallen}
use Rattle.hdfs_rebuild.specs.declared.block_plan.BlockPlan.{BlockPlan}
use Rattle.hdfs_rebuild.specs.declared.block_plan.BlockPipeline.{BlockPipeline}
use Rattle.hdfs_rebuild.specs.declared.block_plan.RebuildSettings.{RebuildSettings}
use Rattle.hdfs_block_reader.specs.Carrying.{AreSlices, FollowFrom, LinkCarries, total}
use Rattle.hdfs_rebuild.specs.Plans.{HasStamp, IsDue, IsNextPlan, Known, Waits, without}
use Rattle.hdfs_block_reader.specs.Rebuilding.{IsListed}
use Rattle.hdfs_rebuild.specs.declared.opening.Opening.{Opening}
use Rattle.hdfs_rebuild.specs.Opening.{rebuilt_of, setup_for}
use Rattle.hdfs_rebuild.specs.Trying.{HaveFailed}
use Rattle.hdfs_namenode.specs.Relaying.{TellsAsk}
use Rattle.hdfs_rebuild.specs.Between.{KeepsLinks, OnlyBlockOf, Touches, HelpFailed, HelpLacks, NamenodeFailed, KeepsEntry}

-- what a rebuild is to do: with these settings, in the name of this client, these packets are sent again, and behind them the block has
-- so many bytes that weren't sent
pub record Task : Type 0 where
  pub settings : RebuildSettings
  pub client : List ℕ
  pub replay : List Outgoing
  pub unsent : ℕ

-- the same, from its parts
abbrev pub task_of : RebuildSettings → List ℕ → List Outgoing → ℕ → Task
task_of settings client replay unsent = record { settings = settings; client = client; replay = replay; unsent = unsent }

-- where a rebuild stands: the block, the places of its pipeline that have failed, and what the cluster shows
pub record Standing : Type 0 where
  pub plan : BlockPlan
  pub failed : List ℕ
  pub shown : Shown

-- the same, from its parts
abbrev pub standing : BlockPlan → List ℕ → Shown → Standing
standing plan failed shown = record { plan = plan; failed = failed; shown = shown }

-- the same, of a block whose pipeline has fallen
abbrev pub fallen_at : Fallen → Shown → Standing
fallen_at fallen shown = standing fallen.plan fallen.failed shown

-- How a pipeline of a block is opened after another has failed: the bytes before those packets and the ones that weren't sent are
-- acknowledged.
abbrev pub opening_of : Task → BlockPlan → Opening
opening_of task plan =
    rebuilt_of plan.block.b.generation_stamp (plan.block.b.num_bytes - (total task.replay + task.unsent)) task.settings.window

-- the datanodes that are left of a pipeline
abbrev pub left_of : Standing → List DatanodeInfo
left_of before = without 0 before.failed before.plan.block.locs

-- What each attempt that came to a link has done. Each datanode of its pipeline is left of the one before, or is none of that. Where a
-- datanode more was due and none was added, writes go on with best effort, and a namenode or a transfer has failed. The block has a
-- greater generation stamp than the block table had.
pub record Begins (task : Task) (before : Standing) (plan : BlockPlan) (new : Shown) : Type 0 where
  pub next : IsNextPlan before.plan task.settings before.failed plan
  pub later : Later before.shown new
  pub reads : SameReads before.shown new
  pub apart : (p : Picture) (known : Known) → before.shown.picture ≡ Some p → Waits p before.plan known
      → All (λ node. Contains (uuids (left_of before)) node ⊎ (Contains (uuids before.plan.block.locs) node → ⊥)) (uuids plan.block.locs)
  pub alone : IsDue before.plan task.settings (left_of before) → plan.block.locs ≡ left_of before
      → ((policy_of task.settings.replace).1 ≡ true) × HelpFailed before.plan before.shown new
  pub newer : (p : Picture) (known : Known) (entry : BlockEntry) → before.shown.picture ≡ Some p → Waits p before.plan known
      → p.table before.plan.block.b.block_id ≡ Some entry → entry.stamp < plan.block.b.generation_stamp

-- An attempt has failed: datanodes of it did, while the packets were sent again, and its link is ended. Over a told picture the block
-- waits with the datanodes of this attempt, and these are listed for it.
pub record Missed (task : Task) (before after : Standing) : Type 0 where
  pub begins : Begins task before after.plan after.shown
  pub writes : (link : ℕ) → after.shown.writes link ≡ before.shown.writes link
  pub places : ArePlaces (length after.plan.block.locs) after.failed
  pub failed : HaveFailed after.plan after.failed before.shown after.shown
  pub told : (p : Picture) (known : Known) → before.shown.picture ≡ Some p → Waits p before.plan known
      → AreSlices known.bytes known.safe task.replay
      → (q : Picture) × (after.shown.picture ≡ Some q) × Waits q after.plan (record known { listed = uuids after.plan.block.locs })
      × OnlyBlockOf before.plan.block.b.block_id p q × HasStamp q after.plan.block.b

-- so many attempts have failed, one behind another
abbrev pub MissedTimes : ℕ → Task → Standing → Standing → Type 0
MissedTimes zero task before after = after ≡ before
MissedTimes (suc times) task before after = (between : Standing) × MissedTimes times task before between × Missed task between after

-- An attempt has succeeded: a link was set up to go on with the block, and the packets were sent again on it. Over a told picture it
-- carries the bytes, as many as before are safe, and its datanodes are listed for the block.
pub record Recovered (task : Task) (before : Standing) (rebuilt : BlockPipeline) (new : Shown) : Type 0 where
  pub begins : Begins task before rebuilt.plan new
  pub fresh : before.shown.writes rebuilt.link ≡ None
  pub others : (other : ℕ) → other ≢ rebuilt.link → new.writes other ≡ before.shown.writes other
  pub opened : (write : OpenWrite) × (new.writes rebuilt.link ≡ Some write)
      × (write.setup ≡ setup_for rebuilt.plan (opening_of task before.plan) task.client)
  pub going : IsGoing new rebuilt.link rebuilt.core
  pub window : rebuilt.core.window ≡ task.settings.window
  pub pushed : rebuilt.core.pushed ≡ task.replay
  pub goes_on : (packet : Outgoing) (start : ℕ) → FollowFrom start (task.replay ++ packet ∷ []) → FollowsOn new rebuilt.link packet
  pub told : (p : Picture) (known : Known) → before.shown.picture ≡ Some p → Waits p before.plan known
      → AreSlices known.bytes known.safe task.replay
      → (q : Picture) × (new.picture ≡ Some q)
      × LinkCarries q rebuilt.link rebuilt.plan.block.b.block_id (uuids rebuilt.plan.block.locs) known.safe task.replay known.bytes
      × IsListed q rebuilt.plan.block.b.block_id (uuids rebuilt.plan.block.locs) known.bytes
      × OnlyBlockOf before.plan.block.b.block_id p q × HasStamp q rebuilt.plan.block.b

-- Why an attempt comes to no link. Want of memory alone is free. Where no datanode is left of a pipeline that was rebuilt as often as it may
-- be, the limit comes.
abbrev pub HasRebuildCause : Task → Standing → HdfsError → Shown → Type 0
HasRebuildCause task before errors.NoMemory new = Unit {0}
HasRebuildCause task before (errors.IOError io_faults.Link) new = Rose before.shown.counts.links new.counts.links
HasRebuildCause task before (errors.DataTransferError transfer_faults.Setup) new = Rose before.shown.counts.links new.counts.links
HasRebuildCause task before (errors.DataTransferError (transfer_faults.BadAck seqno)) new = Rose before.shown.counts.links new.counts.links
HasRebuildCause task before (errors.DataTransferError transfer_faults.AllNodes) new =
    (left_of before ≡ []) × (before.plan.rebuilds < task.settings.rebuild_limit) × (new ≡ before.shown)
HasRebuildCause task before (errors.DataTransferError transfer_faults.NoReplacement) new = IsDue before.plan task.settings (left_of before)
    × ((policy_of task.settings.replace).1 ≡ false) × HelpLacks before.plan before.shown new × KeepsEntry before.plan before.shown new
HasRebuildCause task before (errors.DataTransferError (transfer_faults.RebuildLimit rebuilds)) new =
    (rebuilds ≡ before.plan.rebuilds) × (before.plan.rebuilds ≡ task.settings.rebuild_limit) × (new ≡ before.shown)
HasRebuildCause task before error new =
    TellsAsk before.shown new error × NamenodeFailed before.plan before.shown new

-- An attempt came to no link, for this cause, and left none.
pub record GaveNone (task : Task) (before : Standing) (error : HdfsError) (new : Shown) : Type 0 where
  pub links : KeepsLinks before.shown new
  pub cause : HasRebuildCause task before error new
  pub touches : Touches before.plan before.shown new

-- There is no plan for the next pipeline, so that an attempt comes to no link, whatever is to be sent.
abbrev pub GivesNoPlan : RebuildSettings → Standing → HdfsError → Shown → Type 0
GivesNoPlan settings before error new =
    (client : List ℕ) (replay : List Outgoing) (unsent : ℕ) → GaveNone (task_of settings client replay unsent) before error new

-- what came of an attempt
abbrev pub Attempted : Task → Standing → Attempt → Shown → Type 0
Attempted task before (attempts.Stands rebuilt) new = Recovered task before rebuilt new
Attempted task before (attempts.Fell fallen) new =
    Missed task before (fallen_at fallen new) × (fallen.replay ≡ task.replay)

-- Some attempts failed, and then one succeeded.
pub record RebuiltAfter (task : Task) (before : Standing) (rebuilt : BlockPipeline) (new : Shown) : Type 0 where
  pub times : ℕ
  pub last : Standing
  pub missed : MissedTimes times task before last
  pub recovered : Recovered task last rebuilt new

-- Some attempts failed, and then one came to no link.
pub record GaveNoneAfter (task : Task) (before : Standing) (error : HdfsError) (new : Shown) : Type 0 where
  pub times : ℕ
  pub last : Standing
  pub missed : MissedTimes times task before last
  pub gave_none : GaveNone task last error new
