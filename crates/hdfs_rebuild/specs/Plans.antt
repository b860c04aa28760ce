-- A block that is being written: the datanodes of its pipeline without those that failed, and what stays of it.
use Rattle.std.specs.Prelude.{◌≡◌, ◌⊎◌, ℕ, ◌+◌, ◌≤◌, not, false, List, [], ◌∷◌, length, Option, Some, None, slice_get}
use Rattle.hdfs_wire.specs.Outgoing.{Outgoing}
use Rattle.hdfs_cluster.specs.declared.asks.Answer.{Answer}
use Rattle.hdfs_cluster.specs.declared.asks.Ask.{Ask}
use Rattle.hdfs_cluster.specs.declared.messages.DatanodeInfo.{DatanodeInfo}
use Rattle.hdfs_cluster.specs.declared.messages.LocatedBlock.{LocatedBlock}
use Rattle.hdfs_cluster.specs.declared.messages.Block.{Block}
use Rattle.hdfs_cluster.specs.declared.picture.BlockEntry.{BlockEntry}
use Rattle.hdfs_cluster.specs.Effects.{HasOneMore, IsBeingWritten}
use Rattle.hdfs_cluster.specs.Namenode.{IsToWrite}
use Rattle.hdfs_cluster.specs.Picture.{Picture}
use Rattle.hdfs_cluster.specs.Requests.{IsPipelineOf}
pub use Rattle.hdfs_cluster.specs.Requests.{without}
use Rattle.hdfs_cluster.specs.Sending.{uuids}
use Rattle.hdfs_names.specs.Replacements.{ShouldReplace}
use Rattle.hdfs_names.specs.Shown.{shown as policy_of}
use Rattle.hdfs_pipeline.specs.Driving.{IsNotLast}
use Rattle.hdfs_pipeline.specs.Places.{ArePlaces}
use Rattle.hdfs_rebuild.specs.declared.attempts.Fallen.{Fallen}
use Rattle.hdfs_rebuild.specs.declared.block_plan.BlockPlan.{BlockPlan}
use Rattle.hdfs_rebuild.specs.declared.block_plan.RebuildSettings.{RebuildSettings}
use Rattle.hdfs_block_reader.specs.Carrying.{FollowFrom, total}
use Rattle.hdfs_block_reader.specs.Rebuilding.{BlockWaits}

-- the block without the datanodes at some places, and their storages
abbrev pub block_without : List ℕ → LocatedBlock → LocatedBlock
block_without places block = record block {
  locs = without 0 places block.locs;
  storage_types = without 0 places block.storage_types;
  storage_ids = without 0 places block.storage_ids;
}

-- the item, where there is one, before others
abbrev pub one_before : {T : Type 0} → Option T → List T → List T
one_before None items = items
one_before (Some item) items = item ∷ items

-- the datanodes at some places
abbrev pub nodes_at : List DatanodeInfo → List ℕ → List DatanodeInfo
nodes_at nodes [] = []
nodes_at nodes (place ∷ places) = one_before (slice_get nodes place) (nodes_at nodes places)

-- the packets before the last one aren't the last of their block
abbrev pub NoneEndsBefore : List Outgoing → Type 0
NoneEndsBefore [] = Unit {0}
NoneEndsBefore (packet ∷ []) = Unit {0}
NoneEndsBefore (packet ∷ next ∷ packets) = IsNotLast packet × NoneEndsBefore (next ∷ packets)

-- Packets that can be sent again on a new pipeline: it has room for them, and they follow one another.
pub record IsReplay (window : ℕ) (packets : List Outgoing) : Type 0 where
  pub few : length packets ≤ window
  pub start : ℕ
  pub follow : FollowFrom start packets
  pub ends : NoneEndsBefore packets

-- A pipeline that has fallen can be rebuilt: its packets are to be sent again, and behind them the block has so many bytes that weren't
-- sent.
pub record CanRebuild (fallen : Fallen) (settings : RebuildSettings) (unsent : ℕ) : Type 0 where
  pub block : IsToWrite fallen.plan.block
  pub places : ArePlaces (length fallen.plan.block.locs) fallen.failed
  pub rebuilds : fallen.plan.rebuilds ≤ settings.rebuild_limit
  pub window : (1 ≤ settings.window) × (settings.window ≤ 1000)
  pub packets : IsReplay settings.window fallen.replay
  pub few : total fallen.replay + unsent ≤ fallen.plan.block.b.num_bytes

-- what stays of a plan: all but its pipeline, its block's generation stamp, and how often it was rebuilt
pub record KeepsPlan (plan plan' : BlockPlan) : Type 0 where
  pub src : plan'.src ≡ plan.src
  pub pool : plan'.block.b.pool_id ≡ plan.block.b.pool_id
  pub id : plan'.block.b.block_id ≡ plan.block.b.block_id
  pub length : plan'.block.b.num_bytes ≡ plan.block.b.num_bytes
  pub replication : plan'.replication ≡ plan.replication
  pub created : plan'.created ≡ plan.created
  pub chunk : plan'.chunk ≡ plan.chunk

-- whatever block it is of: where its pipeline was answered so by one plan, it was by the other
abbrev pub StaysAnswered : (Ask → Answer → Type 0) → List ℕ → BlockPlan → BlockPlan → Type 0
StaysAnswered may_answer client plan plan' = (first : LocatedBlock)
    → IsPipelineOf may_answer client plan.src first plan.block → IsPipelineOf may_answer client plan'.src first plan'.block

-- a datanode more is due, where these are left
abbrev pub IsDue : BlockPlan → RebuildSettings → List DatanodeInfo → Type 0
IsDue plan settings left = ShouldReplace (policy_of settings.replace).0 plan.replication (length left) (not plan.created) false

-- The next pipeline: those that are left of the last one, or one more among them where that is due.
abbrev pub IsNextPipeline : BlockPlan → RebuildSettings → List ℕ → List DatanodeInfo → Type 0
IsNextPipeline plan settings failed nodes =
    (nodes ≡ without 0 failed plan.block.locs)
    ⊎ (IsDue plan settings (without 0 failed plan.block.locs) × HasOneMore (without 0 failed plan.block.locs) nodes)

-- the datanodes of a block are those that are left of another one, and so are their storages
pub record HasLeft (failed : List ℕ) (block block' : LocatedBlock) : Type 0 where
  pub nodes : block'.locs ≡ without 0 failed block.locs
  pub types : block'.storage_types ≡ without 0 failed block.storage_types
  pub ids : block'.storage_ids ≡ without 0 failed block.storage_ids

-- The plan of the next pipeline: it is rebuilt once more. Where no datanode was added, it has the storages of those that are left.
pub record IsNextPlan (plan : BlockPlan) (settings : RebuildSettings) (failed : List ℕ) (plan' : BlockPlan) : Type 0 where
  pub keeps : KeepsPlan plan plan'
  pub block : IsToWrite plan'.block
  pub nodes : IsNextPipeline plan settings failed plan'.block.locs
  pub storages : plan'.block.locs ≡ without 0 failed plan.block.locs → HasLeft failed plan.block plan'.block
  pub once : plan'.rebuilds ≡ plan.rebuilds + 1
  pub within : plan'.rebuilds ≤ settings.rebuild_limit

-- what is known of a block while it is written: the datanodes that are listed for it, how many of its bytes are safe, and its bytes
pub record Known : Type 0 where
  pub listed : List (List ℕ)
  pub safe : ℕ
  pub bytes : List ℕ

-- The block is one of the open file at the plan's path, and waits for a pipeline: each datanode of the plan holds all bytes that are safe.
pub record Waits (p : Picture) (plan : BlockPlan) (known : Known) : Type 0 where
  pub file : IsBeingWritten p plan.src plan.block.b
  pub block : BlockWaits p plan.block.b.block_id known.listed (uuids plan.block.locs) known.safe known.bytes

-- the block table has the generation stamp with which the block is named
abbrev pub HasStamp : Picture → Block → Type 0
HasStamp p block = (entry : BlockEntry) × (p.table block.block_id ≡ Some entry) × (entry.stamp ≡ block.generation_stamp)
