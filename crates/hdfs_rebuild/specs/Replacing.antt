-- A datanode is added to those that are left of a pipeline.
use Rattle.std.specs.Prelude.{◌≡◌, ◌⊎◌, ℕ, ◌+◌, ◌-◌, ◌==◌, Bool, true, false, List, [], ◌∷◌, take, All, Contains, Some, slice_get, if◌then◌else◌}
use Rattle.std.specs.Str.{bytes_eq}
use Rattle.hdfs_cluster.specs.declared.errors.TransferFault.TheVariants as transfer_faults
use Rattle.hdfs_cluster.specs.declared.asks.LinkFault.{LinkFault}
use Rattle.hdfs_cluster.specs.declared.asks.LinkFault.TheVariants as links
use Rattle.hdfs_cluster.specs.declared.errors.HdfsError.{HdfsError}
use Rattle.hdfs_cluster.specs.declared.errors.HdfsError.TheVariants as errors
use Rattle.hdfs_cluster.specs.declared.messages.DatanodeInfo.{DatanodeInfo}
use Rattle.hdfs_cluster.specs.declared.messages.LocatedBlock.{LocatedBlock}
use Rattle.hdfs_cluster.specs.declared.messages.Transfer.{Transfer}
use Rattle.hdfs_cluster.specs.Effects.{HasOneMore}
use Rattle.hdfs_cluster.specs.Namenode.{IsToWrite}
use Rattle.hdfs_cluster.specs.Picture.{Picture}
use Rattle.hdfs_cluster.specs.Sending.{uuids}
use Rattle.hdfs_cluster.specs.Shown.{Shown}
use Rattle.hdfs_cluster.specs.Transferring.{NotTransferred, Transferred}
use Rattle.hdfs_names.specs.Shown.{shown as policy_of}
use Rattle.hdfs_rebuild.specs.declared.block_plan.BlockPlan.{BlockPlan}
use Rattle.hdfs_rebuild.specs.declared.block_plan.RebuildSettings.{RebuildSettings}
use Rattle.hdfs_rebuild.specs.Between.{HelpFailed, HelpLacks, WaitsOn}
use Rattle.hdfs_rebuild.specs.Plans.{IsDue, Known, Waits}

-- where the datanode stands that was added to others: at the first place at which the lists differ
abbrev pub place_of : List DatanodeInfo → List DatanodeInfo → ℕ
place_of [] nodes = 0
place_of (other ∷ others) [] = 0
place_of (other ∷ others) (node ∷ nodes) =
    if bytes_eq other.id.datanode_uuid node.id.datanode_uuid then place_of others nodes + 1 else 0

-- the datanode before a place, or the one behind it where it is the first
abbrev pub place_beside : ℕ → ℕ
place_beside place = if place == 0 then 1 else place - 1

-- The datanode that was added is given the block by the one beside it, in a storage of the first type of those that are left.
pub record GivesToAdded (plan : BlockPlan) (located : LocatedBlock) (client : List ℕ) (transfer : Transfer) : Type 0 where
  pub block : transfer.block ≡ plan.block.b
  pub source : slice_get located.locs (place_beside (place_of plan.block.locs located.locs)) ≡ Some transfer.source
  pub target : DatanodeInfo
  pub added : slice_get located.locs (place_of plan.block.locs located.locs) ≡ Some target
  pub targets : transfer.targets ≡ target ∷ []
  pub types : transfer.target_storage_types ≡ take 1 plan.block.storage_types
  pub token : transfer.token ≡ located.block_token
  pub named_so : transfer.client ≡ client

-- The datanode that was added was given the block.
abbrev pub GivesBlock : BlockPlan → LocatedBlock → List ℕ → Shown → Shown → Type 0
GivesBlock plan located client old new =
    (transfer : Transfer) × GivesToAdded plan located client transfer × Transferred old transfer new

-- the plan with the datanodes and the storages of an answer
abbrev pub with_nodes : BlockPlan → LocatedBlock → BlockPlan
with_nodes plan located = record plan {
  block = record plan.block { locs = located.locs; storage_types = located.storage_types; storage_ids = located.storage_ids };
}

-- what it is for a rebuild that no datanode was answered
abbrev pub fault_of_none : HdfsError → HdfsError
fault_of_none errors.NoMemory = errors.NoMemory
fault_of_none error = errors.DataTransferError transfer_faults.NoReplacement

-- what it is that the datanode that was added wasn't given the block
abbrev pub fault_of_transfer : LinkFault → HdfsError
fault_of_transfer links.NoMemory = errors.NoMemory
fault_of_transfer fault = errors.DataTransferError transfer_faults.NoReplacement

-- whether it says that no datanode came in the place of one that failed
abbrev pub lacks_replacement : HdfsError → Bool
lacks_replacement (errors.DataTransferError transfer_faults.NoReplacement) = true
lacks_replacement error = false

-- It wasn't: for want of memory before any call, or the transfer has failed.
abbrev pub GivesNoBlock : BlockPlan → LocatedBlock → List ℕ → Shown → HdfsError → Shown → Type 0
GivesNoBlock plan located client old error new =
    ((error ≡ errors.NoMemory) × (new ≡ old))
    ⊎ ((transfer : Transfer) × (why : LinkFault) × GivesToAdded plan located client transfer × (error ≡ fault_of_transfer why)
    × NotTransferred old transfer why new)

-- over a told picture, where a block waits: each of these datanodes is one of the plan, or is none of the excluded ones
abbrev pub AreApart : BlockPlan → Shown → List DatanodeInfo → List DatanodeInfo → Type 0
AreApart plan old excluded nodes = (p : Picture) (known : Known) → old.picture ≡ Some p → Waits p plan known
    → All (λ node. Contains (uuids plan.block.locs) node ⊎ (Contains (uuids excluded) node → ⊥)) (uuids nodes)

-- A datanode was added to those of the plan, none of the excluded ones, and holds what the one beside it holds.
pub record AddsNode (plan : BlockPlan) (excluded : List DatanodeInfo) (old : Shown) (located : LocatedBlock) (new : Shown) : Type 0 where
  pub shape : IsToWrite located
  pub one : HasOneMore plan.block.locs located.locs
  pub apart : AreApart plan old excluded located.locs
  pub waits : WaitsOn plan old (with_nodes plan located) new

-- None was: for want of memory, or since a namenode or the transfer has failed. The block waits as before.
pub record AddsNone (plan : BlockPlan) (old : Shown) (error : HdfsError) (new : Shown) : Type 0 where
  pub cause : (error ≡ errors.NoMemory) ⊎ ((error ≡ errors.DataTransferError transfer_faults.NoReplacement) × HelpLacks plan old new)
  pub waits : WaitsOn plan old plan new

-- how the datanodes of a plan are gone on with: a datanode is added where one is due; with best effort none is, where a namenode or the
-- transfer has failed
abbrev pub GoesOnWith : BlockPlan → RebuildSettings → Shown → BlockPlan → Shown → Type 0
GoesOnWith plan settings old plan' new =
    ((IsDue plan settings plan.block.locs → ⊥) × (plan' ≡ plan))
    ⊎ (IsDue plan settings plan.block.locs × ((policy_of settings.replace).1 ≡ true) × (plan' ≡ plan) × HelpFailed plan old new)
    ⊎ (IsDue plan settings plan.block.locs
    × ((located : LocatedBlock) × HasOneMore plan.block.locs located.locs × (plan' ≡ with_nodes plan located)))

-- The pipeline has its datanodes, and the block waits with them.
pub record Completes (plan : BlockPlan) (settings : RebuildSettings) (excluded : List DatanodeInfo) (old : Shown) (plan' : BlockPlan)
    (new : Shown) : Type 0 where
  pub how : GoesOnWith plan settings old plan' new
  pub block : IsToWrite plan'.block
  pub apart : AreApart plan old excluded plan'.block.locs
  pub waits : WaitsOn plan old plan' new

-- A datanode was due, and the write doesn't go on without it, or memory was wanting.
pub record CompletesNot (plan : BlockPlan) (settings : RebuildSettings) (old : Shown) (error : HdfsError) (new : Shown) : Type 0 where
  pub cause : (error ≡ errors.NoMemory) ⊎ ((error ≡ errors.DataTransferError transfer_faults.NoReplacement) × IsDue plan settings plan.block.locs
      × ((policy_of settings.replace).1 ≡ false) × HelpLacks plan old new)
  pub waits : WaitsOn plan old plan new
