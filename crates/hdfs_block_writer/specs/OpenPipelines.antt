-- An open pipeline of a block, which goes on as it was, or is rebuilt where datanodes of it fail.
use Rattle.std.specs.Prelude.{◌≡◌, ◌≢◌, ◌⊎◌, ℕ, suc, ◌+◌, ◌-◌, ◌<◌, ◌≤◌, false, not, List, [], ◌∷◌, ◌++◌, length as len, take, drop, All, Any, Option, Some, None, IsSome}
use Rattle.hdfs_wire.specs.Outgoing.{Outgoing}
use Rattle.hdfs_cluster.specs.declared.errors.HdfsError.{HdfsError}
use Rattle.hdfs_cluster.specs.declared.errors.HdfsError.TheVariants as errors
use Rattle.hdfs_cluster.specs.declared.errors.IoFault.TheVariants as io_faults
use Rattle.hdfs_cluster.specs.declared.errors.TransferFault.TheVariants as transfer
use Rattle.hdfs_cluster.specs.declared.picture.BlockEntry.{BlockEntry}
use Rattle.hdfs_cluster.specs.declared.picture.OpenWrite.{OpenWrite}
use Rattle.hdfs_cluster.specs.Failures.{CallsRose, NodesFailTimes, SomeNodeRose}
use Rattle.hdfs_cluster.specs.Counts.{Rose}
use Rattle.hdfs_cluster.specs.Effects.{IsBeingWritten}
use Rattle.hdfs_cluster.specs.Namenode.{IsToWrite}
use Rattle.hdfs_cluster.specs.Picture.{Picture}
use Rattle.hdfs_cluster.specs.Sending.{WritePlace, uuids}
use Rattle.hdfs_cluster.specs.Shown.{Shown, Later, SameReads}
use Rattle.hdfs_names.specs.Replacements.{ShouldReplace}
use Rattle.hdfs_names.specs.Shown.{shown as policy_of}
use Rattle.hdfs_pipeline.specs.Cores.{IsCore}
use Rattle.hdfs_pipeline.specs.Driving.{Drives, Settles}
use Rattle.hdfs_block_reader.specs.Carrying.{AreSlices, FollowFrom, HoldsWhole, LinkHolds, total}
use Rattle.hdfs_block_reader.specs.Rebuilding.{IsListed}
use Rattle.hdfs_rebuild.specs.declared.block_plan.BlockPipeline.{BlockPipeline}
use Rattle.hdfs_rebuild.specs.declared.block_plan.BlockPlan.{BlockPlan}
use Rattle.hdfs_rebuild.specs.declared.block_plan.RebuildSettings.{RebuildSettings}
use Rattle.hdfs_rebuild.specs.Between.{HasLastError, OnlyBlockOf}
use Rattle.hdfs_namenode.specs.Relaying.{TellsAsk}
use Rattle.hdfs_rebuild.specs.Plans.{HasStamp, NoneEndsBefore}

-- the id of a pipeline's block
abbrev pub id_of : BlockPipeline → ℕ
id_of pipe = pipe.plan.block.b.block_id

-- the datanodes of a pipeline, by their uuids
abbrev pub nodes_of : BlockPipeline → List (List ℕ)
nodes_of pipe = uuids pipe.plan.block.locs

-- A pipeline over its link, whether it goes on or has ended: it can be rebuilt, the link was set up with its datanodes, and its packets
-- follow one another, with `more` that are to come behind them.
pub record IsStanding (settings : RebuildSettings) (shown : Shown) (pipe : BlockPipeline) (more : List Outgoing) : Type 0 where
  pub drives : Drives shown pipe.link pipe.core
  pub is_core : IsCore pipe.core
  pub block : IsToWrite pipe.plan.block
  pub set_up : (write : OpenWrite) → shown.writes pipe.link ≡ Some write → write.setup.locs ≡ pipe.plan.block.locs
  pub many : len pipe.plan.block.locs ≡ pipe.core.nodes
  pub rebuilds : pipe.plan.rebuilds ≤ settings.rebuild_limit
  pub window : pipe.core.window ≡ settings.window
  pub first : ℕ
  pub follow : FollowFrom first (pipe.core.pushed ++ more)
  pub ends : NoneEndsBefore (pipe.core.pushed ++ more)

-- What a block has over a pipeline, whatever fails. It is one of the open file at the plan's path, and the block table lists the datanodes
-- of the pipeline. Each of them holds a prefix of these bytes, and in it the first `safe` ones, which are acknowledged. The packets of the
-- pipeline are the next ones, with `more` that are to come behind them.
pub record Has (p : Picture) (pipe : BlockPipeline) (more : List Outgoing) (safe : ℕ) (bytes : List ℕ) : Type 0 where
  pub file : IsBeingWritten p pipe.plan.src pipe.plan.block.b
  pub on : LinkHolds p pipe.link (id_of pipe) (nodes_of pipe) safe bytes
  pub lists : IsListed p (id_of pipe) (nodes_of pipe) bytes
  pub settles : Settles on.place pipe.core on.settled
  pub slices : AreSlices bytes safe (pipe.core.pushed ++ more)

-- the picture has a block over this pipeline, where these packets are to come still
abbrev pub IsOver : BlockPipeline → List Outgoing → Picture → Type 0
IsOver pipe more p = (safe : ℕ) × (bytes : List ℕ) × Has p pipe more safe bytes

-- Calls on the cluster in the name of one writer: no count fell, read links stay, and so do the write links that were open and aren't its
-- own; none is left open but its own, which it had before or wasn't open.
pub record OnlyOwnLink (old : Shown) (before : Option ℕ) (new : Shown) (after : Option ℕ) : Type 0 where
  pub later : Later old new
  pub reads : SameReads old new
  pub others : (link : ℕ) → IsSome (old.writes link) → before ≢ Some link → new.writes link ≡ old.writes link
  pub none : (link : ℕ) → (old.writes link ≡ None) ⊎ (before ≡ Some link) → after ≢ Some link → new.writes link ≡ None
  pub fresh : (link : ℕ) → after ≡ Some link → (before ≡ Some link) ⊎ (old.writes link ≡ None)

-- what stays of a plan, however often its pipeline is rebuilt
pub record KeepsBlock (plan plan' : BlockPlan) : Type 0 where
  pub src : plan'.src ≡ plan.src
  pub pool : plan'.block.b.pool_id ≡ plan.block.b.pool_id
  pub id : plan'.block.b.block_id ≡ plan.block.b.block_id
  pub replication : plan'.replication ≡ plan.replication
  pub created : plan'.created ≡ plan.created
  pub chunk : plan'.chunk ≡ plan.chunk

-- a block's pipeline was rebuilt, once for each time that datanodes have failed, one time behind another
abbrev pub RebuiltOnFailures : Shown → BlockPlan → Shown → BlockPlan → Type 0
RebuiltOnFailures old plan new plan' =
    (times : ℕ) × (0 < times) × (plan'.rebuilds ≡ plan.rebuilds + times) × NodesFailTimes times old new

-- it wasn't rebuilt and stands over the same link, or it was rebuilt, no more often than datanodes have failed
abbrev pub IsSteady : Shown → BlockPipeline → Shown → BlockPipeline → Type 0
IsSteady old pipe new pipe' =
    ((pipe'.plan ≡ pipe.plan) × (pipe'.link ≡ pipe.link)) ⊎ RebuiltOnFailures old pipe.plan new pipe'.plan

-- where the block table has the generation stamp of a block's pipeline, it has that of another one then
abbrev pub KeepsStamp : Picture → BlockPlan → Picture → BlockPlan → Type 0
KeepsStamp p plan q plan' = HasStamp p plan.block.b → HasStamp q plan'.block.b

-- what becomes of the packets of a pipeline: the first of them, so many, are acknowledged, others came behind the rest, and `more` are
-- to come still
pub record Traffic : Type 0 where
  pub acknowledged : ℕ
  pub came : List Outgoing
  pub more : List Outgoing

-- the same, from its parts
abbrev pub traffic : ℕ → List Outgoing → List Outgoing → Traffic
traffic acknowledged came more = record { acknowledged = acknowledged; came = came; more = more }

-- A pipeline goes on, as it was or rebuilt, and this became of its packets. Over a told picture the same bytes are the block's, and those
-- that are acknowledged now are safe too.
pub record Continues (settings : RebuildSettings) (old : Shown) (pipe : BlockPipeline) (packets : Traffic) (new : Shown)
    (pipe' : BlockPipeline) : Type 0 where
  pub own : OnlyOwnLink old (Some pipe.link) new (Some pipe'.link)
  pub keeps : KeepsBlock pipe.plan pipe'.plan
  pub steady : IsSteady old pipe new pipe'
  pub few : packets.acknowledged ≤ len pipe.core.pushed
  pub pushed : pipe'.core.pushed ≡ drop packets.acknowledged pipe.core.pushed ++ packets.came
  pub standing : IsStanding settings new pipe' packets.more
  pub told : (p : Picture) (safe : ℕ) (bytes : List ℕ) → old.picture ≡ Some p → Has p pipe (packets.came ++ packets.more) safe bytes
      → (q : Picture) × (new.picture ≡ Some q)
      × Has q pipe' packets.more (safe + total (take packets.acknowledged pipe.core.pushed)) bytes × OnlyBlockOf (id_of pipe) p q
      × KeepsStamp p pipe.plan q pipe'.plan

-- over a told picture of which this holds: a namenode has failed
abbrev pub NamenodeFails : (Picture → Type 0) → Shown → Shown → Type 0
NamenodeFails W old new = (p : Picture) → old.picture ≡ Some p → W p → CallsRose old.counts new

-- over a told picture of which this holds: some datanodes are listed for the block, and each of these has failed
abbrev pub AllListedFail : (Picture → Type 0) → ℕ → Shown → Shown → Type 0
AllListedFail W id old new = (p : Picture) → old.picture ≡ Some p → W p
    → (q : Picture) × (entry : BlockEntry) × (new.picture ≡ Some q) × (q.table id ≡ Some entry) × (0 < len entry.nodes)
    × All (λ node. Rose (old.counts.nodes node) (new.counts.nodes node)) entry.nodes

-- over a told picture of which this holds: a datanode that is listed for the block has failed
abbrev pub ListedFails : (Picture → Type 0) → ℕ → Shown → Shown → Type 0
ListedFails W id old new = (p : Picture) → old.picture ≡ Some p → W p
    → (q : Picture) × (entry : BlockEntry) × (new.picture ≡ Some q) × (q.table id ≡ Some entry)
    × Any (λ node. Rose (old.counts.nodes node) (new.counts.nodes node)) entry.nodes

-- a datanode more may be due where datanodes of a block's pipeline fail: it is where some of them are left
abbrev pub MayBeDue : RebuildSettings → BlockPlan → Type 0
MayBeDue settings plan =
    (left : ℕ) × ShouldReplace (policy_of settings.replace).0 plan.replication left (not plan.created) false

-- Why a block is given up, which is so in a told picture, and had this plan before. Want of memory alone is free.
-- Its pipeline has been rebuilt as often as it may be only where datanodes have failed once more than it could be rebuilt still.
-- Any other error is one of an ask of namenodes.
abbrev pub HasCause : RebuildSettings → BlockPlan → (Picture → Type 0) → Shown → HdfsError → Shown → Type 0
HasCause settings plan W old errors.NoMemory new = Unit {0}
HasCause settings plan W old (errors.IOError io_faults.Link) new =
    SomeNodeRose old.counts new × Rose old.counts.links new.counts.links
HasCause settings plan W old (errors.DataTransferError transfer.Setup) new =
    SomeNodeRose old.counts new × Rose old.counts.links new.counts.links
HasCause settings plan W old (errors.DataTransferError (transfer.BadAck seqno)) new = Rose old.counts.links new.counts.links
HasCause settings plan W old (errors.DataTransferError transfer.AllNodes) new =
    SomeNodeRose old.counts new × AllListedFail W plan.block.b.block_id old new
HasCause settings plan W old (errors.DataTransferError transfer.NoReplacement) new =
    ((policy_of settings.replace).1 ≡ false) × SomeNodeRose old.counts new
    × (Rose old.counts.links new.counts.links ⊎ (NamenodeFails W old new × HasLastError old new))
    × ListedFails W plan.block.b.block_id old new × MayBeDue settings plan
HasCause settings plan W old (errors.DataTransferError (transfer.RebuildLimit rebuilds)) new =
    (rebuilds ≡ settings.rebuild_limit) × NodesFailTimes (suc (settings.rebuild_limit - plan.rebuilds)) old new
    × ListedFails W plan.block.b.block_id old new
HasCause settings plan W old error new =
    TellsAsk old new error × SomeNodeRose old.counts new × NamenodeFails W old new

-- The block of a pipeline, which is so in a told picture, was given up for this cause: no link of its writer is left open, and nothing
-- changed but the block.
pub record GivesUp (settings : RebuildSettings) (pipe : BlockPipeline) (W : Picture → Type 0) (old : Shown) (error : HdfsError)
    (new : Shown) : Type 0 where
  pub own : OnlyOwnLink old (Some pipe.link) new None
  pub cause : HasCause settings pipe.plan W old error new
  pub touches : (p : Picture) → old.picture ≡ Some p → W p → (q : Picture) × (new.picture ≡ Some q) × OnlyBlockOf (id_of pipe) p q

-- All packets of a pipeline are acknowledged, and its link is ended. Over a told picture each of its datanodes, which are listed, holds
-- the block whole, where no bytes are behind its packets.
pub record Finishes (settings : RebuildSettings) (old : Shown) (pipe : BlockPipeline) (new : Shown) (plan' : BlockPlan) : Type 0 where
  pub own : OnlyOwnLink old (Some pipe.link) new None
  pub keeps : KeepsBlock pipe.plan plan'
  pub within : plan'.rebuilds ≤ settings.rebuild_limit
  pub steady : (plan' ≡ pipe.plan) ⊎ RebuiltOnFailures old pipe.plan new plan'
  pub told : (p : Picture) (safe : ℕ) (bytes : List ℕ) → old.picture ≡ Some p → Has p pipe [] safe bytes
      → safe + total pipe.core.pushed ≡ len bytes → (q : Picture) × (new.picture ≡ Some q)
      × HoldsWhole q (id_of pipe) (len bytes) (uuids plan'.block.locs) bytes × OnlyBlockOf (id_of pipe) p q
      × KeepsStamp p pipe.plan q plan'

-- A link has a block. This packet is the last one that was sent on it, and each of its datanodes, which are those that are listed for the
-- block, has received all packets.
pub record HasReceived (p : Picture) (link id : ℕ) (packet : Outgoing) : Type 0 where
  pub place : WritePlace
  pub at : p.writes link ≡ Some place
  pub block : place.block ≡ id
  pub entry : BlockEntry
  pub is : p.table id ≡ Some entry
  pub listed : entry.nodes ≡ place.nodes
  pub front : List Outgoing
  pub sent : place.sent ≡ front ++ packet ∷ []
  pub received : (i : ℕ) → i < len place.nodes → len place.sent ≤ place.received i

-- A link of a block that was so in a told picture was ended last, once its datanodes had received this packet.
abbrev pub EndsReceived : {C : Type 0} → (C → Shown) → (C → ℕ → Type 0) → C → (Picture → Type 0) → ℕ → Outgoing → Type 0
EndsReceived {C} shown Ended old W id packet = (before : C) × (link : ℕ) × Ended before link
    × ((p : Picture) → (shown old).picture ≡ Some p → W p
    → (q : Picture) × ((shown before).picture ≡ Some q) × HasReceived q link id packet)
