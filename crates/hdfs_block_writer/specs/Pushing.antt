-- How a packet goes down a pipeline that is rebuilt where datanodes of it fail. No public clause cites this module.
use Rattle.std.specs.Prelude.{◌≡◌, ℕ, ◌+◌, ◌^◌, ◌<◌, ◌≤◌, List, [], ◌∷◌, ◌++◌, length as len, All, Option, Some, None}
use Rattle.hdfs_wire.specs.Outgoing.{Outgoing}
use Rattle.hdfs_cluster.specs.declared.errors.HdfsError.{HdfsError}
use Rattle.hdfs_cluster.specs.declared.asks.Answer.{Answer}
use Rattle.hdfs_cluster.specs.declared.asks.Ask.{Ask}
use Rattle.hdfs_cluster.specs.declared.picture.OpenWrite.{OpenWrite}
use Rattle.hdfs_cluster.specs.Requests.{LetsGoOn, Request}
use Rattle.hdfs_namenode.specs.Asked.{IsServiceOf}
use Rattle.hdfs_namenode.specs.Clients.{name_of, proxy_of}
use Rattle.hdfs_namenode.specs.declared.protocol.NamenodeProtocol.{NamenodeProtocol}
use Rattle.hdfs_cluster.specs.Pipes.{FollowsOn}
use Rattle.hdfs_cluster.specs.Shown.{Shown}
use Rattle.hdfs_pipeline.specs.Driving.{Drives, Drove, EndsInLast, IsNotLast}
use Rattle.hdfs_pipeline.specs.Pipelines.{Pipeline}
use Rattle.hdfs_block_reader.specs.Carrying.{FollowFrom, total}
use Rattle.hdfs_rebuild.specs.declared.block_plan.BlockPipeline.{BlockPipeline}
use Rattle.hdfs_rebuild.specs.declared.block_plan.BlockPlan.{BlockPlan}
use Rattle.hdfs_rebuild.specs.declared.block_plan.RebuildSettings.{RebuildSettings}
use Rattle.hdfs_block_writer.specs.declared.pushing.PushedOnce.{PushedOnce}
use Rattle.hdfs_block_writer.specs.declared.pushing.Settled.{Settled}
use Rattle.hdfs_block_writer.specs.declared.pushing.Settled.TheVariants as settled
use Rattle.hdfs_block_writer.specs.OpenPipelines.{Continues, EndsReceived, Finishes, GivesUp, IsOver, IsStanding, id_of, traffic}

-- the next packet follows on the link, wherever the packets before it began
abbrev pub GoesOnBehind : Shown → BlockPipeline → Type 0
GoesOnBehind shown pipe =
    (packet : Outgoing) (first : ℕ) → FollowFrom first (pipe.core.pushed ++ packet ∷ []) → FollowsOn shown pipe.link packet

-- The pipeline was driven on to what it is: with this core it went on over the same link when this was shown, which was set up with its
-- datanodes, and since then these packets came.
pub record CameFrom (before : Shown) (core : Pipeline) (came : List Outgoing) (now : Shown) (pipe : BlockPipeline) : Type 0 where
  pub drove : Drove pipe.link came core before pipe.core now
  pub going : core.end ≡ None
  pub drives : Drives before pipe.link core
  pub set_up : (write : OpenWrite) → before.writes pipe.link ≡ Some write → write.setup.locs ≡ pipe.plan.block.locs

-- What driving a pipeline on to its end wants: the client's service is one of the cluster's, there is leave to go on with its block
-- behind it, and it can be rebuilt.
pub record MayDrive (allows : Request → Type 0) (may_answer : Ask → Answer → Type 0) (namenode : NamenodeProtocol) (settings : RebuildSettings)
    (shown : Shown) (pipe : BlockPipeline) : Type 0 where
  pub service : IsServiceOf (proxy_of namenode) shown
  pub allowed : LetsGoOn allows may_answer (name_of namenode) pipe.plan.src pipe.plan.block
  pub standing : IsStanding settings shown pipe []

-- the pipeline with another core
abbrev pub with_core : BlockPipeline → Pipeline → BlockPipeline
with_core pipe core = record pipe { core = core }

-- The pipeline was rebuilt, and goes on, and these packets came: for whichever packets were to come behind, these are to come still.
pub record IsRebuilt (settings : RebuildSettings) (old : Shown) (pipe : BlockPipeline) (came : List Outgoing) (new : Shown)
    (pipe' : BlockPipeline) : Type 0 where
  pub going : pipe'.core.end ≡ None
  pub again : pipe.plan.rebuilds < pipe'.plan.rebuilds
  pub acknowledged : ℕ
  pub continues : (more : List Outgoing) → IsStanding settings old pipe (came ++ more)
      → Continues settings old pipe (traffic acknowledged came more) new pipe'
  pub behind : GoesOnBehind new pipe'

-- it was given up, for whichever packets were to come behind these
abbrev pub FallsFor : RebuildSettings → Shown → BlockPipeline → List Outgoing → HdfsError → Shown → Type 0
FallsFor settings old pipe came error new =
    (more : List Outgoing) → GivesUp settings pipe (IsOver pipe (came ++ more)) old error new

-- a pipeline that had ended was rebuilt, as is said from when it went on
abbrev pub RebuildsEnded : RebuildSettings → Shown → BlockPipeline → Shown → BlockPipeline → Type 0
RebuildsEnded settings old pipe new pipe' =
    (before : Shown) (core : Pipeline) (came : List Outgoing) → CameFrom before core came old pipe
    → IsRebuilt settings before (with_core pipe core) came new pipe'

-- it was given up, as is said from when it went on
abbrev pub FallsEnded : RebuildSettings → Shown → BlockPipeline → HdfsError → Shown → Type 0
FallsEnded settings old pipe error new =
    (before : Shown) (core : Pipeline) (came : List Outgoing) → CameFrom before core came old pipe
    → FallsFor settings before (with_core pipe core) came error new

-- What came of driving a pipeline to its end, whose last packet was pushed: it is done, or rebuilt with packets that were sent
-- again.
abbrev pub Settles : RebuildSettings → Shown → BlockPipeline → Settled → Shown → Type 0
Settles settings old pipe (settled.Done plan) new = Finishes settings old pipe new plan
Settles settings old pipe (settled.Rebuilt pipe') new = IsRebuilt settings old pipe [] new pipe' × (0 < len pipe'.core.pushed)

-- the block's plan then
abbrev pub plan_in : Settled → BlockPlan
plan_in (settled.Done plan) = plan
plan_in (settled.Rebuilt pipe) = pipe.plan

-- A pipeline's link was ended only once its datanodes had received its packets, the last of which is this one.
abbrev pub ReceivesAll : {C : Type 0} → (C → Shown) → (C → ℕ → C → Type 0) → C → BlockPipeline → C → Type 0
ReceivesAll shown ends old pipe new = (front : List Outgoing) (packet : Outgoing) → pipe.core.pushed ≡ front ++ packet ∷ []
    → EndsReceived shown (λ before link. ends before link new) old (IsOver pipe []) (id_of pipe) packet

-- it was, where the pipeline is done
abbrev pub ReceivesOnce : {C : Type 0} → (C → Shown) → (C → ℕ → C → Type 0) → C → BlockPipeline → Settled → C → Type 0
ReceivesOnce shown ends old pipe (settled.Done plan) new = ReceivesAll shown ends old pipe new
ReceivesOnce shown ends old pipe (settled.Rebuilt pipe') new = Unit {0}

-- A packet can be pushed: the pipeline goes on, none of its packets is the last of the block, the packet follows on the link and on them,
-- and the block has it.
pub record CanPush (settings : RebuildSettings) (shown : Shown) (pipe : BlockPipeline) (length : ℕ) (packet : Outgoing) : Type 0 where
  pub standing : IsStanding settings shown pipe (packet ∷ [])
  pub going : pipe.core.end ≡ None
  pub more : All IsNotLast pipe.core.pushed
  pub next : FollowsOn shown pipe.link packet
  pub few : (total pipe.core.pushed + len packet.payload ≤ length) × (length < 2 ^ 63)

-- A packet was pushed, and the pipeline goes on, as it was or rebuilt.
pub record Pushes (settings : RebuildSettings) (old : Shown) (pipe : BlockPipeline) (packet : Outgoing) (new : Shown) (pipe' : BlockPipeline)
    : Type 0 where
  pub going : pipe'.core.end ≡ None
  pub acknowledged : ℕ
  pub continues : Continues settings old pipe (traffic acknowledged (packet ∷ []) []) new pipe'
  pub behind : GoesOnBehind new pipe'

-- what holds of a packet that came back, or else of none
abbrev pub ByBack : Option Outgoing → Type 0 → (Outgoing → Type 0) → Type 0
ByBack None pushed again = pushed
ByBack (Some back) pushed again = again back

-- What came of pushing a packet: it was pushed, or the pipeline was rebuilt before, and it is to be pushed still.
abbrev pub PushesOnce : RebuildSettings → Shown → BlockPipeline → Outgoing → PushedOnce → Shown → Type 0
PushesOnce settings old pipe packet pushed new = ByBack pushed.back (Pushes settings old pipe packet new pushed.pipe)
    (λ back. (back ≡ packet) × IsRebuilt settings old pipe [] new pushed.pipe)

-- the pipeline was given up, and the packet with it
abbrev pub PushesNot : RebuildSettings → Shown → BlockPipeline → Outgoing → HdfsError → Shown → Type 0
PushesNot settings old pipe packet error new = GivesUp settings pipe (IsOver pipe (packet ∷ [])) old error new

-- it was given up, and no packet was to come
abbrev pub FinishesNot : RebuildSettings → Shown → BlockPipeline → HdfsError → Shown → Type 0
FinishesNot settings old pipe error new = GivesUp settings pipe (IsOver pipe []) old error new

-- the pipeline goes on, and the last packet of the block was pushed last
abbrev pub IsEnding : BlockPipeline → Type 0
IsEnding pipe = (pipe.core.end ≡ None) × EndsInLast pipe.core.pushed

-- how many bytes a packet has, where there is one
abbrev pub bytes_in : Option Outgoing → ℕ
bytes_in None = 0
bytes_in (Some packet) = len packet.payload
