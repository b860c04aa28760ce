-- Packets are sent again on a pipeline that was opened to go on with a block, and namenodes are asked.
use Rattle.std.specs.Prelude.{◌≡◌, ◌≢◌, ◌⊎◌, ℕ, ◌<◌, List, [], ◌∷◌, ◌++◌, map, Some, None}
use Rattle.hdfs_wire.specs.Outgoing.{Outgoing}
use Rattle.hdfs_cluster.specs.declared.errors.HdfsError.{HdfsError}
use Rattle.hdfs_cluster.specs.declared.errors.HdfsError.TheVariants as errors
use Rattle.hdfs_cluster.specs.declared.messages.Token.{Token}
use Rattle.hdfs_cluster.specs.declared.picture.BlockEntry.{BlockEntry}
use Rattle.hdfs_cluster.specs.Failures.{CallsRose}
use Rattle.hdfs_cluster.specs.Effects.{NamesPipeline}
use Rattle.hdfs_cluster.specs.Picture.{Picture, SameButActive}
use Rattle.hdfs_cluster.specs.Pipes.{FollowsOn}
use Rattle.hdfs_cluster.specs.Shown.{Shown}
use Rattle.hdfs_namenode.specs.Relaying.{TellsAsk}
use Rattle.hdfs_pipeline.specs.Cores.{IsCore}
use Rattle.hdfs_pipeline.specs.Driving.{Drove, StopsShort}
use Rattle.hdfs_pipeline.specs.Pipelines.{Pipeline}
use Rattle.hdfs_rebuild.specs.declared.block_plan.BlockPlan.{BlockPlan}
use Rattle.hdfs_rebuild.specs.declared.replay.Resending.{Resending}
use Rattle.hdfs_rebuild.specs.declared.replay.SentAgain.{SentAgain}
use Rattle.hdfs_rebuild.specs.Between.{KeepsLinks, NamenodeFailed, WaitsOn}
use Rattle.hdfs_rebuild.specs.Opening.{with_stamp_of}
use Rattle.hdfs_block_reader.specs.Carrying.{FollowFrom}

-- the plan with another generation stamp and token for its block
abbrev pub with_stamp : BlockPlan → ℕ → Token → BlockPlan
with_stamp plan stamp token = record plan {
  block = record plan.block { b = record plan.block.b { generation_stamp = stamp }; block_token = token };
}

-- The block has a generation stamp for its next pipeline, a greater one than the block table has. It waits as before.
pub record Restamps (plan : BlockPlan) (old : Shown) (plan' : BlockPlan) (new : Shown) : Type 0 where
  pub stamp : ℕ
  pub token : Token
  pub is : plan' ≡ with_stamp plan stamp token
  pub newer : (p : Picture) (entry : BlockEntry) → old.picture ≡ Some p → p.table plan.block.b.block_id ≡ Some entry → entry.stamp < stamp
  pub waits : WaitsOn plan old plan' new

-- why a namenode gave no answer
abbrev pub AskFails : BlockPlan → Shown → HdfsError → Shown → Type 0
AskFails plan old error new = (error ≡ errors.NoMemory)
    ⊎ ((error ≢ errors.NoMemory) × TellsAsk old new error × NamenodeFailed plan old new)

-- There was none, and the block waits as before.
pub record RestampsNot (plan : BlockPlan) (old : Shown) (error : HdfsError) (new : Shown) : Type 0 where
  pub cause : AskFails plan old error new
  pub waits : WaitsOn plan old plan new

-- The packets were sent on a fresh link, in order: all of them, or the pipeline has ended at one of them, and the others weren't sent.
-- No acknowledgement was read.
pub record SendsAgain (link : ℕ) (replay : List Outgoing) (core : Pipeline) (old : Shown) (sent : SentAgain) (new : Shown) : Type 0 where
  pub pushed : replay ≡ sent.core.pushed ++ sent.rest
  pub drove : Drove link sent.core.pushed core old sent.core new
  pub is_core : IsCore sent.core
  pub all : sent.core.end ≡ None → sent.rest ≡ []
  pub goes_on : sent.core.end ≡ None → (packet : Outgoing) (start : ℕ) → FollowFrom start (replay ++ packet ∷ [])
      → FollowsOn new link packet

-- the datanodes of a plan are those of its block's pipeline in the block table, and the block, which had this generation stamp, has that
-- of the plan there
abbrev pub NamesIt : ℕ → BlockPlan → Picture → Picture → Type 0
NamesIt stamp plan =
    NamesPipeline (with_stamp_of plan.block.b stamp) plan.block.b (map (λ node. node.id) plan.block.locs)

-- what an ask to name a pipeline did to a picture, in which the block is listed
abbrev pub MayBeNamed : ℕ → BlockPlan → Picture → Picture → Type 0
MayBeNamed stamp plan p q = SameButActive p q ⊎ NamesIt stamp plan p q

-- over a told picture, in which the block of a plan is listed, this came of an ask to name its pipeline
abbrev pub NamesSo : (Picture → Picture → Type 0) → BlockPlan → Shown → Shown → Type 0
NamesSo P plan old new = (p : Picture) (entry : BlockEntry) → old.picture ≡ Some p → p.table plan.block.b.block_id ≡ Some entry
    → (q : Picture) × (new.picture ≡ Some q) × P p q

-- The datanodes of the plan are those of the block's pipeline in the block table, or that ask was left without an answer.
pub record NamesNot (stamp : ℕ) (plan : BlockPlan) (old : Shown) (error : HdfsError) (new : Shown) : Type 0 where
  pub may : NamesSo (MayBeNamed stamp plan) plan old new
  pub cause : (error ≡ errors.NoMemory) ⊎ ((error ≢ errors.NoMemory) × TellsAsk old new error
      × ((p : Picture) (entry : BlockEntry) → old.picture ≡ Some p
      → p.table plan.block.b.block_id ≡ Some entry → CallsRose old.counts new))

-- The packets were sent again, and then the pipeline was named, whose block had this generation stamp.
pub record SendsAndNames (task : Resending) (stamp : ℕ) (plan : BlockPlan) (old : Shown) (sent : SentAgain) (new : Shown) : Type 0 where
  pub between : Shown
  pub sends : SendsAgain task.link task.replay task.core old sent between
  pub links : KeepsLinks between new
  pub names : NamesSo (NamesIt stamp plan) plan between new

-- Memory was wanting while they were sent, or the pipeline wasn't named.
abbrev pub SendsOrNamesNot : Resending → ℕ → BlockPlan → Shown → HdfsError → Shown → Type 0
SendsOrNamesNot task stamp plan old error new =
    ((error ≡ errors.NoMemory) × StopsShort task.link task.replay task.core old new)
    ⊎ ((sent : SentAgain) × (between : Shown) × SendsAgain task.link task.replay task.core old sent between
    × KeepsLinks between new × NamesNot stamp plan between error new)
