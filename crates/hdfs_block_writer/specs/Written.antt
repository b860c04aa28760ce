-- What the calls of a writer of one block do.
use Rattle.std.specs.Prelude.{◌≡◌, ◌⊎◌, ℕ, pos, ◌+◌, ◌≤◌, true, List, [], ◌++◌, length, Some, None}
use Rattle.hdfs_wire.specs.Outgoing.{Outgoing}
use Rattle.hdfs_cluster.specs.declared.errors.HdfsError.{HdfsError}
use Rattle.hdfs_cluster.specs.declared.asks.Answer.{Answer}
use Rattle.hdfs_cluster.specs.declared.asks.Ask.{Ask}
use Rattle.hdfs_cluster.specs.declared.messages.Block.{Block}
use Rattle.hdfs_cluster.specs.declared.messages.LocatedBlock.{LocatedBlock}
use Rattle.hdfs_cluster.specs.declared.messages.Setup.{Setup}
use Rattle.hdfs_cluster.specs.Effects.{IsBeingWritten}
use Rattle.hdfs_cluster.specs.Picture.{Picture}
use Rattle.hdfs_cluster.specs.Pipes.{WriteEnded, WriteOpened}
use Rattle.hdfs_cluster.specs.Requests.{IsNamed, IsPipelineOf}
use Rattle.hdfs_cluster.specs.Sending.{uuids}
use Rattle.hdfs_cluster.specs.Shown.{Shown}
use Rattle.hdfs_cluster.specs.Writing.{OnlyBlock}
use Rattle.hdfs_block_reader.specs.Carrying.{HoldsWhole}
use Rattle.hdfs_block_writer.specs.Packing.{filling_of}
use Rattle.hdfs_rebuild.specs.declared.block_plan.BlockPipeline.{BlockPipeline}
use Rattle.hdfs_rebuild.specs.declared.block_plan.BlockPlan.{BlockPlan}
use Rattle.hdfs_rebuild.specs.declared.block_plan.RebuildSettings.{RebuildSettings}
use Rattle.hdfs_block_writer.specs.declared.block_writer.BlockWriter.{BlockWriter}
use Rattle.hdfs_block_writer.specs.BlockWriters.{AreFull, Carries, HasFailed, length_of, link_of, size_of, start_of}
use Rattle.hdfs_rebuild.specs.Between.{OnlyBlockOf}
use Rattle.hdfs_rebuild.specs.Plans.{StaysAnswered}
pub use Rattle.hdfs_rebuild.specs.Opening.{OpensNone, fault_of}
use Rattle.hdfs_block_writer.specs.OpenPipelines.{EndsReceived, GivesUp, IsSteady, KeepsBlock, KeepsStamp, OnlyOwnLink, RebuiltOnFailures, id_of, nodes_of}

-- A new writer of this block, whose first packet has the seqno 0, with what it was asked to write with.
pub record IsNew (wanted : BlockPlan) (settings : RebuildSettings) (size bytes_per_packet : ℕ) (writer : BlockWriter) : Type 0 where
  pub pipe : BlockPipeline
  pub is : writer.pipe ≡ Some pipe
  pub plan : pipe.plan ≡ wanted
  pub none_waits : pipe.core.pushed ≡ []
  pub length : length_of writer ≡ wanted.block.b.num_bytes
  pub block_size : size_of writer ≡ size
  pub first : writer.seqno ≡ 0
  pub chunk : writer.chunk ≡ wanted.chunk
  pub packet_size : writer.packet_size ≡ bytes_per_packet
  pub with : writer.settings ≡ settings

-- the writer's pipeline was set up so, on a fresh link, and nothing else changed
abbrev pub OpensLink : Shown → Setup → BlockWriter → Shown → Type 0
OpensLink old setup writer new = (link : ℕ) × (link_of writer ≡ Some link) × WriteOpened old setup link new

-- Over a told picture: where the block is one of the open file at the plan's path, and the plan's datanodes are those that are listed, and
-- hold the block whole, its bytes are carried.
abbrev pub BeginsWhole : Shown → BlockPlan → BlockWriter → Shown → Type 0
BeginsWhole old plan writer new =
    (p : Picture) (bytes : List ℕ) → old.picture ≡ Some p → IsBeingWritten p plan.src plan.block.b
    → HoldsWhole p plan.block.b.block_id plan.block.b.num_bytes (uuids plan.block.locs) bytes
    → (q : Picture) × (new.picture ≡ Some q) × Carries q writer bytes

-- with what it writes
pub record Keeps (writer writer' : BlockWriter) : Type 0 where
  pub settings : writer'.settings ≡ writer.settings
  pub block_size : size_of writer' ≡ size_of writer
  pub chunk : writer'.chunk ≡ writer.chunk
  pub packet_size : writer'.packet_size ≡ writer.packet_size

-- where the block table has the generation stamp of the writer's pipeline, it has that of its pipeline then
abbrev pub StaysStamped : Picture → BlockWriter → Picture → BlockWriter → Type 0
StaysStamped p writer q writer' = (pipe pipe' : BlockPipeline) → writer.pipe ≡ Some pipe → writer'.pipe ≡ Some pipe'
    → KeepsStamp p pipe.plan q pipe'.plan

-- over a told picture: these bytes more are carried, and nothing changed but the writer's block
abbrev pub CarriesMore : Shown → BlockWriter → List ℕ → Shown → BlockWriter → Type 0
CarriesMore old writer more new writer' = (p : Picture) (bytes : List ℕ) → old.picture ≡ Some p → (c : Carries p writer bytes)
    → (q : Picture) × (new.picture ≡ Some q) × Carries q writer' (bytes ++ more) × OnlyBlockOf (id_of c.pipe) p q
    × StaysStamped p writer q writer'

-- its pipeline is that of before, over the same link, or it was rebuilt, no more often than datanodes have failed
abbrev pub PipelineStays : Shown → BlockWriter → Shown → BlockWriter → Type 0
PipelineStays old writer new writer' = (pipe : BlockPipeline) → writer.pipe ≡ Some pipe
    → (pipe' : BlockPipeline) × (writer'.pipe ≡ Some pipe') × KeepsBlock pipe.plan pipe'.plan × IsSteady old pipe new pipe'

-- whatever block it is of: where the writer's pipeline was answered so, it is so behind a call
abbrev pub GoesOnAnswered : (Ask → Answer → Type 0) → List ℕ → BlockWriter → BlockWriter → Type 0
GoesOnAnswered may_answer client writer writer' = (pipe pipe' : BlockPipeline) → writer.pipe ≡ Some pipe → writer'.pipe ≡ Some pipe'
    → StaysAnswered may_answer client pipe.plan pipe'.plan

-- whatever block it is of: where the writer's pipeline was answered so, this is its name, with a generation stamp that was answered for it
abbrev pub ClosesAnswered : (Ask → Answer → Type 0) → List ℕ → BlockWriter → Block → Type 0
ClosesAnswered may_answer client writer block = (pipe : BlockPipeline) → writer.pipe ≡ Some pipe → (first : LocatedBlock)
    → IsPipelineOf may_answer client pipe.plan.src first pipe.plan.block → IsNamed may_answer client first block

-- These bytes were taken.
pub record Wrote (old : Shown) (writer : BlockWriter) (more : List ℕ) (new : Shown) (writer' : BlockWriter) : Type 0 where
  pub keeps : Keeps writer writer'
  pub length : length_of writer' ≡ length_of writer + length more
  pub own : OnlyOwnLink old (link_of writer) new (link_of writer')
  pub stays : PipelineStays old writer new writer'
  pub carries : CarriesMore old writer more new writer'

-- the writer carries some bytes in a picture
abbrev pub IsCarrying : BlockWriter → Picture → Type 0
IsCarrying writer p = (bytes : List ℕ) × Carries p writer bytes

-- The writer's block was given up for this cause, and no link of it is left open.
abbrev pub GaveUp : Shown → BlockWriter → HdfsError → Shown → Type 0
GaveUp old writer error new = (pipe : BlockPipeline) → writer.pipe ≡ Some pipe
    → GivesUp writer.settings pipe (IsCarrying writer) old error new

-- A call has failed, and so has the writer for good.
pub record Fails (old : Shown) (writer : BlockWriter) (error : HdfsError) (new : Shown) (writer' : BlockWriter) : Type 0 where
  pub failed : HasFailed writer'
  pub keeps : Keeps writer writer'
  pub gave_up : GaveUp old writer error new

-- Over a told picture: each datanode of the block's last pipeline, of which one is listed at least, holds the block whole. The block table
-- has this pipeline's generation stamp, where it had that of the pipeline before.
abbrev pub EndsWhole : Shown → BlockWriter → BlockPlan → Shown → Type 0
EndsWhole old writer plan new = (p : Picture) (bytes : List ℕ) → old.picture ≡ Some p → (c : Carries p writer bytes)
    → (q : Picture) × (new.picture ≡ Some q) × HoldsWhole q (id_of c.pipe) (length_of writer) (uuids plan.block.locs) bytes
    × OnlyBlockOf (id_of c.pipe) p q × KeepsStamp p c.pipe.plan q plan

-- The writer's link is ended, and over a told picture the block is written. Its last pipeline is that of before, or it was rebuilt, no
-- more often than datanodes have failed, and than it may be.
pub record Ends (old : Shown) (writer : BlockWriter) (plan : BlockPlan) (new : Shown) : Type 0 where
  pub own : OnlyOwnLink old (link_of writer) new None
  pub within : plan.rebuilds ≤ writer.settings.rebuild_limit
  pub keeps : (pipe : BlockPipeline) → writer.pipe ≡ Some pipe
      → KeepsBlock pipe.plan plan × ((plan ≡ pipe.plan) ⊎ RebuiltOnFailures old pipe.plan new plan)
  pub whole : EndsWhole old writer plan new

-- the block is closed, and this is its name, with the length and the generation stamp that it has
abbrev pub Closes : Shown → BlockWriter → Block → Shown → Type 0
Closes old writer block new = (plan : BlockPlan) × (block ≡ record plan.block.b { num_bytes = length_of writer }) × Ends old writer plan new

-- the packet that ends a block of this length: an empty one behind its bytes, which is marked as the last
pub record EndsAt (length : ℕ) (packet : Outgoing) : Type 0 where
  pub begins : packet.header.offset_in_block ≡ pos length
  pub last : packet.header.last_packet_in_block ≡ true
  pub empty : packet.payload ≡ []

-- Over a told picture: the packet that ends the block was sent behind all others, and the link was ended only once each datanode of the
-- last pipeline had received all of them.
abbrev pub WaitsForLast : {C : Type 0} → (C → Shown) → (C → ℕ → C → Type 0) → C → BlockWriter → C → Type 0
WaitsForLast shown ends old writer new = (packet : Outgoing) × EndsAt (length_of writer) packet × ((pipe : BlockPipeline)
    → writer.pipe ≡ Some pipe → EndsReceived shown (λ before link. ends before link new) old (IsCarrying writer) (id_of pipe) packet)

-- The writer's link was ended, and nothing else was done: nothing changed but what the datanodes of its pipeline hold of its block.
pub record LetsGo (old : Shown) (writer : BlockWriter) (new : Shown) : Type 0 where
  pub own : OnlyOwnLink old (link_of writer) new None
  pub ended : (pipe : BlockPipeline) → writer.pipe ≡ Some pipe → WriteEnded old pipe.link new
  pub touches : (p : Picture) (bytes : List ℕ) → old.picture ≡ Some p → (c : Carries p writer bytes)
      → (q : Picture) × (new.picture ≡ Some q) × OnlyBlock (id_of c.pipe) (nodes_of c.pipe) p q

-- the bytes went into the packet that is being filled
pub record Fills (writer : BlockWriter) (more : List ℕ) (writer' : BlockWriter) : Type 0 where
  pub keeps : Keeps writer writer'
  pub pipe : writer'.pipe ≡ writer.pipe
  pub seqno : writer'.seqno ≡ writer.seqno
  pub length : length_of writer' ≡ length_of writer + length more
  pub filling : filling_of writer'.packet ≡ filling_of writer.packet ++ more

-- the packet is the last of the block: an empty one behind the others
pub record EndsBlock (writer : BlockWriter) (packet : Outgoing) : Type 0 where
  pub begins : packet.header.offset_in_block ≡ pos (start_of writer)
  pub numbered : packet.header.seqno ≡ pos writer.seqno
  pub last : packet.header.last_packet_in_block ≡ true
  pub empty : packet.payload ≡ []

-- where the packets that wait are full, and so is the one that is being filled, they are after that was sent
abbrev pub StaysFull : BlockWriter → BlockWriter → Type 0
StaysFull writer writer' =
    (pipe pipe' : BlockPipeline) (packet : Outgoing) → writer.pipe ≡ Some pipe → writer'.pipe ≡ Some pipe' → writer.packet ≡ Some packet
    → length packet.payload ≡ packet.limit → AreFull pipe → AreFull pipe'
