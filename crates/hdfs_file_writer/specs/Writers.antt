-- A writer of one file, as its callers see it.
use Rattle.std.specs.Prelude.{◌≡◌, ◌≢◌, ℕ, suc, ◌^◌, ◌<◌, ◌≤◌, true, false, Bool, List, [], ◌++◌, Option, Some, None, IsSome, Result, Ok, Err}
use Rattle.hdfs_wire.specs.Outgoing.{ArePacketSizes}
use Rattle.hdfs_cluster.specs.declared.asks.Answer.{Answer}
use Rattle.hdfs_cluster.specs.declared.asks.Answer.TheVariants as answers
use Rattle.hdfs_cluster.specs.declared.asks.Ask.{Ask}
use Rattle.hdfs_cluster.specs.Asks.{add_block_ask}
use Rattle.hdfs_cluster.specs.declared.messages.Block.{Block}
use Rattle.hdfs_cluster.specs.declared.messages.DatanodeInfo.{DatanodeInfo}
use Rattle.hdfs_cluster.specs.declared.messages.LocatedBlock.{LocatedBlock}
use Rattle.hdfs_cluster.specs.declared.errors.ArgFault.TheVariants as args
use Rattle.hdfs_cluster.specs.declared.errors.HdfsError.{HdfsError}
use Rattle.hdfs_cluster.specs.declared.errors.HdfsError.TheVariants as errors
use Rattle.hdfs_cluster.specs.declared.errors.TransferFault.TheVariants as transfer
use Rattle.hdfs_cluster.specs.Effects.{blocks_at}
use Rattle.hdfs_cluster.specs.Failures.{NodesFailTimes}
use Rattle.hdfs_cluster.specs.Files.{File}
use Rattle.hdfs_cluster.specs.Namenode.{IsToWrite}
use Rattle.hdfs_cluster.specs.Picture.{Picture}
use Rattle.hdfs_cluster.specs.Requests.{IsAnsweredId, IsAnsweredLast, IsAnsweredLocated, IsPipelineOf, IsReopened, LetsWrite, LetsWriteBlocks, Request}
use Rattle.hdfs_cluster.specs.Shown.{SameNodes, Shown}
use Rattle.hdfs_cluster.specs.Stores.{AgreesAt}
use Rattle.hdfs_cluster.specs.Writing.{SameRecords}
use Rattle.hdfs_namenode.specs.Asked.{IsServiceOf}
use Rattle.hdfs_namenode.specs.Clients.{name_of, proxy_of}
use Rattle.hdfs_namenode.specs.Relaying.{Came}
use Rattle.hdfs_namenode.specs.declared.protocol.NamenodeProtocol.{NamenodeProtocol}
use Rattle.hdfs_block_writer.specs.BlockWriters as blocks
use Rattle.hdfs_block_writer.specs.OpenPipelines as pipelines
use Rattle.hdfs_block_writer.specs.declared.block_writer.BlockWriter.{BlockWriter}
use Rattle.hdfs_rebuild.specs.declared.block_plan.BlockPipeline.{BlockPipeline}
use Rattle.hdfs_rebuild.specs.declared.block_plan.BlockPlan.{BlockPlan}
use Rattle.hdfs_file_writer.specs.Failing.{TellsWrite, TellsClose, CauseOfWrite, IsNoRefusal, IsRefusal}
use Rattle.hdfs_file_writer.specs.OnlyFiles.{OnlyFile, SameFile}
use Rattle.hdfs_file_writer.specs.Tails.{last_of, reopened_of, going_of, IsFull, FillsBlocks, FileCarries}
use Rattle.hdfs_file_writer.specs.declared.tails.Tail.{Tail}
use Rattle.hdfs_file_writer.specs.declared.tails.Tail.TheVariants.{Bare, Done, Reopened, Going}
use Rattle.hdfs_file_writer.specs.WholeBlocks.{StaysWhole, ClosesWhole}
use Rattle.hdfs_file_writer.specs.declared.file_writer.FileWriter.{FileWriter}
use Rattle.hdfs_file_writer.specs.declared.sizes.WriteSizes.{WriteSizes}

-- a replication from 1 to 65,535, and a block size from 1 to 2^63 - 1
pub record AreLimited (sizes : WriteSizes) : Type 0 where
  pub block : 0 < sizes.block_size
  pub below : sizes.block_size < 2 ^ 63
  pub replication : (1 ≤ sizes.replication) × (sizes.replication ≤ 65535)

-- the sizes of packets, and a window of pipelines from 1 to 1,000
pub record ArePackets (sizes : WriteSizes) : Type 0 where
  pub packet : ArePacketSizes sizes.chunk sizes.packet_size
  pub window : (1 ≤ sizes.rebuilding.window) × (sizes.rebuilding.window ≤ 1000)

-- all of them
pub record AreSizes (sizes : WriteSizes) : Type 0 where
  pub limited : AreLimited sizes
  pub packets : ArePackets sizes

-- the path of its file
abbrev pub path_of : FileWriter → List ℕ
path_of writer = writer.path

-- the id of its file, where the namenode told it
abbrev pub file_id_of : FileWriter → Option ℕ
file_id_of writer = writer.file_id

-- with what its file is written
abbrev pub sizes_of : FileWriter → WriteSizes
sizes_of writer = writer.sizes

-- whether a call has failed
abbrev pub has_failed : FileWriter → Bool
has_failed writer = writer.failed

-- how the last block of its file stands
abbrev pub tail_of : FileWriter → Tail
tail_of writer = writer.tail

-- how the last block stands that is done, where there is one
abbrev pub tail_done : Option Block → Tail
tail_done None = Bare
tail_done (Some block) = Done block

-- the same by the block that is to be gone on with
abbrev pub tail_opened : Option LocatedBlock → Option Block → Tail
tail_opened None last = tail_done last
tail_opened (Some located) last = Reopened located

-- what a writer of a block of its file keeps of that: whether the block was new
abbrev pub plan_of : FileWriter → LocatedBlock → Bool → BlockPlan
plan_of writer block new = record {
  src = writer.path;
  block = block;
  replication = writer.sizes.replication;
  created = new;
  rebuilds = 0;
  chunk = writer.sizes.chunk;
}

-- the blocks of its file
abbrev pub blocks_in : Picture → FileWriter → List ℕ
blocks_in p writer = blocks_at (p.names writer.path)

-- the link of a block that is being written
abbrev pub link_by : Tail → Option ℕ
link_by (Going writer) = blocks.link_of writer
link_by tail = None

-- the write link that it keeps
abbrev pub link_of : FileWriter → Option ℕ
link_of writer = link_by writer.tail

-- a block is written as one of the file at this path, which has this replication
pub record IsPlanOf (path : List ℕ) (sizes : WriteSizes) (plan : BlockPlan) : Type 0 where
  pub src : plan.src ≡ path
  pub replication : plan.replication ≡ sizes.replication

-- A block that is being written was answered to the client, as one more or as the last one, by whether its writer has it as a new one; and
-- so was its pipeline.
pub record IsAnsweredPlan (may_answer : Ask → Answer → Type 0) (client path : List ℕ) (file_id : Option ℕ) (plan : BlockPlan) : Type 0 where
  pub first : LocatedBlock
  pub answered : IsAnsweredLocated may_answer client path file_id plan.created first
  pub pipeline : IsPipelineOf may_answer client plan.src first plan.block

-- The last block of its file was answered to the client: one that is to be gone on with as the last one when the file was opened, and one
-- that is being written with its pipeline.
abbrev pub IsAnsweredTail : (Ask → Answer → Type 0) → List ℕ → List ℕ → Option ℕ → Tail → Type 0
IsAnsweredTail may_answer client path file_id (Reopened located) = IsReopened may_answer client path located
IsAnsweredTail may_answer client path file_id (Going block) = (pipe : BlockPipeline) → block.pipe ≡ Some pipe
    → IsAnsweredPlan may_answer client path file_id pipe.plan
IsAnsweredTail may_answer client path file_id tail = Unit {0}

-- The file's id, the block that is written and, unless a call has failed, the last one that is done were answered to the client, of the file
-- at its path.
pub record IsAnswered (may_answer : Ask → Answer → Type 0) (client : List ℕ) (writer : FileWriter) : Type 0 where
  pub id : IsAnsweredId may_answer client writer.path writer.file_id
  pub block : IsAnsweredTail may_answer client writer.path writer.file_id (tail_of writer)
  pub last : writer.failed ≡ false → IsAnsweredLast may_answer client writer.path writer.file_id (last_of writer.tail)

-- A block that its file's writer can open, as a new one or not: it was answered so, is to be written, and has room for a byte.
pub record IsToOpen (may_answer : Ask → Answer → Type 0) (client : List ℕ) (writer : FileWriter) (created : Bool) (located : LocatedBlock) : Type 0 where
  pub answered : IsAnsweredLocated may_answer client writer.path writer.file_id created located
  pub block : IsToWrite located
  pub room : located.b.num_bytes < writer.sizes.block_size

-- how often the pipeline of a block that is being written was rebuilt
abbrev pub rebuilds_by : Tail → ℕ
rebuilds_by (Going writer) = blocks.rebuilds_of writer
rebuilds_by tail = 0

-- the same of the block that it is writing
abbrev pub rebuilds_of : FileWriter → ℕ
rebuilds_of writer = rebuilds_by writer.tail

-- from any moment on: where its pipeline was rebuilt once for each time that datanodes have failed, so it was behind the call
abbrev pub Tallies : Shown → FileWriter → Shown → FileWriter → Type 0
Tallies old writer new writer' = (start : Shown) → NodesFailTimes (rebuilds_of writer) start old → NodesFailTimes (rebuilds_of writer') start new

-- from any moment on: then it was rebuilt as often as it may be only where datanodes have failed once more than that
abbrev pub EndsTally : Shown → FileWriter → HdfsError → Shown → Type 0
EndsTally old writer error new = (start : Shown) (n : ℕ) → error ≡ errors.DataTransferError (transfer.RebuildLimit n)
    → NodesFailTimes (rebuilds_of writer) start old → NodesFailTimes (suc n) start new

-- The writer of a block of the file at this path stands as its last call left it. Its block has the size of the file's blocks, which is in
-- its limits, its packets have the file's sizes of packets, its pipeline is rebuilt as the file's are, a datanode that fails is replaced by
-- the file's replication, and its data isn't to be encrypted.
pub record BlockStands (shown : Shown) (path : List ℕ) (sizes : WriteSizes) (writer : BlockWriter) : Type 0 where
  pub limited : AreLimited sizes
  pub stands : blocks.Stands shown writer
  pub size : blocks.size_of writer ≡ sizes.block_size
  pub chunk : writer.chunk ≡ sizes.chunk
  pub packet_size : writer.packet_size ≡ sizes.packet_size
  pub settings : writer.settings ≡ sizes.rebuilding
  pub plain : sizes.encrypted ≡ false
  pub plan : (pipe : BlockPipeline) → writer.pipe ≡ Some pipe → IsPlanOf path sizes pipe.plan

-- What a writer of a file is between calls. Once it has failed it keeps no link. Until then no block is just done, since the one behind it
-- is begun in the same call.
pub record Stands (shown : Shown) (writer : FileWriter) : Type 0 where
  pub packets : ArePackets writer.sizes
  pub going : (block : BlockWriter) → writer.tail ≡ Going block → BlockStands shown writer.path writer.sizes block
  pub is_open : writer.failed ≡ false → (block : BlockWriter) → writer.tail ≡ Going block → IsSome (blocks.link_of block)
  pub idle : writer.failed ≡ true → link_of writer ≡ None
  pub reopened : (located : LocatedBlock) → writer.tail ≡ Reopened located → IsToWrite located
  pub done : writer.failed ≡ false → last_of writer.tail ≡ None

-- What a call of a writer wants: the client's service is one of the cluster's, there is leave for what is asked for in the client's
-- name for this path and id, the file's id and its blocks were answered to the client, and the writer stands.
pub record IsServed (Lets : List ℕ → List ℕ → Option ℕ → Type 0) (may_answer : Ask → Answer → Type 0) (namenode : NamenodeProtocol)
    (shown : Shown) (writer : FileWriter) : Type 0 where
  pub service : IsServiceOf (proxy_of namenode) shown
  pub allowed : Lets (name_of namenode) writer.path writer.file_id
  pub answered : IsAnswered may_answer (name_of namenode) writer
  pub stands : Stands shown writer

-- the file may be written
abbrev pub MayWrite : (Request → Type 0) → (Ask → Answer → Type 0) → NamenodeProtocol → Shown → FileWriter → Type 0
MayWrite allows may_answer namenode shown writer = IsServed (LetsWrite allows may_answer) may_answer namenode shown writer

-- its last block may be ended
abbrev pub MayFinish : (Request → Type 0) → (Ask → Answer → Type 0) → NamenodeProtocol → Shown → FileWriter → Type 0
MayFinish allows may_answer namenode shown writer = IsServed (LetsWriteBlocks allows may_answer) may_answer namenode shown writer

-- a block may be asked for behind the last one, which is full
pub record MayAdd (allows : Request → Type 0) (may_answer : Ask → Answer → Type 0) (namenode : NamenodeProtocol) (shown : Shown)
    (writer : FileWriter) : Type 0 where
  pub service : IsServiceOf (proxy_of namenode) shown
  pub allowed : LetsWrite allows may_answer (name_of namenode) writer.path writer.file_id
  pub answered : IsAnswered may_answer (name_of namenode) writer
  pub full : IsFull writer.sizes.block_size (tail_of writer)

-- A writer at work: it hasn't failed, its file's numbers are in their limits, and its data isn't to be encrypted.
pub record IsAtWork (writer : FileWriter) : Type 0 where
  pub limited : AreLimited writer.sizes
  pub fine : writer.failed ≡ false
  pub plain : writer.sizes.encrypted ≡ false

-- a writer that goes on: it stands, hasn't failed, and its file's id and blocks were answered to the client
pub record CanGoOn (may_answer : Ask → Answer → Type 0) (client : List ℕ) (shown : Shown) (writer : FileWriter) : Type 0 where
  pub stands : Stands shown writer
  pub fine : writer.failed ≡ false
  pub answered : IsAnswered may_answer client writer

-- no block is being written, and none is to be gone on with
pub record IsBetweenBlocks (writer : FileWriter) : Type 0 where
  pub none : going_of writer.tail ≡ None
  pub done : reopened_of writer.tail ≡ None

-- A writer that may begin a block: it hasn't failed, is between blocks, all its sizes are in their limits, and its data isn't to be
-- encrypted.
pub record MayBegin (writer : FileWriter) : Type 0 where
  pub sizes : AreSizes writer.sizes
  pub fine : writer.failed ≡ false
  pub between : IsBetweenBlocks writer
  pub plain : writer.sizes.encrypted ≡ false

-- what every call keeps of a writer
pub record Keeps (writer writer' : FileWriter) : Type 0 where
  pub path : writer'.path ≡ writer.path
  pub file_id : writer'.file_id ≡ writer.file_id
  pub sizes : writer'.sizes ≡ writer.sizes

-- When a write does nothing to the cluster: of no bytes, which are taken whatever the file's numbers are; by a writer that has failed; and
-- of some by one whose file's replication or block size is out of its limits, which has failed then.
pub record IsIdle {C : Type 0} (writer : FileWriter) (bytes : List ℕ) (old : C) (result : Result ℕ HdfsError) (writer' : FileWriter) (new : C)
    : Type 0 where
  pub none : bytes ≡ [] → new ≡ old
  pub empty : writer.failed ≡ false → bytes ≡ [] → result ≡ Ok 0
  pub failed : writer.failed ≡ true → (result ≡ Err errors.Failed) × (writer' ≡ writer) × (new ≡ old)
  pub options : writer.failed ≡ false → bytes ≢ [] → (AreLimited writer.sizes → ⊥)
      → (result ≡ Err (errors.InvalidArgument args.Options)) × (link_of writer ≡ None) × (new ≡ old)

-- calls on the cluster in the writer's name, as those of a writer of a block
abbrev pub OnlyOwnLink : Shown → Option ℕ → Shown → Option ℕ → Type 0
OnlyOwnLink old before new after = pipelines.OnlyOwnLink old before new after

-- Over a told picture: these bytes more are carried, nothing changed but the file, and no block was begun before the one before it
-- was full. Blocks that are done stay whole and full, and each that was ended meanwhile is so.
abbrev pub CarriesMore : Shown → FileWriter → List ℕ → Shown → FileWriter → Type 0
CarriesMore old writer more new writer' =
    (p : Picture) (bytes : List ℕ) → old.picture ≡ Some p → FileCarries p writer.path (tail_of writer) bytes
    → (q : Picture) × (new.picture ≡ Some q) × FileCarries q writer.path (tail_of writer') (bytes ++ more)
    × OnlyFile writer.path p q × SameFile writer.path p q
    × FillsBlocks writer.sizes.block_size (blocks_in p writer) (tail_of writer) more (blocks_in q writer) (tail_of writer')
    × StaysWhole writer.sizes.block_size p (blocks_in p writer) (tail_of writer) q (blocks_in q writer)

-- over a told picture: whatever came of it, nothing changed but the file
abbrev pub TouchesFile : Shown → FileWriter → Shown → Type 0
TouchesFile old writer new =
    (p : Picture) (bytes : List ℕ) → old.picture ≡ Some p → FileCarries p writer.path (tail_of writer) bytes
    → (q : Picture) × (new.picture ≡ Some q) × OnlyFile writer.path p q

-- over a told picture: nothing changed but what datanodes hold of the file's blocks
abbrev pub LeavesFile : Shown → FileWriter → Shown → Type 0
LeavesFile old writer new =
    (p : Picture) (bytes : List ℕ) → old.picture ≡ Some p → FileCarries p writer.path (tail_of writer) bytes
    → (q : Picture) × (new.picture ≡ Some q) × OnlyFile writer.path p q × SameRecords p q

-- over a told picture, for a writer that carries its file: an error has its cause
abbrev pub HasCause : Shown → FileWriter → HdfsError → Shown → Type 0
HasCause old writer error new =
    (p : Picture) (bytes : List ℕ) → old.picture ≡ Some p → FileCarries p writer.path (tail_of writer) bytes
    → CauseOfWrite writer.sizes writer.path old new error

-- Over a told picture: a closed file stands at the path with the attributes and the bytes, and nothing changed but the file. Its blocks
-- are whole, the last one too, where those that were done before are.
abbrev pub Closes : Shown → FileWriter → Shown → Type 0
Closes old writer new =
    (p : Picture) (bytes : List ℕ) → old.picture ≡ Some p → (carries : FileCarries p writer.path (tail_of writer) bytes)
    → (q : Picture) × (new.picture ≡ Some q) × OnlyFile writer.path p q
    × AgreesAt q (q.names writer.path) (Some (File (record { bytes = bytes; attributes = carries.file.attributes })))
    × ClosesWhole writer.sizes.block_size p (blocks_in p writer) (tail_of writer) q (blocks_in q writer)

-- These bytes were taken.
pub record Wrote (old : Shown) (writer : FileWriter) (more : List ℕ) (new : Shown) (writer' : FileWriter) : Type 0 where
  pub keeps : Keeps writer writer'
  pub own : OnlyOwnLink old (link_of writer) new (link_of writer')
  pub tallies : Tallies old writer new writer'
  pub carries : CarriesMore old writer more new writer'

-- A call has failed: no link is left, the error tells what it stands for, and no datanode has failed where bytes are refused for encryption.
-- Over a told picture nothing changed but the file, and an exception of a namenode has its cause.
pub record Fails (old : Shown) (writer : FileWriter) (error : HdfsError) (new : Shown) : Type 0 where
  pub own : OnlyOwnLink old (link_of writer) new None
  pub tells : TellsWrite old new error
  pub limit : EndsTally old writer error new
  pub refused : IsRefusal error → SameNodes old new
  pub touches : TouchesFile old writer new
  pub cause : HasCause old writer error new

-- the same, for another reason than encryption
pub record FailsOtherwise (old : Shown) (writer : FileWriter) (error : HdfsError) (new : Shown) : Type 0 where
  pub fails : Fails old writer error new
  pub apart : IsNoRefusal error

-- A namenode has answered this block, which is on none of some datanodes and stands behind those that are done: it has no bytes, and is to be
-- written. No datanode has failed.
pub record Adds (client : List ℕ) (excluded : List DatanodeInfo) (old : Shown) (writer : FileWriter) (located : LocatedBlock) (new : Shown)
    : Type 0 where
  pub came : Came old (add_block_ask writer.path client (last_of writer.tail) excluded writer.file_id) (Ok (answers.AddBlock located)) new
  pub block : IsToWrite located
  pub empty : located.b.num_bytes ≡ 0
  pub nodes : SameNodes old new
  pub wrote : Wrote old writer [] new (record writer { tail = Reopened located })

-- a close has failed, as a call does
pub record FailsToClose (old : Shown) (writer : FileWriter) (error : HdfsError) (new : Shown) : Type 0 where
  pub own : OnlyOwnLink old (link_of writer) new None
  pub tells : TellsClose writer.path old new error
  pub limit : EndsTally old writer error new
  pub touches : TouchesFile old writer new
  pub cause : HasCause old writer error new

-- the file was closed
pub record Closed (old : Shown) (writer : FileWriter) (new : Shown) : Type 0 where
  pub own : OnlyOwnLink old (link_of writer) new None
  pub closes : Closes old writer new
