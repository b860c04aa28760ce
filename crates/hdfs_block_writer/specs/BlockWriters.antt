-- A writer of one block, as its callers see it.
use Rattle.std.specs.Prelude.{◌≡◌, ℕ, pos, ◌+◌, ◌-◌, ◌^◌, ◌<◌, ◌≤◌, List, [], ◌++◌, length, drop, All, Option, Some, None, IsSome}
use Rattle.hdfs_wire.specs.Outgoing.{Outgoing, ArePacketSizes, empty_packet}
use Rattle.hdfs_cluster.specs.Picture.{Picture}
use Rattle.hdfs_cluster.specs.Pipes.{FollowsOn}
use Rattle.hdfs_cluster.specs.declared.asks.Answer.{Answer}
use Rattle.hdfs_cluster.specs.declared.asks.Ask.{Ask}
use Rattle.hdfs_cluster.specs.Requests.{Request, LetsGoOn}
use Rattle.hdfs_cluster.specs.Namenode.{IsToWrite}
use Rattle.hdfs_cluster.specs.Shown.{Shown}
use Rattle.hdfs_namenode.specs.Asked.{IsServiceOf}
use Rattle.hdfs_namenode.specs.Clients.{name_of, proxy_of}
use Rattle.hdfs_namenode.specs.declared.protocol.NamenodeProtocol.{NamenodeProtocol}
use Rattle.hdfs_pipeline.specs.Driving.{IsNotLast}
use Rattle.hdfs_block_reader.specs.Carrying.{joined, total}
use Rattle.hdfs_block_writer.specs.Packing.{AreNext, IsNext, chunk_from, filling_of, size_from}
use Rattle.hdfs_rebuild.specs.declared.block_plan.BlockPipeline.{BlockPipeline}
use Rattle.hdfs_rebuild.specs.declared.block_plan.BlockPlan.{BlockPlan}
use Rattle.hdfs_rebuild.specs.declared.block_plan.RebuildSettings.{RebuildSettings}
use Rattle.hdfs_block_writer.specs.declared.block_writer.BlockSizes.{BlockSizes}
use Rattle.hdfs_block_writer.specs.declared.block_writer.BlockWriter.{BlockWriter}
use Rattle.hdfs_block_writer.specs.OpenPipelines.{Has, IsStanding}

-- how many bytes the block has so far
abbrev pub length_of : BlockWriter → ℕ
length_of writer = writer.length

-- how many bytes it may have
abbrev pub size_of : BlockWriter → ℕ
size_of writer = writer.block_size

-- where the packet that is being filled begins in the block
abbrev pub start_of : BlockWriter → ℕ
start_of writer = writer.length - length (filling_of writer.packet)

-- the link of a pipeline, where there is one
abbrev pub link_in : Option BlockPipeline → Option ℕ
link_in None = None
link_in (Some pipe) = Some pipe.link

-- the link that the writer keeps, until it has failed
abbrev pub link_of : BlockWriter → Option ℕ
link_of writer = link_in writer.pipe

-- how often a pipeline was rebuilt, where there is one
abbrev pub rebuilds_in : Option BlockPipeline → ℕ
rebuilds_in None = 0
rebuilds_in (Some pipe) = pipe.plan.rebuilds

-- how often the writer's pipeline was
abbrev pub rebuilds_of : BlockWriter → ℕ
rebuilds_of writer = rebuilds_in writer.pipe

-- the writer has failed
abbrev pub HasFailed : BlockWriter → Type 0
HasFailed writer = writer.pipe ≡ None

-- leave to go on with the writer's block in the name of a client, behind its pipeline, which was answered
abbrev pub MayGoOn : (Request → Type 0) → (Ask → Answer → Type 0) → List ℕ → BlockWriter → Type 0
MayGoOn allows may_answer client writer =
    (pipe : BlockPipeline) → writer.pipe ≡ Some pipe → LetsGoOn allows may_answer client pipe.plan.src pipe.plan.block

-- how many bytes are acknowledged: those before the packets that wait, and before the one that is being filled
abbrev pub safe_of : BlockWriter → BlockPipeline → ℕ
safe_of writer pipe = start_of writer - total pipe.core.pushed

-- The writer carries these bytes: they are its block's so far. Those that aren't acknowledged it has itself, in the packets that wait and
-- in the one that is being filled.
pub record Carries (p : Picture) (writer : BlockWriter) (bytes : List ℕ) : Type 0 where
  pub pipe : BlockPipeline
  pub is : writer.pipe ≡ Some pipe
  pub counted : writer.length ≡ length bytes
  pub kept : joined pipe.core.pushed ++ filling_of writer.packet ≡ drop (safe_of writer pipe) bytes
  pub has : Has p pipe [] (safe_of writer pipe) bytes

-- an empty packet for the bytes that come next
abbrev pub packet_from : BlockWriter → Outgoing
packet_from writer = empty_packet (pos writer.length) (pos writer.seqno) (chunk_from writer.chunk writer.length)
    (size_from writer.chunk writer.packet_size writer.length)

-- the packet is the next one, and has some bytes
pub record IsFilling (writer : BlockWriter) (packet : Outgoing) : Type 0 where
  pub next : IsNext writer.chunk writer.packet_size (start_of writer) writer.seqno packet
  pub some : 0 < length packet.payload
  pub within : length packet.payload ≤ packet.limit

-- What a writer keeps of itself. Each packet that it has sent had some byte.
pub record IsKept (writer : BlockWriter) : Type 0 where
  pub sizes : ArePacketSizes writer.chunk writer.packet_size
  pub filled : length (filling_of writer.packet) ≤ writer.length
  pub within : (writer.length ≤ writer.block_size) × (writer.block_size < 2 ^ 63)
  pub counted : writer.seqno ≤ start_of writer
  pub packet : (packet : Outgoing) → writer.packet ≡ Some packet → IsFilling writer packet

-- A pipeline of a writer goes on. The next packet follows on the last one that was sent, and on those that wait.
pub record GoesOver (shown : Shown) (pipe : BlockPipeline) (writer : BlockWriter) : Type 0 where
  pub standing : IsStanding writer.settings shown pipe []
  pub going : pipe.core.end ≡ None
  pub more : All IsNotLast pipe.core.pushed
  pub next : (packet : Outgoing) → packet.header.offset_in_block ≡ pos (start_of writer) → FollowsOn shown pipe.link packet
  pub first : ℕ
  pub seqno : ℕ
  pub starts : first + total pipe.core.pushed ≡ start_of writer
  pub counts : seqno + length pipe.core.pushed ≡ writer.seqno
  pub waits : AreNext writer.chunk writer.packet_size first seqno pipe.core.pushed

-- the packet that is being filled has room for a byte: one that is full was sent
abbrev pub HasRoom : BlockWriter → Type 0
HasRoom writer = (packet : Outgoing) → writer.packet ≡ Some packet → length packet.payload < packet.limit

-- the packets that wait for their acknowledgement are full
abbrev pub AreFull : BlockPipeline → Type 0
AreFull pipe = All (λ packet. length packet.payload ≡ packet.limit) pipe.core.pushed

-- the same of a writer
abbrev pub SendsFull : BlockWriter → Type 0
SendsFull writer = (pipe : BlockPipeline) → writer.pipe ≡ Some pipe → AreFull pipe

-- Unless the writer has failed, its pipeline goes on. Its packet may be full.
abbrev pub Holds : Shown → BlockWriter → Type 0
Holds shown writer = (pipe : BlockPipeline) → writer.pipe ≡ Some pipe → IsKept writer × GoesOver shown pipe writer

-- What a writer is between calls: unless it has failed, its pipeline goes on, and just the packets that are full were sent.
abbrev pub Stands : Shown → BlockWriter → Type 0
Stands shown writer =
    (pipe : BlockPipeline) → writer.pipe ≡ Some pipe → IsKept writer × GoesOver shown pipe writer × HasRoom writer × AreFull pipe

-- A block can be begun with these settings and sizes: it is to be written, has no more bytes than it may have, its packets can have these
-- sizes, its pipeline is rebuilt no oftener than it may be, and the window is from 1 to 1,000.
pub record IsToBegin (plan : BlockPlan) (settings : RebuildSettings) (sizes : BlockSizes) : Type 0 where
  pub block : IsToWrite plan.block
  pub rebuilds : plan.rebuilds ≤ settings.rebuild_limit
  pub packets : ArePacketSizes plan.chunk sizes.packet_size
  pub window : (1 ≤ settings.window) × (settings.window ≤ 1000)
  pub size : (plan.block.b.num_bytes ≤ sizes.block_size) × (sizes.block_size < 2 ^ 63)

-- What a call of a writer wants: the client's service is one of the cluster's, there is leave to go on with the block in the client's
-- name, and the writer stands.
pub record IsServed (allows : Request → Type 0) (may_answer : Ask → Answer → Type 0) (namenode : NamenodeProtocol) (shown : Shown)
    (writer : BlockWriter) : Type 0 where
  pub service : IsServiceOf (proxy_of namenode) shown
  pub allowed : MayGoOn allows may_answer (name_of namenode) writer
  pub stands : Stands shown writer

-- The same of sending its packet, which may be full. The writer hasn't failed.
pub record MaySend (allows : Request → Type 0) (may_answer : Ask → Answer → Type 0) (namenode : NamenodeProtocol) (shown : Shown)
    (writer : BlockWriter) : Type 0 where
  pub service : IsServiceOf (proxy_of namenode) shown
  pub allowed : MayGoOn allows may_answer (name_of namenode) writer
  pub holds : Holds shown writer
  pub is_open : IsSome writer.pipe
