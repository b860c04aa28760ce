-- How a writer packs the bytes of a block, and what it asks a pipeline for.
use Rattle.std.specs.Prelude.{◌≡◌, ℕ, pos, ◌+◌, ◌-◌, ◌%◌, ◌==◌, false, List, [], ◌∷◌, length, Option, Some, None, if◌then◌else◌}
use Rattle.hdfs_wire.specs.Outgoing.{Outgoing, limit_of}
use Rattle.hdfs_cluster.specs.declared.messages.Setup.{Setup}
use Rattle.hdfs_cluster.specs.declared.messages.Stage.TheVariants as stages
use Rattle.hdfs_rebuild.specs.declared.block_plan.BlockPlan.{BlockPlan}

-- the bytes in the packet that is being filled
abbrev pub filling_of : Option Outgoing → List ℕ
filling_of None = []
filling_of (Some packet) = packet.payload

-- the size of the chunks in a packet that begins here in the block: within a chunk it ends with that chunk
abbrev pub chunk_from : ℕ → ℕ → ℕ
chunk_from chunk start = chunk - start % chunk

-- and the size of the packet, where 0 stands for one chunk
abbrev pub size_from : ℕ → ℕ → ℕ → ℕ
size_from chunk size start = if start % chunk == 0 then size else 0

-- The packet begins here and has this seqno, and it has the chunks and the room of a packet that begins there.
pub record IsNext (chunk size start seqno : ℕ) (packet : Outgoing) : Type 0 where
  pub begins : packet.header.offset_in_block ≡ pos start
  pub numbered : packet.header.seqno ≡ pos seqno
  pub not_last : packet.header.last_packet_in_block ≡ false
  pub chunks : packet.chunk ≡ chunk_from chunk start
  pub limit : packet.limit ≡ limit_of (chunk_from chunk start) (size_from chunk size start)

-- The packets stand in the block one behind another from here on, their seqnos rise by one from this one on, and each has the
-- chunks and the room of a packet that begins where it does.
abbrev pub AreNext : ℕ → ℕ → ℕ → ℕ → List Outgoing → Type 0
AreNext chunk size start seqno [] = Unit {0}
AreNext chunk size start seqno (packet ∷ packets) =
    IsNext chunk size start seqno packet × AreNext chunk size (start + length packet.payload) (seqno + 1) packets

-- what the first pipeline of a plan's block is asked for: the block is new where it was created, else it is gone on with behind its bytes
abbrev pub setup_of : BlockPlan → List ℕ → Setup
setup_of plan client = record {
  block = plan.block.b;
  stage = if plan.created then stages.Create else stages.Append;
  locs = plan.block.locs;
  storage_types = plan.block.storage_types;
  storage_ids = plan.block.storage_ids;
  stamp = plan.block.b.generation_stamp;
  min_bytes = plan.block.b.num_bytes;
  max_bytes = plan.block.b.num_bytes;
  chunk = plan.chunk;
  token = plan.block.block_token;
  client = client;
}
