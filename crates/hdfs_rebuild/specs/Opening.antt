-- How the pipeline of a block is opened: the first one, and one after another has failed.
use Rattle.std.specs.Prelude.{◌≡◌, ◌⊎◌, ℕ, List, if◌then◌else◌}
use Rattle.hdfs_cluster.specs.declared.errors.HdfsError.{HdfsError}
use Rattle.hdfs_cluster.specs.declared.errors.HdfsError.TheVariants as errors
use Rattle.hdfs_cluster.specs.declared.errors.IoFault.TheVariants as io_faults
use Rattle.hdfs_cluster.specs.declared.errors.TransferFault.TheVariants as transfer_faults
use Rattle.hdfs_cluster.specs.declared.asks.LinkFault.{LinkFault}
use Rattle.hdfs_cluster.specs.declared.asks.LinkFault.TheVariants as links
use Rattle.hdfs_cluster.specs.declared.messages.Block.{Block}
use Rattle.hdfs_cluster.specs.declared.messages.Setup.{Setup}
use Rattle.hdfs_cluster.specs.declared.messages.Stage.TheVariants as stages
use Rattle.hdfs_cluster.specs.Pipes.{WriteNotOpened}
use Rattle.hdfs_cluster.specs.Shown.{Shown}
use Rattle.hdfs_rebuild.specs.declared.block_plan.BlockPlan.{BlockPlan}
use Rattle.hdfs_rebuild.specs.declared.opening.Opening.{Opening}

-- the first pipeline of a plan: the block is new where it was when its writer began, else it is gone on with behind its bytes
abbrev pub first_of : BlockPlan → ℕ → Opening
first_of plan window = record {
  stage = if plan.created then stages.Create else stages.Append;
  stamp = plan.block.b.generation_stamp;
  least = plan.block.b.num_bytes;
  window = window;
}

-- one after another has failed, in which the block had this generation stamp, and so many bytes were acknowledged
abbrev pub rebuilt_of : ℕ → ℕ → ℕ → Opening
rebuilt_of stamp least window = record { stage = stages.Recovery; stamp = stamp; least = least; window = window }

-- a block with another generation stamp
abbrev pub with_stamp_of : Block → ℕ → Block
with_stamp_of block stamp = record block { generation_stamp = stamp }

-- What the pipeline of a plan is asked for: the block, which has the opening's generation stamp so far, gets that of the plan. Each
-- datanode has at least as many bytes of it as the opening says, and at most those of the plan.
abbrev pub setup_for : BlockPlan → Opening → List ℕ → Setup
setup_for plan opening client = record {
  block = with_stamp_of plan.block.b opening.stamp;
  stage = opening.stage;
  locs = plan.block.locs;
  storage_types = plan.block.storage_types;
  storage_ids = plan.block.storage_ids;
  stamp = plan.block.b.generation_stamp;
  min_bytes = opening.least;
  max_bytes = plan.block.b.num_bytes;
  chunk = plan.chunk;
  token = plan.block.block_token;
  client = client;
}

-- what it is for a writer that no pipeline was opened
abbrev pub fault_of : LinkFault → HdfsError
fault_of links.NoMemory = errors.NoMemory
fault_of links.Broken = errors.IOError io_faults.Link
fault_of links.Refused = errors.DataTransferError transfer_faults.Setup

-- no pipeline was opened, and nothing changed; for want of memory it may not even have been asked for
abbrev pub OpensNone : Shown → Setup → HdfsError → Shown → Type 0
OpensNone old setup error new =
    ((error ≡ errors.NoMemory) × (new ≡ old)) ⊎ ((why : LinkFault) × (error ≡ fault_of why) × WriteNotOpened old setup why new)
