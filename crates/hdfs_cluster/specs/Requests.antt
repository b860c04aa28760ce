-- What a cluster is asked for, and what its client has leave to ask for. A cluster says once and for all which requests it allows, and a
-- call that makes one wants leave for it. So a function over any cluster makes no request but those that its own clauses give it leave for.
use Rattle.std.specs.Prelude.{◌≡◌, ◌≢◌, ◌⊎◌, ℕ, ◌+◌, ◌-◌, ◌^◌, ◌==◌, Bool, true, false, List, [], ◌∷◌, All, Contains, length, map, Option, Some, None, IfSome, if◌then◌else◌, slice_get}
use Rattle.std.specs.List.{list_any}
use Rattle.hdfs_cluster.specs.declared.asks.Answer.{Answer}
use Rattle.hdfs_cluster.specs.declared.asks.Answer.TheVariants as answers
use Rattle.hdfs_cluster.specs.declared.asks.Ask.{Ask}
use Rattle.hdfs_cluster.specs.declared.asks.Ask.TheVariants as asks
use Rattle.hdfs_cluster.specs.Asks.{abandon_block_ask, add_block_ask, additional_datanode_ask, complete_ask, create_ask, update_pipeline_ask}
use Rattle.hdfs_cluster.specs.declared.messages.Appended.{Appended}
use Rattle.hdfs_cluster.specs.declared.messages.Block.{Block}
use Rattle.hdfs_cluster.specs.declared.messages.DatanodeInfo.{DatanodeInfo}
use Rattle.hdfs_cluster.specs.declared.messages.FileStatusMsg.{FileStatusMsg}
use Rattle.hdfs_cluster.specs.declared.messages.LocatedBlock.{LocatedBlock}
use Rattle.hdfs_cluster.specs.declared.messages.LocatedBlocks.{LocatedBlocks}
use Rattle.hdfs_cluster.specs.declared.messages.ReadAsk.{ReadAsk}
use Rattle.hdfs_cluster.specs.declared.messages.Setup.{Setup}
use Rattle.hdfs_cluster.specs.declared.messages.Stage.TheVariants as stages
use Rattle.hdfs_cluster.specs.declared.messages.Token.{Token}
use Rattle.hdfs_cluster.specs.declared.messages.Transfer.{Transfer}

-- an ask of a namenode, a read of a block, the set-up of a pipeline, and that a datanode gives a block to others
pub data Request : Type 0 where
  AskOf : Ask → Request
  ReadOf : ReadAsk → Request
  SetupOf : Setup → Request
  TransferOf : Transfer → Request

-- what any namenode may be asked for at any time, since it names no file: its state, and to be in step
pub record LetsKeepUp (allows : Request → Type 0) : Type 0 where
  pub state : allows (AskOf asks.GetHaServiceState)
  pub sync : allows (AskOf asks.Msync)

-- the same block of the same pool, whatever its generation stamp and its length are
abbrev pub IsSameBlock : Block → Block → Type 0
IsSameBlock block named = (named.pool_id ≡ block.pool_id) × (named.block_id ≡ block.block_id)

-- a block of a file that was answered to a look-up of all its blocks
pub record IsLocated (may_answer : Ask → Answer → Type 0) (path : List ℕ) (block : LocatedBlock) : Type 0 where
  pub found : LocatedBlocks
  pub answered : may_answer (asks.GetBlockLocations path 0 (2 ^ 63 - 1)) (answers.GetBlockLocations (Some found))
  pub among : Contains found.blocks block

-- it was answered as one block more of the file at a path, which has this id, behind any block and on any datanode but some
pub record IsAdded (may_answer : Ask → Answer → Type 0) (client path : List ℕ) (file_id : Option ℕ) (located : LocatedBlock) : Type 0 where
  pub previous : Option Block
  pub excluded : List DatanodeInfo
  pub answered : may_answer (add_block_ask path client previous excluded file_id) (answers.AddBlock located)

-- it was answered as the last block of the file at a path, when that was opened to be gone on with
pub record IsReopened (may_answer : Ask → Answer → Type 0) (client path : List ℕ) (located : LocatedBlock) : Type 0 where
  pub appended : Appended
  pub answered : may_answer (asks.Append path client 4) (answers.Append appended)
  pub is : appended.block ≡ Some located

-- it was answered to the writer of a file: where it is new as one block more, and else as the last one
abbrev pub IsAnsweredLocated : (Ask → Answer → Type 0) → List ℕ → List ℕ → Option ℕ → Bool → LocatedBlock → Type 0
IsAnsweredLocated may_answer client path file_id true located = IsAdded may_answer client path file_id located
IsAnsweredLocated may_answer client path file_id false located = IsReopened may_answer client path located

-- the generation stamp and the token that were answered where a block, which was named with this generation stamp before, is to have another
-- pipeline
pub record IsStamped (may_answer : Ask → Answer → Type 0) (client : List ℕ) (block : Block) (before stamp : ℕ) (token : Token) : Type 0 where
  pub named : Block
  pub located : LocatedBlock
  pub answered : may_answer (asks.UpdateBlockForPipeline named client) (answers.UpdateBlockForPipeline located)
  pub same : IsSameBlock block named
  pub before_is : before ≡ named.generation_stamp
  pub stamp_is : stamp ≡ located.b.generation_stamp
  pub token_is : token ≡ located.block_token

-- the generation stamp and the token of a pipeline of a block that was answered so first: those of that answer, or of one to have another
abbrev pub IsStampOf : (Ask → Answer → Type 0) → List ℕ → LocatedBlock → ℕ → Token → Type 0
IsStampOf may_answer client first stamp token =
    ((stamp ≡ first.b.generation_stamp) × (token ≡ first.block_token))
    ⊎ ((before : ℕ) × IsStamped may_answer client first.b before stamp token)

-- the name of a block that was answered so first, with a generation stamp that was answered for it, whatever its length is
pub record IsNamed (may_answer : Ask → Answer → Type 0) (client : List ℕ) (first : LocatedBlock) (named : Block) : Type 0 where
  pub same : IsSameBlock first.b named
  pub token : Token
  pub stamped : IsStampOf may_answer client first named.generation_stamp token

-- it was answered where a datanode more was wanted for a block of the file at a path, whatever others were named
pub record IsEnlarged (may_answer : Ask → Answer → Type 0) (client path : List ℕ) (block : Block) (located : LocatedBlock) : Type 0 where
  pub named : Block
  pub existing : List DatanodeInfo
  pub excluded : List DatanodeInfo
  pub storages : List (List ℕ)
  pub answered : may_answer (additional_datanode_ask path named existing excluded 1 client storages) (answers.GetAdditionalDatanode located)
  pub same : IsSameBlock block named

-- the items but those at some places, where the first item has this one
abbrev pub without : {T : Type 0} → ℕ → List ℕ → List T → List T
without at places [] = []
without at places (item ∷ items) =
    if list_any (λ place. place == at) places then without (at + 1) places items else item ∷ without (at + 1) places items

-- The datanodes of a pipeline of a block that was answered so first, with the types and the ids of their storages: they were answered
-- together, with the block or where a datanode more was wanted for it, or they are what is left of such without those at some places.
pub data ArePlaced (may_answer : Ask → Answer → Type 0) (client path : List ℕ) (first : LocatedBlock)
    : List DatanodeInfo → List ℕ → List (List ℕ) → Type 0 where
  AsFirst : ArePlaced may_answer client path first first.locs first.storage_types first.storage_ids
  Enlarged : (located : LocatedBlock) → IsEnlarged may_answer client path first.b located
      → ArePlaced may_answer client path first located.locs located.storage_types located.storage_ids
  Left : (places : List ℕ) (nodes : List DatanodeInfo) (types : List ℕ) (ids : List (List ℕ))
      → ArePlaced may_answer client path first nodes types ids
      → ArePlaced may_answer client path first (without 0 places nodes) (without 0 places types) (without 0 places ids)

-- A pipeline of a block that was answered so first, whatever its length is by now: its name, its token, and its datanodes with their
-- storages were answered for it.
pub record IsPipelineOf (may_answer : Ask → Answer → Type 0) (client path : List ℕ) (first pipeline : LocatedBlock) : Type 0 where
  pub same : IsSameBlock first.b pipeline.b
  pub stamped : IsStampOf may_answer client first pipeline.b.generation_stamp pipeline.block_token
  pub placed : ArePlaced may_answer client path first pipeline.locs pipeline.storage_types pipeline.storage_ids

-- a block that was answered to the writer of its file, with a generation stamp that was answered for it, whatever its length is by now
pub record IsAnsweredBlock (may_answer : Ask → Answer → Type 0) (client path : List ℕ) (file_id : Option ℕ) (block : Block) : Type 0 where
  pub created : Bool
  pub first : LocatedBlock
  pub answered : IsAnsweredLocated may_answer client path file_id created first
  pub named : IsNamed may_answer client first block

-- The first pipeline of a block is set up as the block was answered: on its datanodes, in their storages, with its generation stamp and its
-- token, and with just its bytes. It is new where the block was answered as one more, else the block is gone on with behind those. How many
-- bytes have a checksum together is free.
pub record IsFirstSetup (created : Bool) (located : LocatedBlock) (client : List ℕ) (setup : Setup) : Type 0 where
  pub block : setup.block ≡ located.b
  pub stage : setup.stage ≡ (if created then stages.Create else stages.Append)
  pub nodes : setup.locs ≡ located.locs
  pub types : setup.storage_types ≡ located.storage_types
  pub ids : setup.storage_ids ≡ located.storage_ids
  pub stamp : setup.stamp ≡ located.b.generation_stamp
  pub bytes : (setup.min_bytes ≡ located.b.num_bytes) × (setup.max_bytes ≡ located.b.num_bytes)
  pub token : setup.token ≡ located.block_token
  pub named : setup.client ≡ client

-- A later pipeline of a block that was answered so first: the block is named so, and is to be gone on with behind a pipeline that has
-- failed; its new generation stamp and its token were answered to just that name, and its datanodes with their storages for it.
pub record IsLaterSetup (may_answer : Ask → Answer → Type 0) (client path : List ℕ) (first : LocatedBlock) (setup : Setup) : Type 0 where
  pub block : IsNamed may_answer client first setup.block
  pub stage : setup.stage ≡ stages.Recovery
  pub stamped : IsStamped may_answer client first.b setup.block.generation_stamp setup.stamp setup.token
  pub placed : ArePlaced may_answer client path first setup.locs setup.storage_types setup.storage_ids
  pub named : setup.client ≡ client

-- A datanode is given a block that was answered so first, with the token of an answer where one more was wanted for it. It is one of the
-- datanodes of that answer, and so is the one that gives the block, another one.
pub record IsGivenSo (may_answer : Ask → Answer → Type 0) (client path : List ℕ) (first : LocatedBlock) (transfer : Transfer) : Type 0 where
  pub block : IsNamed may_answer client first transfer.block
  pub located : LocatedBlock
  pub enlarged : IsEnlarged may_answer client path first.b located
  pub token : transfer.token ≡ located.block_token
  pub source : ℕ
  pub gives : slice_get located.locs source ≡ Some transfer.source
  pub place : ℕ
  pub target : DatanodeInfo
  pub takes : slice_get located.locs place ≡ Some target
  pub alone : transfer.targets ≡ target ∷ []
  pub apart : source ≢ place
  pub named : transfer.client ≡ client

-- the id that a status tells
abbrev pub id_in : Option FileStatusMsg → Option ℕ
id_in None = None
id_in (Some status) = status.file_id

-- the id that was answered with a new file at a path
pub record IsIdOfCreated (may_answer : Ask → Answer → Type 0) (client path : List ℕ) (file_id : Option ℕ) : Type 0 where
  pub masked : ℕ
  pub create_flag : ℕ
  pub create_parent : Bool
  pub replication : ℕ
  pub block_size : ℕ
  pub status : Option FileStatusMsg
  pub answered : may_answer (create_ask path masked client create_flag create_parent replication block_size) (answers.Create status)
  pub is : file_id ≡ id_in status

-- the id that was answered with a file at a path that was opened to be gone on with
pub record IsIdOfAppended (may_answer : Ask → Answer → Type 0) (client path : List ℕ) (file_id : Option ℕ) : Type 0 where
  pub appended : Appended
  pub answered : may_answer (asks.Append path client 4) (answers.Append appended)
  pub is : file_id ≡ id_in appended.stat

-- the id of the file at a path that was answered to its writer
abbrev pub IsAnsweredId : (Ask → Answer → Type 0) → List ℕ → List ℕ → Option ℕ → Type 0
IsAnsweredId may_answer client path file_id =
    IsIdOfCreated may_answer client path file_id ⊎ IsIdOfAppended may_answer client path file_id

-- The last block of a file that is named where a block more is asked for, or where the file is closed: none, or one that was answered.
abbrev pub IsAnsweredLast : (Ask → Answer → Type 0) → List ℕ → List ℕ → Option ℕ → Option Block → Type 0
IsAnsweredLast may_answer client path file_id last = IfSome last (IsAnsweredBlock may_answer client path file_id)

-- Leave to write a block of the file at a path, which was answered so first, in the name of a client behind its first pipeline: to set up
-- later ones, to have it given to a datanode that was added, and to ask for what a rebuild asks for. The block is named by generation stamps
-- that were answered for it, and by that of its new pipeline behind the one to which that was answered. One datanode more is asked for, beside such as were answered for it, and those of a pipeline are; as many
-- storages are named as datanodes.
pub record LetsWriteBlock (allows : Request → Type 0) (may_answer : Ask → Answer → Type 0) (client path : List ℕ) (first : LocatedBlock)
    : Type 0 where
  pub sets_up : (setup : Setup) → IsLaterSetup may_answer client path first setup → allows (SetupOf setup)
  pub gives : (transfer : Transfer) → IsGivenSo may_answer client path first transfer → allows (TransferOf transfer)
  pub restamps : (named : Block) → IsNamed may_answer client first named → allows (AskOf (asks.UpdateBlockForPipeline named client))
  pub adds : (named : Block) (existing excluded : List DatanodeInfo) (types : List ℕ) (storages : List (List ℕ))
      → IsNamed may_answer client first named → ArePlaced may_answer client path first existing types storages
      → length storages ≡ length existing → allows (AskOf (additional_datanode_ask path named existing excluded 1 client storages))
  pub names : (before now : Block) (token : Token) (nodes : List DatanodeInfo) (types : List ℕ) (storages : List (List ℕ))
      → IsNamed may_answer client first before → IsSameBlock first.b now
      → IsStamped may_answer client first.b before.generation_stamp now.generation_stamp token
      → ArePlaced may_answer client path first nodes types storages → length storages ≡ length nodes
      → allows (AskOf (update_pipeline_ask client before now (map (λ node. node.id) nodes) storages))

-- leave to write a block on behind a pipeline of it that was answered so
pub record LetsGoOn (allows : Request → Type 0) (may_answer : Ask → Answer → Type 0) (client path : List ℕ) (pipeline : LocatedBlock) : Type 0 where
  pub first : LocatedBlock
  pub lets : LetsWriteBlock allows may_answer client path first
  pub answered : IsPipelineOf may_answer client path first pipeline

-- leave to write any block of the file at a path, which has this id, that was answered to the client
abbrev pub LetsWriteBlocks : (Request → Type 0) → (Ask → Answer → Type 0) → List ℕ → List ℕ → Option ℕ → Type 0
LetsWriteBlocks allows may_answer client path file_id =
    (first : LocatedBlock) (created : Bool) → IsAnsweredLocated may_answer client path file_id created first
    → LetsWriteBlock allows may_answer client path first

-- these datanodes are the first ones of blocks that were answered as one more of the file at a path
abbrev pub AreFirst : (Ask → Answer → Type 0) → List ℕ → List ℕ → Option ℕ → List DatanodeInfo → Type 0
AreFirst may_answer client path file_id nodes =
    All (λ node. (located : LocatedBlock) × IsAdded may_answer client path file_id located × (slice_get located.locs 0 ≡ Some node)) nodes

-- Leave to write the file at a path, which has this id: a block more is asked for behind none or one that was answered, on any datanode but
-- such as were the first ones of such blocks; one that was answered as one more is given up; and the first pipeline of one that was answered
-- is set up.
pub record LetsWrite (allows : Request → Type 0) (may_answer : Ask → Answer → Type 0) (client path : List ℕ) (file_id : Option ℕ) : Type 0 where
  pub adds : (previous : Option Block) (excluded : List DatanodeInfo) → IsAnsweredLast may_answer client path file_id previous
      → AreFirst may_answer client path file_id excluded → allows (AskOf (add_block_ask path client previous excluded file_id))
  pub gives_up : (located : LocatedBlock) → IsAdded may_answer client path file_id located
      → allows (AskOf (abandon_block_ask located.b path client file_id))
  pub opens : (located : LocatedBlock) (created : Bool) → IsAnsweredLocated may_answer client path file_id created located
      → (setup : Setup) → IsFirstSetup created located client setup → allows (SetupOf setup)
  pub blocks : LetsWriteBlocks allows may_answer client path file_id

-- leave to close the file at a path, which has this id, behind none of its blocks or one that was answered
pub record LetsClose (allows : Request → Type 0) (may_answer : Ask → Answer → Type 0) (client path : List ℕ) (file_id : Option ℕ) : Type 0 where
  pub completes : (last : Option Block) → IsAnsweredLast may_answer client path file_id last
      → allows (AskOf (complete_ask path client last file_id))
  pub blocks : LetsWriteBlocks allows may_answer client path file_id
