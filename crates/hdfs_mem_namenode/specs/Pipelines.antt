-- How a block that is being written gets another pipeline in a cluster in memory.
use Rattle.std.specs.Prelude.{◌≡◌, ℕ, ◌<◌, Bool, true, false, ◌||◌, List, [], ◌∷◌, ◌++◌, Contains, Option, Some}
use Rattle.std.specs.List.{list_any}
use Rattle.std.specs.Str.{bytes_eq}
use Rattle.hdfs_mem_faults.specs.Series.{uuid_of}
use Rattle.hdfs_cluster.specs.declared.messages.Block.{Block}
use Rattle.hdfs_cluster.specs.declared.messages.DatanodeId.{DatanodeId}
use Rattle.hdfs_cluster.specs.declared.messages.DatanodeInfo.{DatanodeInfo}
use Rattle.hdfs_cluster.specs.declared.messages.LocatedBlock.{LocatedBlock}
use Rattle.hdfs_cluster.specs.declared.picture.BlockEntry.{BlockEntry}
use Rattle.hdfs_cluster.specs.declared.picture.Entry.{Entry}
use Rattle.hdfs_cluster.specs.declared.picture.Entry.TheVariants as entries
use Rattle.hdfs_cluster.specs.declared.picture.FileEntry.{FileEntry}
use Rattle.hdfs_cluster.specs.Effects.{HasBlock, IsEntry, IsRetried, names_of, with_block}
use Rattle.hdfs_mem_namenode.specs.Adding.{Space, with_pipeline}
use Rattle.hdfs_mem_datanodes.specs.Nodes.{is_named}

-- the block is listed, and the answer has its length, its datanodes, and a greater generation stamp
pub record GivesStamp (table : ℕ → Option BlockEntry) (id : ℕ) (block : LocatedBlock) : Type 0 where
  pub entry : BlockEntry
  pub is : table id ≡ Some entry
  pub answered : IsEntry block id (with_pipeline entry block.b.generation_stamp entry.nodes)
  pub same_length : block.b.num_bytes ≡ entry.length
  pub greater : entry.stamp < block.b.generation_stamp

-- the block is one of the open file at a path
pub record IsOfOpen (names : List ℕ → Option Entry) (path : List ℕ) (id : ℕ) : Type 0 where
  pub file : FileEntry
  pub is : names path ≡ Some (entries.File file)
  pub is_open : file.is_open ≡ true
  pub has : Contains file.blocks id

-- whether one of these datanodes has the address at which the datanode with a uuid listens: its uuid is its host, too
abbrev pub is_addressed : List DatanodeInfo → List ℕ → Bool
is_addressed nodes uuid = list_any (λ node. bytes_eq uuid node.id.ip_addr) nodes

-- whether a datanode is one of the existing ones, or one of those that are to be left out, or listens where an existing one does
abbrev pub is_barred : List DatanodeInfo → List DatanodeInfo → List ℕ → Bool
is_barred existing excludes uuid = is_named existing uuid || (is_named excludes uuid || is_addressed existing uuid)

-- each of so many datanodes is barred
abbrev pub AreBarred : (List ℕ → Bool) → ℕ → Type 0
AreBarred barred count = (k : ℕ) → k < count → barred (uuid_of k) ≡ true

-- A block more is asked for of an open file, behind a block that it has. It has no empty one that it could be given again, and each of so
-- many datanodes is to be left out.
pub record LacksPlace (old : Space) (count : ℕ) (path : List ℕ) (previous : Option Block) (excludes : List DatanodeInfo) : Type 0 where
  pub file : FileEntry
  pub is : old.names path ≡ Some (entries.File file)
  pub is_open : file.is_open ≡ true
  pub has : HasBlock file.blocks previous
  pub first : (last : ℕ) → IsRetried old.table file.blocks previous last → ⊥
  pub barred : AreBarred (is_named excludes) count

-- of so many datanodes the one with this number isn't barred, and each below it is
pub record IsLowestFree (barred : List ℕ → Bool) (count number : ℕ) : Type 0 where
  pub within : number < count
  pub free : barred (uuid_of number) ≡ false
  pub below : AreBarred barred number

-- these are the existing datanodes in their order, and behind them the one with this uuid, which is its host, too
pub record IsBehind (existing : List DatanodeInfo) (uuid : List ℕ) (nodes : List DatanodeInfo) : Type 0 where
  pub node : DatanodeInfo
  pub named : node.id.datanode_uuid ≡ uuid
  pub at : node.id.ip_addr ≡ uuid
  pub is : nodes ≡ existing ++ node ∷ []

-- the datanode behind the existing ones is the lowest of so many that is neither existing nor left out
pub record AddsLowest (count : ℕ) (existing excludes nodes : List DatanodeInfo) : Type 0 where
  pub number : ℕ
  pub lowest : IsLowestFree (is_barred existing excludes) count number
  pub behind : IsBehind existing (uuid_of number) nodes

-- the block has the generation stamp with which it is named anew, and is listed on these datanodes; it keeps its length
pub record Renews (old : ℕ → Option BlockEntry) (block block' : Block) (nodes : List DatanodeId) (new : ℕ → Option BlockEntry) : Type 0 where
  pub same_id : block'.block_id ≡ block.block_id
  pub entry : BlockEntry
  pub is : old block.block_id ≡ Some entry
  pub listed : (b : ℕ) → new b
      ≡ with_block old block.block_id (with_pipeline entry block'.generation_stamp (names_of nodes)) b
