-- What the asks of a writer do to the picture.
use Rattle.std.specs.Prelude.{◌≡◌, ◌⊎◌, ℕ, ◌<◌, ◌≤◌, Bool, true, false, ◌==◌, List, [], ◌∷◌, ◌++◌, length, map, All, Contains, Option, Some, None, is_some, option_map, if◌then◌else◌}
use Rattle.std.specs.List.{list_any, IsDistinct}
use Rattle.std.specs.Str.{bytes_eq}
use Rattle.hdfs_cluster.specs.declared.messages.Block.{Block}
use Rattle.hdfs_cluster.specs.declared.messages.DatanodeId.{DatanodeId}
use Rattle.hdfs_cluster.specs.declared.messages.DatanodeInfo.{DatanodeInfo}
use Rattle.hdfs_cluster.specs.declared.messages.FileStatusMsg.{FileStatusMsg}
use Rattle.hdfs_cluster.specs.declared.messages.LocatedBlock.{LocatedBlock}
use Rattle.hdfs_cluster.specs.declared.picture.Entry.{Entry}
use Rattle.hdfs_cluster.specs.declared.picture.Entry.TheVariants as entries
use Rattle.hdfs_cluster.specs.declared.picture.BlockEntry.{BlockEntry}
use Rattle.hdfs_cluster.specs.declared.picture.FileEntry.{FileEntry}
use Rattle.hdfs_cluster.specs.Picture.{Picture}
use Rattle.hdfs_cluster.specs.Refusals.{with_parents}
use Rattle.hdfs_cluster.specs.Sending.{uuids}

-- what no ask changes: the bytes that datanodes hold, the defaults and the links
pub record KeepsBytes (old new : Picture) : Type 0 where
  pub held : (node : List ℕ) (id : ℕ) → new.held node id ≡ old.held node id
  pub defaults : new.defaults ≡ old.defaults
  pub reads : (link : ℕ) → new.reads link ≡ old.reads link
  pub writes : (link : ℕ) → new.writes link ≡ old.writes link

-- an effect on the names and the block table alone
pub record Changes (old new : Picture) (named : List ℕ → Option Entry) (listed : ℕ → Option BlockEntry) : Type 0 where
  pub names : (path : List ℕ) → new.names path ≡ named path
  pub table : (id : ℕ) → new.table id ≡ listed id
  pub bytes : KeepsBytes old new

-- the names with this file at a path
abbrev pub with_entry : (List ℕ → Option Entry) → List ℕ → FileEntry → List ℕ → Option Entry
with_entry names path file q = if bytes_eq path q then Some (entries.File file) else names q

-- the blocks of what stands at a path
abbrev pub blocks_at : Option Entry → List ℕ
blocks_at None = []
blocks_at (Some entries.Dir) = []
blocks_at (Some (entries.File file)) = file.blocks

-- the table without some blocks
abbrev pub table_without : (ℕ → Option BlockEntry) → List ℕ → ℕ → Option BlockEntry
table_without table ids id = if list_any (λ other. other == id) ids then None else table id

-- a block of another length
abbrev pub of_length : ℕ → BlockEntry → BlockEntry
of_length n entry = record entry { length = n }

-- the table in which a named block has the length that it is named with
abbrev pub with_length : (ℕ → Option BlockEntry) → Option Block → ℕ → Option BlockEntry
with_length table None id = table id
with_length table (Some block) id = if block.block_id == id then option_map (of_length block.num_bytes) (table id) else table id

-- the table with this block
abbrev pub with_block : (ℕ → Option BlockEntry) → ℕ → BlockEntry → ℕ → Option BlockEntry
with_block table block entry id = if block == id then Some entry else table id

-- the named block is the last of a file's blocks; none is named of a file without blocks
abbrev pub IsLast : List ℕ → Option Block → Type 0
IsLast blocks None = blocks ≡ []
IsLast blocks (Some block) = (front : List ℕ) × (blocks ≡ front ++ block.block_id ∷ [])

-- the named block is one of a file's blocks, where one is named
abbrev pub HasBlock : List ℕ → Option Block → Type 0
HasBlock blocks None = Unit {0}
HasBlock blocks (Some block) = Contains blocks block.block_id

-- the status tells the attributes of the file, and encryption information where it is encrypted
pub record HasStatus (file : FileEntry) (status : Option FileStatusMsg) : Type 0 where
  pub told : FileStatusMsg
  pub is : status ≡ Some told
  pub permission : told.permission ≡ file.attributes.permission
  pub replication : told.block_replication ≡ Some file.attributes.replication
  pub block_size : told.blocksize ≡ Some file.attributes.block_size
  pub encryption : is_some told.encryption ≡ file.attributes.encrypted

-- A file is created: it is open and has no blocks, directories stand above it, and the blocks of an older file go.
pub record Creates (src : List ℕ) (file : FileEntry) (old new : Picture) : Type 0 where
  pub none : file.blocks ≡ []
  pub is_open : file.is_open ≡ true
  pub changes : Changes old new (with_parents old.names entries.Dir src (entries.File file)) (table_without old.table (blocks_at (old.names src)))

-- The last block of a file that is gone on with: it has a greater generation stamp, and names some of its datanodes, each once, all of
-- which hold it whole. Only these are listed from then on.
pub record Reopens (old : Picture) (id : ℕ) (block : LocatedBlock) (entry entry' : BlockEntry) : Type 0 where
  pub is : old.table id ≡ Some entry
  pub same_id : block.b.block_id ≡ id
  pub same_length : block.b.num_bytes ≡ entry.length
  pub stamp : entry.stamp < block.b.generation_stamp
  pub some : 0 < length block.locs
  pub listed : All (Contains entry.nodes) (uuids block.locs)
  pub apart : IsDistinct bytes_eq (uuids block.locs)
  pub whole : All (λ node. length (old.held node id) ≡ entry.length) (uuids block.locs)
  pub now : entry' ≡ record { length = entry.length; stamp = block.b.generation_stamp; nodes = uuids block.locs }

-- a closed file is opened, and its last block is answered
abbrev pub Opens : List ℕ → FileEntry → Option LocatedBlock → Picture → Picture → Type 0
Opens src file None old new = (file.blocks ≡ []) × Changes old new (with_entry old.names src (record file { is_open = true })) old.table
Opens src file (Some block) old new =
    (front : List ℕ) × (id : ℕ) × (entry : BlockEntry) × (entry' : BlockEntry) × (file.blocks ≡ front ++ id ∷ [])
    × Reopens old id block entry entry'
    × Changes old new (with_entry old.names src (record file { is_open = true })) (with_block old.table id entry')

-- the file's last block is empty, and the named block is the one before it: a block was asked for before
pub record IsRetried (table : ℕ → Option BlockEntry) (blocks : List ℕ) (previous : Option Block) (id : ℕ) : Type 0 where
  pub front : List ℕ
  pub last : blocks ≡ front ++ id ∷ []
  pub behind : IsLast front previous
  pub entry : BlockEntry
  pub is : table id ≡ Some entry
  pub empty : entry.length ≡ 0

-- the answered block is this one of the table
pub record IsEntry (block : LocatedBlock) (id : ℕ) (entry : BlockEntry) : Type 0 where
  pub same_id : block.b.block_id ≡ id
  pub stamp : block.b.generation_stamp ≡ entry.stamp
  pub nodes : uuids block.locs ≡ entry.nodes

-- A new block: no file had it, it is empty, and it is on 1 up to the replication distinct datanodes, which hold nothing of it, and of which
-- none is to be left out.
pub record IsNewBlock (old : Picture) (file : FileEntry) (excludes : List DatanodeInfo) (id : ℕ) (entry : BlockEntry) : Type 0 where
  pub absent : old.table id ≡ None
  pub empty : entry.length ≡ 0
  pub some : 0 < length entry.nodes
  pub few : length entry.nodes ≤ file.attributes.replication
  pub apart : IsDistinct bytes_eq entry.nodes
  pub bare : All (λ node. old.held node id ≡ []) entry.nodes
  pub others : All (λ node. Contains (uuids excludes) node → ⊥) entry.nodes

-- the length of the previous block is set, and the file's last block, which is empty, is given again
pub record GivesAgain (src : List ℕ) (file : FileEntry) (previous : Option Block) (block : LocatedBlock) (old new : Picture) : Type 0 where
  pub id : ℕ
  pub retried : IsRetried old.table file.blocks previous id
  pub answered : IsEntry block id retried.entry
  pub changes : Changes old new old.names (with_length old.table previous)

-- the length of the previous block is set, and the file has a new block behind the others
pub record AddsNew (src : List ℕ) (file : FileEntry) (previous : Option Block) (excludes : List DatanodeInfo) (block : LocatedBlock)
    (old new : Picture) : Type 0 where
  pub id : ℕ
  pub entry : BlockEntry
  pub first : (last : ℕ) → IsRetried old.table file.blocks previous last → ⊥
  pub fresh : IsNewBlock old file excludes id entry
  pub answered : IsEntry block id entry
  pub changes : Changes old new (with_entry old.names src (record file { blocks = file.blocks ++ id ∷ [] }))
      (with_block (with_length old.table previous) id entry)

-- a block more of a file
abbrev pub AddsBlock : List ℕ → FileEntry → Option Block → List DatanodeInfo → LocatedBlock → Picture → Picture → Type 0
AddsBlock src file previous excludes block old new =
    GivesAgain src file previous block old new ⊎ AddsNew src file previous excludes block old new

-- the named block is the last of a file's blocks, and empty
pub record IsEmptyLast (table : ℕ → Option BlockEntry) (blocks : List ℕ) (block : Block) : Type 0 where
  pub front : List ℕ
  pub last : blocks ≡ front ++ block.block_id ∷ []
  pub entry : BlockEntry
  pub is : table block.block_id ≡ Some entry
  pub empty : entry.length ≡ 0

-- a file has its last block, which is empty, no more, and nobody has it
pub record GivesUp (src : List ℕ) (file : FileEntry) (block : Block) (old new : Picture) : Type 0 where
  pub gone : IsEmptyLast old.table file.blocks block
  pub changes : Changes old new (with_entry old.names src (record file { blocks = gone.front })) (table_without old.table (block.block_id ∷ []))

-- so it is once an open file's block is given up: it is gone, and one that the file doesn't have stays what it is
abbrev pub Abandons : List ℕ → FileEntry → Block → Picture → Picture → Type 0
Abandons src file block old new =
    GivesUp src file block old new ⊎ ((Contains file.blocks block.block_id → ⊥) × Changes old new old.names old.table)

-- an open file is closed, and the length of its last block is set; a closed one stays as it is
abbrev pub ClosesIf : Bool → List ℕ → FileEntry → Option Block → Picture → Picture → Type 0
ClosesIf true src file last old new =
    Changes old new (with_entry old.names src (record file { is_open = false })) (with_length old.table last)
ClosesIf false src file last old new = Changes old new old.names old.table

-- a file with this last block is closed
abbrev pub Completes : List ℕ → FileEntry → Option Block → Picture → Picture → Type 0
Completes src file last old new = IsLast file.blocks last × ClosesIf file.is_open src file last old new

-- the block is listed, and the answer has a greater generation stamp for it
pub record HasGreaterStamp (p : Picture) (named : Block) (block : LocatedBlock) : Type 0 where
  pub entry : BlockEntry
  pub is : p.table named.block_id ≡ Some entry
  pub same_id : block.b.block_id ≡ named.block_id
  pub greater : entry.stamp < block.b.generation_stamp

-- the block is one of the open file at the path
pub record IsBeingWritten (p : Picture) (path : List ℕ) (block : Block) : Type 0 where
  pub file : FileEntry
  pub named : p.names path ≡ Some (entries.File file)
  pub is_open : file.is_open ≡ true
  pub has : Contains file.blocks block.block_id

-- two datanodes listen at one place
abbrev pub SameAddress : DatanodeId → DatanodeId → Type 0
SameAddress a b = (a.ip_addr ≡ b.ip_addr) × (a.xfer_port ≡ b.xfer_port)

-- these datanodes are the existing ones in their order, and one more among them, which has an address of its own
pub record HasOneMore (existing nodes : List DatanodeInfo) : Type 0 where
  pub front : List DatanodeInfo
  pub node : DatanodeInfo
  pub back : List DatanodeInfo
  pub is : nodes ≡ front ++ node ∷ back
  pub others : existing ≡ front ++ back
  pub apart : All (λ other. SameAddress node.id other.id → ⊥) existing

-- the one more is none of the existing ones, nor of those that are to be left out
abbrev pub AddsOneOf : List DatanodeInfo → List DatanodeInfo → List DatanodeInfo → Type 0
AddsOneOf existing excludes nodes =
    (one : HasOneMore existing nodes) × (Contains (uuids existing ++ uuids excludes) one.node.id.datanode_uuid → ⊥)

-- the datanodes by their uuids
abbrev pub names_of : List DatanodeId → List (List ℕ)
names_of nodes = map (λ node. node.datanode_uuid) nodes

-- the block has the generation stamp with which it is named anew, and is listed on these datanodes
pub record NamesPipeline (block block' : Block) (nodes : List DatanodeId) (old new : Picture) : Type 0 where
  pub same_id : block'.block_id ≡ block.block_id
  pub entry : BlockEntry
  pub is : old.table block.block_id ≡ Some entry
  pub changes : Changes old new old.names (with_block old.table block.block_id
      (record { length = entry.length; stamp = block'.generation_stamp; nodes = names_of nodes }))
