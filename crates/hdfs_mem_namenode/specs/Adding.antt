-- How blocks and files come into a cluster in memory.
use Rattle.std.specs.Prelude.{◌≡◌, ◌≢◌, ◌⊎◌, ◌<◌, ◌==◌, ◌&&◌, ℕ, zero, suc, nat_lt, not, Bool, true, false, List, [], ◌∷◌, ◌++◌, length, min, filter, slice_index_or, Contains, Option, Some, None, unwrap_or, if◌then◌else◌}
use Rattle.std.specs.List.{All, IsDistinct, fold, list_any}
use Rattle.std.specs.Str.{bytes_eq}
use Rattle.hdfs_cluster.specs.declared.picture.Entry.{Entry}
use Rattle.hdfs_cluster.specs.declared.picture.Entry.TheVariants as entries
use Rattle.hdfs_cluster.specs.declared.picture.BlockEntry.{BlockEntry}
use Rattle.hdfs_cluster.specs.declared.picture.FileEntry.{FileEntry}
use Rattle.hdfs_cluster.specs.declared.messages.Block.{Block}
use Rattle.hdfs_cluster.specs.declared.messages.DatanodeInfo.{DatanodeInfo}
use Rattle.hdfs_cluster.specs.declared.messages.LocatedBlock.{LocatedBlock}
use Rattle.hdfs_cluster.specs.Effects.{HasBlock, IsEmptyLast, IsEntry, IsLast, IsRetried, table_without, with_block, with_entry, with_length}
use Rattle.hdfs_cluster.specs.Listing.{total}
use Rattle.hdfs_names.specs.Paths.{is_path, ancestors, parent_of}
use Rattle.hdfs_cluster.specs.Picture.{Picture}
use Rattle.hdfs_mem_namenode.specs.Memory.{is_length, is_dir, is_kth, is_kth_at}
use Rattle.hdfs_mem_datanodes.specs.Nodes.{is_named}
use Rattle.hdfs_mem_faults.specs.Series.{uuid_of}

-- a file can stand at the path: it is new, and its parent is a directory
pub record IsPlace (names : List ℕ → Option Entry) (path : List ℕ) : Type 0 where
  pub named : is_path path ≡ true
  pub absent : names path ≡ None
  pub parent : is_dir (names (parent_of path)) ≡ true

-- a block that wasn't there is listed on these datanodes, and all other blocks stay
pub record AddsBlock (old new : ℕ → Option BlockEntry) (id length : ℕ) (nodes : List (List ℕ)) : Type 0 where
  pub absent : old id ≡ None
  pub entry : BlockEntry
  pub listed : new id ≡ Some entry
  pub has_length : entry.length ≡ length
  pub on : entry.nodes ≡ nodes
  pub others : (other : ℕ) → other ≢ id → new other ≡ old other

-- these blocks are distinct, and of no file
pub record AreNew (names : List ℕ → Option Entry) (ids : List ℕ) : Type 0 where
  pub unused : (path : List ℕ) (k n id : ℕ) → is_kth ids k id ≡ true → is_kth_at names path n id ≡ true → ⊥
  pub distinct : (k n id : ℕ) → is_kth ids k id ≡ true → is_kth ids n id ≡ true → k ≡ n

-- the blocks that were there are there
abbrev pub Keeps : (ℕ → Option BlockEntry) → (ℕ → Option BlockEntry) → Type 0
Keeps old new = (id : ℕ) (entry : BlockEntry) → old id ≡ Some entry → new id ≡ Some entry

-- a directory or a file stands at the path, and everything else stays
abbrev pub Names : (List ℕ → Option Entry) → (List ℕ → Option Entry) → List ℕ → Entry → Type 0
Names old new path entry = (q : List ℕ) → new q ≡ (if bytes_eq path q then Some entry else old q)

-- a picture of blocks and bytes alone
abbrev pub blocks_picture : (ℕ → Option BlockEntry) → (List ℕ → ℕ → List ℕ) → Picture
blocks_picture table held = record {
  names = λ path. None;
  table = table;
  held = held;
  active = 0;
  defaults = record { block_size = 0; bytes_per_checksum = 0; write_packet_size = 0; replication = 0; encrypt_data_transfer = false };
  reads = λ link. None;
  writes = λ link. None;
}

-- the blocks that were there are there, and each datanode holds the same of them
pub record KeepsBlocks (old new : ℕ → Option BlockEntry) (was now : List ℕ → ℕ → List ℕ) : Type 0 where
  pub table : Keeps old new
  pub held : (id : ℕ) (entry : BlockEntry) → old id ≡ Some entry → (node : List ℕ) → now node id ≡ was node id

-- a map with a directory at each path above this one at which nothing stood
abbrev pub with_directories : {X : Type 0} → (List ℕ → Option X) → X → List ℕ → List ℕ → Option X
with_directories map dir path q = if list_any (bytes_eq q) (ancestors path) then Some (unwrap_or (map q) dir) else map q

-- a file that is open, or closed
abbrev pub with_open : FileEntry → Bool → FileEntry
with_open file is_open = record { attributes = file.attributes; blocks = file.blocks; is_open = is_open }

-- a file with a block more
abbrev pub with_more : FileEntry → ℕ → FileEntry
with_more file id = record { attributes = file.attributes; blocks = file.blocks ++ id ∷ []; is_open = file.is_open }

-- a file stands at the path and has the named block, if one is named
pub record HasNamed (names : List ℕ → Option Entry) (path : List ℕ) (named : Option Block) : Type 0 where
  pub file : FileEntry
  pub is : names path ≡ Some (entries.File file)
  pub has : HasBlock file.blocks named

-- A file stands at the path and has the named block, if one is named. Where that gets its length the file has so many bytes,
-- which are below 2^63.
pub record CanTake (names : List ℕ → Option Entry) (table : ℕ → Option BlockEntry) (path : List ℕ) (named : Option Block) (sum : ℕ) : Type 0 where
  pub file : FileEntry
  pub is : names path ≡ Some (entries.File file)
  pub has : HasBlock file.blocks named
  pub sums : total (with_length table named) file.blocks ≡ Some sum
  pub sized : is_length (total (with_length table named) file.blocks) ≡ true

-- what an ask of a writer sees: names, the block table, and what datanodes hold
pub record Space : Type 0 where
  pub names : List ℕ → Option Entry
  pub table : ℕ → Option BlockEntry
  pub held : List ℕ → ℕ → List ℕ

-- the names and the block table are as they were
abbrev pub SameSpace : Space → Space → Type 0
SameSpace old new = ((path : List ℕ) → new.names path ≡ old.names path) × ((id : ℕ) → new.table id ≡ old.table id)

-- datanodes with one more behind them, where it isn't barred and they are fewer than so many
abbrev pub with_free : (List ℕ → Bool) → ℕ → List (List ℕ) → List ℕ → List (List ℕ)
with_free barred most nodes uuid = if nat_lt (length nodes) most && not (barred uuid) then nodes ++ uuid ∷ [] else nodes

-- of so many datanodes the lowest-numbered ones that aren't barred, and no more of them than so many
abbrev pub free_nodes : (List ℕ → Bool) → ℕ → ℕ → List (List ℕ)
free_nodes barred most zero = []
free_nodes barred most (suc n) = with_free barred most (free_nodes barred most n) (uuid_of n)

-- The datanodes on which a new block of this replication is put, of so many: the lowest-numbered ones but those that are to be left out, as many
-- as its replication, or as there are, or as an answer can name.
abbrev pub places : List DatanodeInfo → ℕ → ℕ → List (List ℕ)
places excludes replication count = free_nodes (is_named excludes) (min replication 256) count

-- A new block is listed on these datanodes, each of which holds nothing of it, behind the others of the file at a path.
pub record AddsBehind (old : Space) (path : List ℕ) (previous : Option Block) (nodes : List (List ℕ)) (new : Space) (block : LocatedBlock) : Type 0 where
  pub id : ℕ
  pub entry : BlockEntry
  pub absent : old.table id ≡ None
  pub empty : entry.length ≡ 0
  pub on : entry.nodes ≡ nodes
  pub bare : All (λ node. old.held node id ≡ []) nodes
  pub answered : IsEntry block id entry
  pub behind : (file : FileEntry) → old.names path ≡ Some (entries.File file) → (q : List ℕ)
      → new.names q ≡ with_entry old.names path (with_more file id) q
  pub listed : (b : ℕ) → new.table b ≡ with_block (with_length old.table previous) id entry b

-- The last block of a file, which is empty, is given again, and the one before it gets its length.
pub record GivesLast (old : Space) (file : FileEntry) (previous : Option Block) (new : Space) (block : LocatedBlock) : Type 0 where
  pub id : ℕ
  pub retried : IsRetried old.table file.blocks previous id
  pub answered : IsEntry block id retried.entry
  pub same : (q : List ℕ) → new.names q ≡ old.names q
  pub listed : (b : ℕ) → new.table b ≡ with_length old.table previous b

-- The file has a new block, and no empty one that it could be given again. Of so many datanodes it is on the lowest-numbered ones that
-- aren't to be left out (`places`), of which there are some.
pub record AddsLast (old : Space) (count : ℕ) (path : List ℕ) (file : FileEntry) (previous : Option Block) (excludes : List DatanodeInfo)
    (new : Space) (block : LocatedBlock) : Type 0 where
  pub first : (last : ℕ) → IsRetried old.table file.blocks previous last → ⊥
  pub some : 0 < length (places excludes file.attributes.replication count)
  pub apart : IsDistinct bytes_eq (places excludes file.attributes.replication count)
  pub adds : AddsBehind old path previous (places excludes file.attributes.replication count) new block

-- a file with these blocks
abbrev pub with_blocks : FileEntry → List ℕ → FileEntry
with_blocks file ids = record { attributes = file.attributes; blocks = ids; is_open = file.is_open }

-- The last block of the file at a path, which is empty, is none of its blocks any more, and isn't listed any more.
pub record TakesLast (names : List ℕ → Option Entry) (table : ℕ → Option BlockEntry) (path : List ℕ) (file : FileEntry) (block : Block)
    (names' : List ℕ → Option Entry) (table' : ℕ → Option BlockEntry) : Type 0 where
  pub gone : IsEmptyLast table file.blocks block
  pub shorter : (q : List ℕ) → names' q ≡ with_entry names path (with_blocks file gone.front) q
  pub listed : (id : ℕ) → table' id ≡ table_without table (block.block_id ∷ []) id

-- that, or the file doesn't have the block, and nothing changes
abbrev pub TakesOrNot : (List ℕ → Option Entry) → (ℕ → Option BlockEntry) → List ℕ → FileEntry → Block → (List ℕ → Option Entry) → (ℕ → Option BlockEntry) → Type 0
TakesOrNot names table path file block names' table' =
    TakesLast names table path file block names' table'
    ⊎ ((Contains file.blocks block.block_id → ⊥) × ((q : List ℕ) → names' q ≡ names q) × ((id : ℕ) → table' id ≡ table id))

-- an open file's block can be given up: it is its last one and empty, or the file doesn't have it
abbrev pub MayBeGivenUp : (ℕ → Option BlockEntry) → FileEntry → Block → Type 0
MayBeGivenUp table file block = IsEmptyLast table file.blocks block ⊎ (Contains file.blocks block.block_id → ⊥)

-- a block of the same length with this generation stamp, on these datanodes
abbrev pub with_pipeline : BlockEntry → ℕ → List (List ℕ) → BlockEntry
with_pipeline entry stamp nodes = record { length = entry.length; stamp = stamp; nodes = nodes }

-- whether a datanode holds a block of so many bytes whole
abbrev pub holds_whole : (List ℕ → ℕ → List ℕ) → ℕ → ℕ → List ℕ → Bool
holds_whole held id count node = length (held node id) == count

-- texts with one more behind them, where it isn't one of them
abbrev pub with_text : List (List ℕ) → List ℕ → List (List ℕ)
with_text texts text = if list_any (bytes_eq text) texts then texts else texts ++ text ∷ []

-- each of these texts once, in the order in which they first come
abbrev pub each_once : List (List ℕ) → List (List ℕ)
each_once texts = fold with_text [] texts

-- exactly those of a block's datanodes that hold it whole, each once, in their order
abbrev pub whole_nodes : (List ℕ → ℕ → List ℕ) → ℕ → BlockEntry → List (List ℕ)
whole_nodes held id entry = each_once (filter (holds_whole held id entry.length) entry.nodes)

-- a block with another generation stamp, listed on exactly those of its datanodes that hold it whole
abbrev pub with_whole : (List ℕ → ℕ → List ℕ) → ℕ → BlockEntry → ℕ → BlockEntry
with_whole held id entry stamp = with_pipeline entry stamp (whole_nodes held id entry)

-- the block is one of the file at a path
pub record HasOne (names : List ℕ → Option Entry) (path : List ℕ) (id : ℕ) : Type 0 where
  pub file : FileEntry
  pub is : names path ≡ Some (entries.File file)
  pub has : Contains file.blocks id

-- The file at a path is opened, and its block has a greater stamp. From then on it is listed on exactly those of its datanodes
-- that hold it whole, and these are the ones that the answer names.
pub record Reopened (old : Space) (path : List ℕ) (id : ℕ) (new : Space) (block : LocatedBlock) : Type 0 where
  pub entry : BlockEntry
  pub is : old.table id ≡ Some entry
  pub answered : IsEntry block id (with_whole old.held id entry block.b.generation_stamp)
  pub same_length : block.b.num_bytes ≡ entry.length
  pub greater : entry.stamp < block.b.generation_stamp
  pub opened : (file : FileEntry) → old.names path ≡ Some (entries.File file) → (q : List ℕ)
      → new.names q ≡ with_entry old.names path (with_open file true) q
  pub listed : (b : ℕ) → new.table b ≡ with_block old.table id (with_whole old.held id entry block.b.generation_stamp) b

-- a file is opened: one without blocks, or one with its last block
abbrev pub OpensAgain : Space → List ℕ → FileEntry → Space → Option LocatedBlock → Type 0
OpensAgain old path file new None =
    (file.blocks ≡ []) × ((q : List ℕ) → new.names q ≡ with_entry old.names path (with_open file true) q)
    × ((b : ℕ) → new.table b ≡ old.table b)
OpensAgain old path file new (Some block) =
    (id : ℕ) × IsLast file.blocks (Some block.b) × (block.b.block_id ≡ id) × Reopened old path id new block

-- this is the block of the closed file at a path with this number
pub record IsClosedBlock (names : List ℕ → Option Entry) (path : List ℕ) (k id : ℕ) : Type 0 where
  pub file : FileEntry
  pub is : names path ≡ Some (entries.File file)
  pub closed : file.is_open ≡ false
  pub below : k < length file.blocks
  pub at : slice_index_or file.blocks k 0 ≡ id
