-- The datanodes that are listed for a block, its locations.
use Rattle.std.specs.Prelude.{◌⊎◌, ℕ, ◌<◌, List, [], ◌++◌, length, slice_index_or, codes}
use Rattle.std.specs.Fmt.{decimal}
use Rattle.hdfs_cluster.specs.declared.messages.DatanodeId.{DatanodeId}
use Rattle.hdfs_cluster.specs.declared.messages.LocatedBlock.{LocatedBlock}
use Rattle.hdfs_cluster.specs.Counts.{FaultCounts, Rose}
use Rattle.hdfs_cluster.specs.Picture.{Picture}
use Rattle.hdfs_cluster.specs.Sending.{uuids}

-- the datanode of the k-th location, by its uuid
abbrev pub node_at : LocatedBlock → ℕ → List ℕ
node_at block k = slice_index_or (uuids block.locs) k []

-- the address of a datanode, as `10.0.0.1:9866`
abbrev pub address_of_node : DatanodeId → List ℕ
address_of_node node = node.ip_addr ++ codes ":" ++ decimal node.xfer_port

-- how many datanodes are listed for a block
abbrev pub node_count : LocatedBlock → ℕ
node_count block = length block.locs

-- the bytes that the k-th location's datanode holds of the block
abbrev pub held_at : Picture → LocatedBlock → ℕ → List ℕ
held_at picture block k = picture.held (node_at block k) block.b.block_id

-- The k-th location is to blame for not giving the block's bytes: its datanode has failed since its count was `before`, or
-- doesn't hold the block whole.
abbrev pub IsToBlame : Picture → LocatedBlock → List ℕ → ℕ → ℕ → FaultCounts → Type 0
IsToBlame picture block bytes k before now = Rose before (now.nodes (node_at block k)) ⊎ (length (held_at picture block k) < length bytes)
