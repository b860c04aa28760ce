-- What the datanodes of a cluster in memory show.
use Rattle.std.specs.Prelude.{◌≡◌, ℕ, Bool, true, List, Option, Some, None, is_some, ◌&&◌, ◌==◌}
use Rattle.std.specs.Ordering.{nat_cmp}
use Rattle.std.specs.BTreeMap.{get, get_by_text}
use Rattle.std.specs.List.{list_any}
use Rattle.std.specs.Str.{bytes_eq}
use Rattle.hdfs_cluster.specs.declared.messages.DatanodeInfo.{DatanodeInfo}
use Rattle.hdfs_mem_datanodes.specs.declared.datanode.Datanode.{Datanode}
use Rattle.hdfs_mem_datanodes.specs.declared.datanodes.Datanodes.{Datanodes}
use Rattle.hdfs_mem_datanodes.specs.declared.replica.Replica.{Replica}
use Rattle.hdfs_mem_datanodes.specs.Replicas.{held_by, whole_by, undisturbed_by, SameReplica}

-- its replica of a block
abbrev pub replica_in : Option Datanode → ℕ → Option Replica
replica_in None block = None
replica_in (Some node) block = get nat_cmp node.blocks block

-- the datanode with this uuid
abbrev pub node_at : Datanodes → List ℕ → Option Datanode
node_at nodes uuid = get_by_text nodes.by_uuid uuid

-- the replica that the datanode with this uuid has of a block
abbrev pub replica_at : Datanodes → List ℕ → ℕ → Option Replica
replica_at nodes uuid block = replica_in (node_at nodes uuid) block

-- the bytes that it holds of it
abbrev pub held_in : Datanodes → List ℕ → ℕ → List ℕ
held_in nodes uuid block = held_by (replica_at nodes uuid block)

-- the bytes that it holds once the piece is taken that is offered
abbrev pub whole_in : Datanodes → List ℕ → ℕ → List ℕ
whole_in nodes uuid block = whole_by (replica_at nodes uuid block)

-- no other link has written to it since this one was opened
abbrev pub undisturbed_in : Datanodes → List ℕ → ℕ → ℕ → Bool
undisturbed_in nodes uuid block link = undisturbed_by (replica_at nodes uuid block) link

-- whether one of these datanodes has the uuid
abbrev pub is_named : List DatanodeInfo → List ℕ → Bool
is_named locs uuid = list_any (λ node. bytes_eq uuid node.id.datanode_uuid) locs

-- whether it is the replica of this block on one of these datanodes
abbrev pub is_on : List DatanodeInfo → ℕ → List ℕ → ℕ → Bool
is_on locs block uuid other = is_named locs uuid && (block == other)

-- whether it is the replica of this block on this datanode
abbrev pub is_here : List ℕ → ℕ → List ℕ → ℕ → Bool
is_here uuid block other_uuid other = bytes_eq other_uuid uuid && (block == other)

-- a datanode has the same replicas
abbrev pub SameReplicas : Option Datanode → Option Datanode → Type 0
SameReplicas old new = (block : ℕ) → replica_in new block ≡ replica_in old block

-- nothing is seen to change of what the datanodes hold
abbrev pub SameHeld : Datanodes → Datanodes → Type 0
SameHeld old new = (d : List ℕ) (block : ℕ) → SameReplica (replica_at old d block) (replica_at new d block)

-- the same datanodes are there
pub record SameNodes (old new : Datanodes) : Type 0 where
  pub there : (d : List ℕ) → is_some (node_at new d) ≡ is_some (node_at old d)
  pub count : new.count ≡ old.count

-- a datanode may have come where there was none: it holds nothing
pub record Joins (old new : Option Datanode) : Type 0 where
  pub there : is_some old ≡ true → is_some new ≡ true
  pub replicas : SameReplicas old new
