-- What changes at a datanode where one of its replicas does.
use Rattle.std.specs.Prelude.{◌≡◌, ◌≢◌, ℕ}
use Rattle.std.specs.Ordering.{nat_cmp}
use Rattle.std.specs.BTreeMap.{get}
use Rattle.hdfs_mem_datanodes.specs.declared.datanode.Datanode.{Datanode}

-- the replicas of other blocks stay
pub record ChangesBlock (block : ℕ) (old new : Datanode) : Type 0 where
  pub others : (other : ℕ) → other ≢ block → get nat_cmp new.blocks other ≡ get nat_cmp old.blocks other
