-- The asks of many fields, each by its fields in their order.
use Rattle.std.specs.Prelude.{ℕ, Bool, List, Option}
use Rattle.hdfs_cluster.specs.declared.asks.Ask.{Ask}
use Rattle.hdfs_cluster.specs.declared.asks.Ask.TheVariants as asks
use Rattle.hdfs_cluster.specs.declared.messages.Block.{Block}
use Rattle.hdfs_cluster.specs.declared.messages.DatanodeId.{DatanodeId}
use Rattle.hdfs_cluster.specs.declared.messages.DatanodeInfo.{DatanodeInfo}

-- a new file at `src`, open for a client
abbrev pub create_ask : List ℕ → ℕ → List ℕ → ℕ → Bool → ℕ → ℕ → Ask
create_ask src masked client flag parents replication block_size = asks.Create (record {
  src = src;
  masked = masked;
  client_name = client;
  create_flag = flag;
  create_parent = parents;
  replication = replication;
  block_size = block_size;
})

-- a block more of the open file at `src`
abbrev pub add_block_ask : List ℕ → List ℕ → Option Block → List DatanodeInfo → Option ℕ → Ask
add_block_ask src client previous excludes file_id = asks.AddBlock (record {
  src = src;
  client_name = client;
  previous = previous;
  excludes = excludes;
  file_id = file_id;
})

-- the last block of the open file at `src` is to be none of it any more
abbrev pub abandon_block_ask : Block → List ℕ → List ℕ → Option ℕ → Ask
abandon_block_ask block src client file_id = asks.AbandonBlock (record {
  block = block;
  src = src;
  client_name = client;
  file_id = file_id;
})

-- the open file at `src` is to be closed
abbrev pub complete_ask : List ℕ → List ℕ → Option Block → Option ℕ → Ask
complete_ask src client last file_id = asks.Complete (record { src = src; client_name = client; last = last; file_id = file_id })

-- datanodes more for a block of the open file at `src`
abbrev pub additional_datanode_ask : List ℕ → Block → List DatanodeInfo → List DatanodeInfo → ℕ → List ℕ → List (List ℕ) → Ask
additional_datanode_ask src block existings excludes count client ids = asks.GetAdditionalDatanode (record {
  src = src;
  blk = block;
  existings = existings;
  excludes = excludes;
  num_additional_nodes = count;
  client_name = client;
  existing_storage_uuids = ids;
})

-- a block is written by other datanodes from now on
abbrev pub update_pipeline_ask : List ℕ → Block → Block → List DatanodeId → List (List ℕ) → Ask
update_pipeline_ask client old_block new_block nodes ids = asks.UpdatePipeline (record {
  client_name = client;
  old_block = old_block;
  new_block = new_block;
  new_nodes = nodes;
  storage_ids = ids;
})
