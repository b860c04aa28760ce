-- With what a file is written, by the defaults of its cluster.
use Rattle.std.specs.Prelude.{ℕ}
use Rattle.hdfs_cluster.specs.declared.messages.ServerDefaults.{ServerDefaults}
use Rattle.hdfs_rebuild.specs.declared.block_plan.RebuildSettings.{RebuildSettings}
use Rattle.hdfs_file_writer.specs.declared.sizes.WriteSizes.{WriteSizes}

-- with what a file is written that has this replication and block size, whose pipelines are rebuilt so, and whose new blocks are tried again
-- at most so often
abbrev pub sizes_by : RebuildSettings → ℕ → ServerDefaults → ℕ → ℕ → WriteSizes
sizes_by rebuilding setup_limit defaults replication block_size = record {
  replication = replication;
  block_size = block_size;
  chunk = defaults.bytes_per_checksum;
  packet_size = defaults.write_packet_size;
  rebuilding = rebuilding;
  setup_limit = setup_limit;
  encrypted = defaults.encrypt_data_transfer;
}
