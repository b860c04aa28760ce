-- The sizes with which a new file is written are in their limits where the options and the defaults are.
use Rattle.std.proofs.Common.{◌≡◌, ℕ, ◌≤◌, true, ◌&&◌, unwrap_or}
use Rattle.hdfs_model.specs.declared.commands.WriteOptions.{WriteOptions}
use Rattle.hdfs_cluster.specs.declared.messages.ServerDefaults.{ServerDefaults}
use Rattle.hdfs_cluster.specs.Limits.{are_defaults, if_given, is_block_size, is_permission, is_replication}
use Rattle.hdfs_model.specs.Limits.{are_options}
use Rattle.hdfs_cluster.proofs.Loads.{and_parts}
use Rattle.hdfs_file_writer.specs.Sizing.{sizes_by}
use Rattle.hdfs_file_writer.specs.Writers.{AreSizes}
use Rattle.hdfs_file_writer.proofs.InLimits.{are_sizes_by}
use Rattle.hdfs_rebuild.specs.declared.block_plan.RebuildSettings.{RebuildSettings}

pub are_sizes_of : (rebuilding : RebuildSettings) (setup_limit : ℕ) (d : ServerDefaults) → (1 ≤ rebuilding.window) × (rebuilding.window ≤ 1000) → are_defaults d ≡ true
    → (options : WriteOptions) → are_options options ≡ true
    → AreSizes (sizes_by rebuilding setup_limit d (unwrap_or options.replication d.replication) (unwrap_or options.block_size d.block_size))
are_sizes_of rebuilding setup_limit d window defaults options is =
    let parts = and_parts (is_permission options.permission && if_given is_replication options.replication) (if_given is_block_size options.block_size) is in
    are_sizes_by rebuilding setup_limit d window defaults options.replication options.block_size
    (and_parts (is_permission options.permission) (if_given is_replication options.replication) parts.0).1 parts.1
