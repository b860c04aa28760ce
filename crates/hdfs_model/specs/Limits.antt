-- The limits of numbers of commands and of a session's settings.
use Rattle.std.specs.Prelude.{ℕ, nat_le, Bool, true, ◌&&◌, ◌==◌, List, [], ◌∷◌, false}
use Rattle.hdfs_model.specs.declared.commands.Command.{Command}
use Rattle.hdfs_model.specs.declared.commands.Command.TheVariants as commands
use Rattle.hdfs_model.specs.declared.commands.Settings.{Settings}
use Rattle.hdfs_model.specs.declared.commands.WriteOptions.{WriteOptions}
use Rattle.hdfs_cluster.specs.declared.messages.ServerDefaults.{ServerDefaults}
use Rattle.hdfs_cluster.specs.Limits.{is_replication, is_block_size, is_permission, if_given, are_defaults}

-- what is given of the options is in its limits
abbrev pub are_options : WriteOptions → Bool
are_options options =
    is_permission options.permission && if_given is_replication options.replication && if_given is_block_size options.block_size

-- a text begins with a slash
abbrev pub begins_with_slash : List ℕ → Bool
begins_with_slash [] = false
begins_with_slash (c ∷ rest) = c == 47

-- a number is from 1 to 1,000
abbrev pub is_small : ℕ → Bool
is_small n = nat_le 1 n && nat_le n 1000

-- the settings of a session are in their limits: its home begins with a slash, its limit of rebuilds and its window are from 1 to 1,000, and
-- its limit of further first pipelines is up to 100
abbrev pub are_settings : Settings → Bool
are_settings settings =
    begins_with_slash settings.home && is_small settings.rebuild_limit && is_small settings.window && nat_le settings.setup_limit 100

-- The numbers that a command brings or uses are in their limits: the options and the defaults where it creates, the defaults
-- where it appends, the permission bits of a directory that it makes.
abbrev pub are_numbers : ServerDefaults → Command → Bool
are_numbers defaults (commands.Create path options) = are_options options && are_defaults defaults
are_numbers defaults (commands.Append path) = are_defaults defaults
are_numbers defaults (commands.Write path bytes) = true
are_numbers defaults (commands.Close path) = true
are_numbers defaults (commands.Read path offset len) = true
are_numbers defaults (commands.Mkdirs path permission create_parent) = is_permission permission
are_numbers defaults (commands.Delete path recursive) = true
are_numbers defaults (commands.Info path) = true
are_numbers defaults (commands.List path recursive limit) = true
