-- Home directories by settings.
use Rattle.std.specs.Prelude.{ℕ, List, Option}
use Rattle.hdfs_names.specs.Mounts.{home_root, home_prefix}
use Rattle.hdfs_names.specs.Configurations.{setting}
use Rattle.hdfs_names.specs.declared.settings.Configuration.{Configuration}

-- the directory of home directories by some settings, for a file system of this scheme and host
abbrev pub home_root_of : Configuration → List ℕ → Option (List ℕ) → List ℕ
home_root_of config scheme host = home_root (home_prefix (setting config) scheme host)
