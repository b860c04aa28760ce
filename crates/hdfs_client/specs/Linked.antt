-- What a table of mounts has to be, so that each path leads to a service.
use Rattle.std.specs.Prelude.{ℕ, nat_lt, Bool, true, false, ◌&&◌, List, [], ◌∷◌}
use Rattle.std.specs.List.{list_all}
use Rattle.hdfs_names.specs.Paths.{is_slash}
use Rattle.hdfs_names.specs.declared.mounts.MountLink.{MountLink}
use Rattle.hdfs_names.specs.declared.mounts.MountTable.{MountTable}

-- the text begins with a slash
abbrev pub is_rooted : List ℕ → Bool
is_rooted [] = false
is_rooted (c ∷ rest) = is_slash c

-- the text is empty
abbrev pub is_nothing : List ℕ → Bool
is_nothing [] = true
is_nothing (c ∷ rest) = false

-- the link leads to one of so many services
abbrev pub is_linked : ℕ → MountLink → Bool
is_linked many link = nat_lt link.service many

-- the fallback does, and so does each link
abbrev pub are_linked : ℕ → MountTable → Bool
are_linked many table = is_linked many table.fallback && list_all (is_linked many) table.mounts

-- A path always leads to one of so many services: the home directory begins with a slash, the fallback matches each path, and each link leads
-- to one of them.
abbrev pub is_table : ℕ → MountTable → Bool
is_table many table = is_rooted table.home_dir && is_nothing table.fallback.viewfs_path && are_linked many table
