-- What asks see of a namespace.
use Rattle.std.specs.Prelude.{ℕ, List}
use Rattle.std.specs.BTreeMap.{get_by_text}
use Rattle.hdfs_mem_namenode.specs.declared.namespace.Namespace.{Namespace}
use Rattle.hdfs_mem_namenode.specs.Adding.{Space}
use Rattle.hdfs_mem_namenode.specs.Memory.{table_of}
use Rattle.hdfs_mem_datanodes.specs.declared.datanodes.Datanodes.{Datanodes}
use Rattle.hdfs_mem_datanodes.specs.Nodes.{held_in}

-- a namespace, beside these datanodes
abbrev pub space_of : Namespace → Datanodes → Space
space_of space nodes = record { names = get_by_text space.names; table = table_of space.table.entries; held = held_in nodes }

-- a namespace, whatever datanodes hold
abbrev pub space_with : Namespace → (List ℕ → ℕ → List ℕ) → Space
space_with space held = record { names = get_by_text space.names; table = table_of space.table.entries; held = held }
