-- The uuids of datanodes in memory.
use Rattle.std.specs.Prelude.{ℕ, zero, suc, List, [], ◌∷◌, ◌++◌, codes}
use Rattle.hdfs_mem_faults.specs.Series.{uuid_of}

-- the uuid of the datanode that is always there
abbrev pub first_node : List ℕ
first_node = codes "dn0"

-- the uuids of the lowest-numbered datanodes, so many of them
abbrev pub lowest : ℕ → List (List ℕ)
lowest zero = []
lowest (suc n) = lowest n ++ uuid_of n ∷ []
