-- The leases of the files that a client is writing.
use Rattle.std.specs.Prelude.{◌≡◌, ℕ, List, Option, Some, None}
use Rattle.hdfs_leases.specs.declared.file_leases.FileLeases.{FileLeases}
use Rattle.hdfs_leases.specs.Files.{leases_of, leases_in}

-- how often the lease of the file with this namespace and this id is held
abbrev pub held : FileLeases → Option (List ℕ) → ℕ → ℕ
held leases None id = leases_of leases.unnamed id
held leases (Some name) id = leases_in leases.named name id

-- the moment of the last renewal, or of the first turn at which a lease was held
abbrev pub last_of : FileLeases → Option ℕ
last_of leases = leases.last

-- no lease is held
abbrev pub IsIdle : FileLeases → Type 0
IsIdle leases = (namespace : Option (List ℕ)) (id : ℕ) → held leases namespace id ≡ 0

-- each lease is held as often as before
abbrev pub HoldsSame : FileLeases → FileLeases → Type 0
HoldsSame old new = (namespace : Option (List ℕ)) (id : ℕ) → held new namespace id ≡ held old namespace id

-- each lease but that of this file is held as often as before
abbrev pub HoldsSameBut : Option (List ℕ) → ℕ → FileLeases → FileLeases → Type 0
HoldsSameBut namespace id old new = (other : Option (List ℕ)) (number : ℕ) → ¬ ((other ≡ namespace) × (number ≡ id))
    → held new other number ≡ held old other number
