-- What stands at a path of a cluster in memory and below it, counted.
use Rattle.std.specs.Prelude.{◌≡◌, ℕ, ◌+◌, ◌*◌, ◌-◌, ◌^◌, min, sum_by, true, List, ◌∷◌, ◌++◌, All, Contains, Option, Some, None, IsSome, unwrap_or}
use Rattle.hdfs_cluster.specs.declared.messages.Summary.{Summary}
use Rattle.hdfs_cluster.specs.declared.picture.BlockEntry.{BlockEntry}
use Rattle.hdfs_cluster.specs.declared.picture.Entry.{Entry}
use Rattle.hdfs_cluster.specs.declared.picture.Entry.TheVariants as entries
use Rattle.hdfs_cluster.specs.Names.{Rises, front_of, is_before}
use Rattle.hdfs_mem_namenode.specs.Looking.{attributes_of, length_of}

-- something stands at a path that begins so
abbrev pub IsNamedBehind : (List ℕ → Option Entry) → List ℕ → List ℕ → Type 0
IsNamedBehind names front path = ((x : List ℕ) × (path ≡ front ++ x)) × IsSome (names path)

-- the paths that begin so, and are longer, at which something stands: in order, each once, all and no others
pub record ArePathsBehind (names : List ℕ → Option Entry) (front : List ℕ) (paths : List (List ℕ)) : Type 0 where
  pub rising : Rises front paths
  pub there : All (IsNamedBehind names front) paths
  pub all : (x : List ℕ) → IsSome (names (front ++ x)) → is_before front (front ++ x) ≡ true
      → Contains paths (front ++ x)

-- how many files stand at a path: one or none
abbrev pub files_at : Option Entry → ℕ
files_at None = 0
files_at (Some entries.Dir) = 0
files_at (Some (entries.File file)) = 1

-- how many directories do
abbrev pub directories_at : Option Entry → ℕ
directories_at None = 0
directories_at (Some entries.Dir) = 1
directories_at (Some (entries.File file)) = 0

-- how many bytes what stands at a path has; a directory has none
abbrev pub bytes_at : (ℕ → Option BlockEntry) → Option Entry → ℕ
bytes_at table None = 0
bytes_at table (Some entry) = unwrap_or (length_of table entry) 0

-- how many replicas it is to have; a directory has none
abbrev pub replicas_at : Option Entry → ℕ
replicas_at None = 0
replicas_at (Some entry) = (attributes_of entry).replication

-- a number as it is told: one above 2^64 - 1 is told as that
abbrev pub told : ℕ → ℕ
told n = min n (2 ^ 64 - 1)

-- What stands at these paths: the files' bytes together, how many files and directories there are, and the bytes of each file times its
-- replicas, together. There are no quotas.
abbrev pub summary_of : (List ℕ → Option Entry) → (ℕ → Option BlockEntry) → List (List ℕ) → Summary
summary_of names table paths = record {
  length = told (sum_by (λ q. bytes_at table (names q)) paths);
  file_count = told (sum_by (λ q. files_at (names q)) paths);
  directory_count = told (sum_by (λ q. directories_at (names q)) paths);
  quota = 0;
  space_consumed = told (sum_by (λ q. bytes_at table (names q) * replicas_at (names q)) paths);
  space_quota = 0;
}

-- counts with one path more, at which this stands and has so many bytes
abbrev pub with_one : Summary → Entry → ℕ → Summary
with_one counted entry bytes = record {
  length = told (counted.length + bytes);
  file_count = told (counted.file_count + files_at (Some entry));
  directory_count = told (counted.directory_count + directories_at (Some entry));
  quota = counted.quota;
  space_consumed = told (counted.space_consumed + told (bytes * replicas_at (Some entry)));
  space_quota = counted.space_quota;
}

-- counts of some paths, and then those of the paths that begin so and are longer as well
pub record CountsOn (names : List ℕ → Option Entry) (table : ℕ → Option BlockEntry) (front : List ℕ)
    (counted counted' : Summary) : Type 0 where
  pub behind : List (List ℕ)
  pub are : ArePathsBehind names front behind
  pub on : (paths : List (List ℕ)) → counted ≡ summary_of names table paths
      → counted' ≡ summary_of names table (paths ++ behind)

-- the summary is that of what stands at the path and below it
pub record Counts (names : List ℕ → Option Entry) (table : ℕ → Option BlockEntry) (path : List ℕ)
    (summary : Summary) : Type 0 where
  pub there : IsSome (names path)
  pub below : List (List ℕ)
  pub are : ArePathsBehind names (front_of path) below
  pub counted : summary ≡ summary_of names table (path ∷ below)
