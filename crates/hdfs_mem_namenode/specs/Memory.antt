-- How the names and the blocks of a cluster in memory are seen.
use Rattle.std.specs.Prelude.{◌≡◌, ℕ, ◌^◌, nat_lt, ◌==◌, Bool, true, false, ◌&&◌, ◌||◌, List, [], ◌∷◌, length, slice_index, Option, Some, None, is_none, String, string_bytes}
use Rattle.std.specs.List.{list_all}
use Rattle.std.specs.Map.{lookup}
use Rattle.std.specs.Ordering.{nat_cmp}
use Rattle.std.specs.Str.{bytes_eq}
use Rattle.std.specs.BTreeMap.{is_at}
use Rattle.hdfs_cluster.specs.declared.attributes.Attributes.{Attributes}
use Rattle.hdfs_cluster.specs.declared.picture.Entry.{Entry}
use Rattle.hdfs_cluster.specs.declared.picture.Entry.TheVariants as entries
use Rattle.hdfs_cluster.specs.declared.picture.BlockEntry.{BlockEntry}
use Rattle.hdfs_names.specs.Paths.{root, is_path, ancestors, parent_of}
use Rattle.hdfs_cluster.specs.Effects.{blocks_at}
use Rattle.hdfs_cluster.specs.Limits.{in_limits}
use Rattle.hdfs_cluster.specs.Listing.{total}

-- whether there is a length, and it is below 2^63
abbrev pub is_length : Option ℕ → Bool
is_length None = false
is_length (Some n) = nat_lt n (2 ^ 63)

-- the blocks of a file are in the table, and are below 2^63 bytes together
abbrev pub is_sized : (ℕ → Option BlockEntry) → Option Entry → Bool
is_sized table None = true
is_sized table (Some entries.Dir) = true
is_sized table (Some (entries.File file)) = is_length (total table file.blocks)

-- whether this is the kth of these blocks
abbrev pub is_kth : List ℕ → ℕ → ℕ → Bool
is_kth ids k id = nat_lt k (length ids) && (slice_index ids k == id)

-- whether this is the kth block of the file at a path
abbrev pub is_kth_at : (List ℕ → Option Entry) → List ℕ → ℕ → ℕ → Bool
is_kth_at names path = is_kth (blocks_at (names path))

-- no block stands at two places
abbrev pub AreApart : (List ℕ → Option Entry) → Type 0
AreApart names = (path other : List ℕ) (k n id : ℕ) → is_kth_at names path k id ≡ true → is_kth_at names other n id ≡ true → (bytes_eq path other && (k == n)) ≡ true

-- the block table as a look-up
abbrev pub table_of : List (ℕ × BlockEntry) → ℕ → Option BlockEntry
table_of es id = lookup (is_at (nat_cmp id)) es

-- whether a directory stands there
abbrev pub is_dir : Option Entry → Bool
is_dir None = false
is_dir (Some entries.Dir) = true
is_dir (Some (entries.File file)) = false

-- nothing stands at the path, or it keeps the path rule and all that stands above it are directories
abbrev pub is_placed : (List ℕ → Option Entry) → List ℕ → Bool
is_placed names path = is_none (names path) || (is_path path && list_all (λ ancestor. is_dir (names ancestor)) (ancestors path))

-- nothing stands at the path, whose parent is a directory
abbrev pub is_free_at : (List ℕ → Option Entry) → List ℕ → Bool
is_free_at names path = is_path path && is_none (names path) && is_dir (names (parent_of path))

-- whether a file is taken: at a free path, within the limits
abbrev pub accepts : (List ℕ → Option Entry) → List ℕ → Attributes → ℕ → Bool
accepts names path attributes count = is_free_at names path && in_limits attributes count

-- the root is all that is named
abbrev pub is_bare : {A : Type 0} → List (String A × Entry) → Bool
is_bare [] = false
is_bare (e ∷ []) = bytes_eq root (string_bytes e.0) && is_dir (Some e.1)
is_bare (e ∷ f ∷ rest) = false

-- of a path that is the root or isn't: a directory stands at the root, and nothing elsewhere
abbrev pub is_bare_at : Bool → Option Entry → Bool
is_bare_at true o = is_dir o
is_bare_at false o = is_none o

-- the root is all that is named
abbrev pub IsBare : (List ℕ → Option Entry) → Type 0
IsBare names = (path : List ℕ) → is_bare_at (bytes_eq root path) (names path) ≡ true

-- whether a list is empty
abbrev pub is_nil : {X : Type 0} → List X → Bool
is_nil [] = true
is_nil (x ∷ xs) = false
