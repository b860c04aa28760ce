-- How many bytes each file of a cluster in memory has, as it is kept beside the file's name.
use Rattle.std.specs.Prelude.{ℕ, ◌==◌, Bool, true, false, List, Option, Some, None, if◌then◌else◌}
use Rattle.std.specs.Str.{bytes_eq}
use Rattle.hdfs_cluster.specs.declared.picture.Entry.{Entry}
use Rattle.hdfs_cluster.specs.declared.picture.Entry.TheVariants as entries
use Rattle.hdfs_cluster.specs.declared.picture.BlockEntry.{BlockEntry}
use Rattle.hdfs_cluster.specs.Listing.{total}

-- there is such a sum, and it is the total that is kept
abbrev pub is_total : Option ℕ → Option ℕ → Bool
is_total None kept = false
is_total (Some sum) None = false
is_total (Some sum) (Some kept) = sum == kept

-- where a file stands, the total that is kept is that of its blocks
abbrev pub is_counted : (ℕ → Option BlockEntry) → Option Entry → Option ℕ → Bool
is_counted table None kept = true
is_counted table (Some entries.Dir) kept = true
is_counted table (Some (entries.File file)) kept = is_total (total table file.blocks) kept

-- the totals with this one at a path
abbrev pub with_total : (List ℕ → Option ℕ) → List ℕ → ℕ → List ℕ → Option ℕ
with_total totals path sum q = if bytes_eq path q then Some sum else totals q
