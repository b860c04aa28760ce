-- Which lines are taken.
use Rattle.std.proofs.Common.{◌≡◌, ℕ, ◌<◌, ◌^◌, nat_le, nat_lt, Bool, true, ◌&&◌, List, length, Option, Some, None, is_none, refl, ◌∙◌, ap, arith}
use Rattle.std.proofs.lemmas.Bool.Decides.{nat_tests}
use Rattle.hdfs_cluster.specs.declared.attributes.Attributes.{Attributes}
use Rattle.hdfs_cluster.specs.Limits.{in_limits, is_block_size, is_permission, is_replication}
use Rattle.hdfs_cluster.specs.declared.picture.Entry.{Entry}
use Rattle.hdfs_cluster.specs.declared.picture.Entry.TheVariants as entries
use Rattle.hdfs_cluster.specs.declared.store.Line.TheVariants as lines
use Rattle.hdfs_cluster.specs.Files.{Node, Dir, File, Writing, Files}
use Rattle.hdfs_cluster.specs.Loading.{takes, is_free, is_directory}
use Rattle.hdfs_names.specs.Paths.{is_path, parent_of}
use Rattle.hdfs_cluster.specs.Picture.{Picture}
use Rattle.hdfs_cluster.specs.Shown.{Loaded}
use Rattle.hdfs_cluster.specs.Stores.{Agrees, AgreesAt}
use Rattle.hdfs_cluster.proofs.Loads.{and_parts, none_from_test}
use Rattle.hdfs_mem_namenode.specs.Adding.{IsPlace}
use Rattle.hdfs_mem_namenode.specs.Memory.{is_dir, is_free_at, accepts}

none_alike : (p : Picture) (o : Option Entry) (node : Option Node) → AgreesAt p o node → is_none node ≡ is_none o
none_alike p None None h = refl
none_alike p (Some entry) (Some node) h = refl
none_alike p None (Some node) h = absurd h
none_alike p (Some entry) None h = absurd h

directory_alike : (p : Picture) (o : Option Entry) (node : Option Node) → AgreesAt p o node → is_directory node ≡ is_dir o
directory_alike p None None h = refl
directory_alike p (Some entries.Dir) (Some Dir) h = refl
directory_alike p (Some (entries.File file)) (Some (File content)) h = refl
directory_alike p (Some (entries.File file)) (Some (Writing content)) h = refl
directory_alike p None (Some node) h = absurd h
directory_alike p (Some entry) None h = absurd h
directory_alike p (Some entries.Dir) (Some (File content)) h = absurd h
directory_alike p (Some entries.Dir) (Some (Writing content)) h = absurd h
directory_alike p (Some (entries.File file)) (Some Dir) h = absurd h

-- a path is free in a cluster where it is in its state
pub free_alike : (p : Picture) (files : Files) → Agrees (Some p) files → (path : List ℕ) → is_free files path ≡ is_free_at p.names path
free_alike p files agrees path =
    ap (λ (b : Bool). is_path path && b && is_directory (files (parent_of path))) (none_alike p (p.names path) (files path) (agrees path))
    ∙ ap (λ (b : Bool). is_path path && is_none (p.names path) && b) (directory_alike p (p.names (parent_of path)) (files (parent_of path)) (agrees (parent_of path)))

-- a cluster accepts the files that its state takes
pub takes_accepts : (loaded : Loaded) (p : Picture) (files : Files) → Agrees (Some p) files → (path : List ℕ) (attributes : Attributes) (bytes : List ℕ) → takes loaded files (lines.File path attributes bytes) ≡ accepts p.names path attributes (length bytes)
takes_accepts loaded p files agrees path attributes bytes = ap (λ (b : Bool). b && in_limits attributes (length bytes)) (free_alike p files agrees path)

some_from : (n : ℕ) → nat_le 1 n ≡ true → 0 < n
some_from n is = grind (arith, nat_tests, is)

below_from : (a b : ℕ) → nat_lt a b ≡ true → a < b
below_from a b is = grind (arith, nat_tests, is)

-- what is known of a file that is accepted
module _ (names : List ℕ → Option Entry) (path : List ℕ) (attributes : Attributes) (count : ℕ) (is : accepts names path attributes count ≡ true) where
  -- it can stand at its path
  pub accepted_place : IsPlace names path
  accepted_place =
      let free = and_parts (is_free_at names path) (in_limits attributes count) is in
      let front = and_parts (is_path path && is_none (names path)) (is_dir (names (parent_of path))) free.0 in
      let first = and_parts (is_path path) (is_none (names path)) front.0 in
      record { named = first.0; absent = none_from_test (names path) first.1; parent = front.1 }

  -- and its numbers are in their limits
  pub accepted_numbers : (0 < attributes.block_size) × (0 < attributes.replication) × (count < 2 ^ 63)
  accepted_numbers =
      let a = attributes in
      let limits = and_parts (is_free_at names path) (in_limits attributes count) is in
      let all = and_parts (is_permission a.permission && is_replication a.replication && is_block_size a.block_size) (nat_lt count (2 ^ 63)) limits.1 in
      let three = and_parts (is_permission a.permission && is_replication a.replication) (is_block_size a.block_size) all.0 in
      let two = and_parts (is_permission a.permission) (is_replication a.replication) three.0 in (
        some_from a.block_size (and_parts (nat_le 1 a.block_size) (nat_lt a.block_size (2 ^ 63)) three.1).0,
        some_from a.replication (and_parts (nat_le 1 a.replication) (nat_le a.replication 65535) two.1).0,
        below_from count (2 ^ 63) all.1,
      )
