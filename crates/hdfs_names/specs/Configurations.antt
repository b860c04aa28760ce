-- Settings as they are held: a map of texts.
use Rattle.std.specs.Prelude.{◌≡◌, ℕ, List, Option, Some, None, map, length, drop, nat_eq, if◌then◌else◌, String, string_bytes}
use Rattle.std.specs.List.{starts_with}
use Rattle.std.specs.Option.{option_map}
use Rattle.std.specs.Ordering.{nat_cmp}
use Rattle.std.specs.Cmp.Lexicographic.{slice_cmp}
use Rattle.std.specs.List.Sorted.{IsStrictlySortedBy}
use Rattle.std.specs.Map.{lookup, keys_of}
use Rattle.std.specs.Str.{bytes_eq}
use Rattle.std.specs.BTreeMap.{get_by_text}
use Rattle.hdfs_names.specs.declared.settings.Configuration.{Configuration}

-- the texts of a key and a value
abbrev pub pair_text : {A B : Type 0} → String A × String B → List ℕ × List ℕ
pair_text pair = (string_bytes pair.0, string_bytes pair.1)

-- the texts of a mount: a link's path, where it is no fallback, and the URL
abbrev pub mount_text : {A B : Type 0} → Option (String A) × String B → Option (List ℕ) × List ℕ
mount_text mount = (option_map string_bytes mount.0, string_bytes mount.1)

-- the value of a key
abbrev pub setting : Configuration → List ℕ → Option (List ℕ)
setting c key = option_map string_bytes (get_by_text c.map key)

-- the pairs of key and value in the order of their keys
abbrev pub entries_of : Configuration → List (List ℕ × List ℕ)
entries_of c = map pair_text c.map.entries

-- the entries rise in their keys, and a look-up finds the one with the key
pub record IsTable (c : Configuration) : Type 0 where
  pub rising : IsStrictlySortedBy (slice_cmp nat_cmp) (keys_of (entries_of c))
  pub finds : (key : List ℕ) → setting c key ≡ lookup (bytes_eq key) (entries_of c)

-- what a setting says of the mounts whose links' keys begin with this text, and whose fallback has this key
abbrev pub mount_by : List ℕ → List ℕ → (List ℕ × List ℕ) → Option (Option (List ℕ) × List ℕ)
mount_by link fallback pair =
    if starts_with nat_eq pair.0 link then Some (Some (drop (length link) pair.0), pair.1)
    else if bytes_eq pair.0 fallback then Some (None, pair.1)
    else None
