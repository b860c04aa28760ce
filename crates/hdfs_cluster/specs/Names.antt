-- The order of texts, and what stands in a directory and below it.
use Rattle.std.specs.Prelude.{◌≡◌, ℕ, nat_lt, ◌==◌, ◌&&◌, ◌||◌, Bool, true, false, List, [], ◌∷◌, ◌++◌, length, take, All, Contains, Option, IsSome, if◌then◌else◌}
use Rattle.std.specs.List.{list_any}
use Rattle.std.specs.Str.{bytes_eq}
use Rattle.hdfs_cluster.specs.declared.picture.Entry.{Entry}
use Rattle.hdfs_names.specs.Paths.{root, is_slash}

-- one text stands before another, byte by byte
abbrev pub is_before : List ℕ → List ℕ → Bool
is_before [] [] = false
is_before [] (d ∷ b) = true
is_before (c ∷ a) [] = false
is_before (c ∷ a) (d ∷ b) = if nat_lt c d then true else (c == d) && is_before a b

-- each of these texts stands behind the one before it, and the first one behind this text
abbrev pub Rises : List ℕ → List (List ℕ) → Type 0
Rises from [] = Unit {0}
Rises from (text ∷ texts) = (is_before from text ≡ true) × Rises text texts

-- what the paths in a directory begin with: the directory and a slash, or the root
abbrev pub front_of : List ℕ → List ℕ
front_of dir = if bytes_eq root dir then root else dir ++ 47 ∷ []

-- something of this name, which has no slash, stands in the directory whose paths begin so
pub record IsNameIn (names : List ℕ → Option Entry) (front name : List ℕ) : Type 0 where
  pub plain : list_any is_slash name ≡ false
  pub there : IsSome (names (front ++ name))

-- the names in a directory behind a text: in order, each once, all and no others
pub record AreNamesBehind (names : List ℕ → Option Entry) (front from : List ℕ) (found : List (List ℕ)) : Type 0 where
  pub rising : Rises from found
  pub there : All (IsNameIn names front) found
  pub all : (name : List ℕ) → IsNameIn names front name → is_before from name ≡ true → Contains found name

-- a path is below a directory, which isn't the root, where it begins with it and a slash
abbrev pub is_below : List ℕ → List ℕ → Bool
is_below dir path = bytes_eq (dir ++ 47 ∷ []) (take (length (dir ++ 47 ∷ [])) path)

-- it is the directory, or below it
abbrev pub is_within : List ℕ → List ℕ → Bool
is_within dir path = bytes_eq dir path || is_below dir path

-- something stands below the path
pub record HasBelow (names : List ℕ → Option Entry) (dir : List ℕ) : Type 0 where
  pub path : List ℕ
  pub below : is_below dir path ≡ true
  pub there : IsSome (names path)
