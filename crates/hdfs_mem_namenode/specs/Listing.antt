-- What stands in a directory, page by page.
use Rattle.std.specs.Prelude.{◌≡◌, ℕ, ◌<◌, ◌≤◌, true, false, not, List, [], ◌∷◌, ◌++◌, length, map, All, Option, Some, None, IsSome, String, string_bytes}
use Rattle.std.specs.BTreeMap.{BTreeMap, get_by_text}
use Rattle.std.specs.List.{filter, list_any}
use Rattle.std.specs.List.Sorted.{IsStrictlySortedBy}
use Rattle.std.specs.Map.{keys_of}
use Rattle.std.specs.Str.{bytes_eq}
use Rattle.std.specs.String.{string_cmp}
use Rattle.hdfs_cluster.specs.declared.messages.DirList.{DirList}
use Rattle.hdfs_cluster.specs.declared.messages.FileStatusMsg.{FileStatusMsg}
use Rattle.hdfs_cluster.specs.declared.picture.BlockEntry.{BlockEntry}
use Rattle.hdfs_cluster.specs.declared.picture.Entry.{Entry}
use Rattle.hdfs_cluster.specs.declared.picture.Entry.TheVariants as entries
use Rattle.hdfs_cluster.specs.Listing.{IsMissing}
use Rattle.hdfs_cluster.specs.Names.{front_of, is_before, IsNameIn, AreNamesBehind}
use Rattle.hdfs_mem_namenode.specs.Looking.{TellsOf}

-- the first name in a directory behind a text
pub record IsNext (names : List ℕ → Option Entry) (front from name : List ℕ) : Type 0 where
  pub there : IsNameIn names front name
  pub behind : is_before from name ≡ true
  pub first : (other : List ℕ) → IsNameIn names front other → is_before from other ≡ true → is_before other name ≡ false

-- no name in the directory is behind the text
abbrev pub NoneBehind : (List ℕ → Option Entry) → List ℕ → List ℕ → Type 0
NoneBehind names front from = (other : List ℕ) → IsNameIn names front other → is_before from other ≡ true → ⊥

-- how many texts don't stand before this one
abbrev pub count_from : {A X : Type 0} → List (String A × X) → List ℕ → ℕ
count_from es start = length (filter (λ e. not (is_before (string_bytes e.0) start)) es)

-- these are the entries of a map from a text on, in order
pub record AreFrom {A X : Type 0} (m : BTreeMap (String A) X) (start : List ℕ) (rest : List (String A × X)) : Type 0 where
  pub sorted : IsStrictlySortedBy string_cmp (keys_of rest)
  pub there : All (λ e. get_by_text m (string_bytes e.0) ≡ Some e.1) rest
  pub from : All (λ e. is_before (string_bytes e.0) start ≡ false) rest
  pub all : (q : List ℕ) → IsSome (get_by_text m q) → is_before q start ≡ false → list_any (λ e. bytes_eq q (string_bytes e.0)) rest ≡ true
  pub counted : count_from m.entries start ≤ length rest

-- from where the next name in a directory is sought: no name that is sought stands before it, and it stands behind the last name
pub record Starts (names : List ℕ → Option Entry) (front after start : List ℕ) : Type 0 where
  pub begins : (x : List ℕ) × (start ≡ front ++ x)
  pub behind : is_before (front ++ after) start ≡ true
  pub first : (other : List ℕ) → IsNameIn names front other → is_before after other ≡ true → is_before (front ++ other) start ≡ false

-- among these entries stand the names in a directory that are behind this one
pub record GoesOn {A : Type 0} (m : BTreeMap (String A) Entry) (front last : List ℕ) (rest : List (String A × Entry)) : Type 0 where
  pub start : List ℕ
  pub starts : Starts (get_by_text m) front last start
  pub are : AreFrom m start rest

-- the same of some name
pub record IsUnderWay {A : Type 0} (m : BTreeMap (String A) Entry) (front : List ℕ) (rest : List (String A × Entry)) : Type 0 where
  pub last : List ℕ
  pub goes : GoesOn m front last rest

-- so many names in the directory are behind the text
pub record CountsBehind (names : List ℕ → Option Entry) (front from : List ℕ) (count : ℕ) : Type 0 where
  pub rest : List (List ℕ)
  pub are : AreNamesBehind names front from rest
  pub counted : count ≡ length rest

-- The names in a directory behind a text are those of the page, and then a rest of which the page tells how many they are. The page has
-- at most 1,000, and fewer only where there is no rest.
pub record IsPage (names : List ℕ → Option Entry) (table : ℕ → Option BlockEntry) (dir from : List ℕ) (page : DirList) : Type 0 where
  pub rest : List (List ℕ)
  pub are : AreNamesBehind names (front_of dir) from (map (λ status. status.path) page.partial_listing ++ rest)
  pub told : All (λ status. TellsOf names table (front_of dir ++ status.path) status.path status) page.partial_listing
  pub remaining : page.remaining_entries ≡ length rest
  pub few : length page.partial_listing ≤ 1000
  pub full : length page.partial_listing < 1000 → rest ≡ []

-- of a file there is one entry, without a name, and of a directory a page
abbrev pub ListsAt : (List ℕ → Option Entry) → (ℕ → Option BlockEntry) → List ℕ → List ℕ → Entry → DirList → Type 0
ListsAt names table src from entries.Dir page = IsPage names table src from page
ListsAt names table src from (entries.File file) page =
    (page.remaining_entries ≡ 0) × ((status : FileStatusMsg) × (page.partial_listing ≡ status ∷ []) × TellsOf names table src [] status)

-- what stands at the path is listed; nothing is where nothing stands there, and no file above it
abbrev pub Lists : (List ℕ → Option Entry) → (ℕ → Option BlockEntry) → List ℕ → List ℕ → Option DirList → Type 0
Lists names table src from (Some page) = (entry : Entry) × (names src ≡ Some entry) × ListsAt names table src from entry page
Lists names table src from None = IsMissing names src
