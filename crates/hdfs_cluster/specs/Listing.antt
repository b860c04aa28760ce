-- What a namenode tells of what stands at a path: its status, and what stands in a directory, page by page.
use Rattle.std.specs.Prelude.{◌≡◌, ℕ, ◌+◌, false, List, [], ◌∷◌, ◌++◌, length, map, All, Option, Some, None}
use Rattle.hdfs_cluster.specs.declared.messages.DirList.{DirList}
use Rattle.hdfs_cluster.specs.declared.messages.FileStatusMsg.{FileStatusMsg}
use Rattle.hdfs_cluster.specs.declared.picture.BlockEntry.{BlockEntry}
use Rattle.hdfs_cluster.specs.declared.picture.Entry.{Entry}
use Rattle.hdfs_cluster.specs.declared.picture.Entry.TheVariants as entries
use Rattle.hdfs_cluster.specs.Effects.{HasStatus}
use Rattle.hdfs_cluster.specs.Names.{AreNamesBehind, front_of}
use Rattle.hdfs_cluster.specs.Picture.{kinds_in}
use Rattle.hdfs_cluster.specs.Refusals.{above_refusal}

-- the length of the blocks together, where each of them is there
abbrev pub plus_length : Option BlockEntry → Option ℕ → Option ℕ
plus_length (Some entry) (Some rest) = Some (entry.length + rest)
plus_length (Some entry) None = None
plus_length None rest = None

-- the lengths of these blocks together, none where one of them isn't in the table
abbrev pub total : (ℕ → Option BlockEntry) → List ℕ → Option ℕ
total table [] = Some 0
total table (id ∷ ids) = plus_length (table id) (total table ids)

-- the type of a directory is 1, that of a file 2
abbrev pub type_of : Entry → ℕ
type_of entries.Dir = 1
type_of (entries.File file) = 2

-- A status of a file tells its attributes, and its length where it is closed: of one that is being written it may tell any length. Of a
-- directory the picture has no more than that it is one.
abbrev pub TellsFile : (ℕ → Option BlockEntry) → Entry → FileStatusMsg → Type 0
TellsFile table entries.Dir status = Unit {0}
TellsFile table (entries.File file) status =
    HasStatus file (Some status) × (file.is_open ≡ false → total table file.blocks ≡ Some status.length)

-- the status is that of what stands at the path, under this name: it tells whether that is a directory or a file, and of a file the rest
pub record TellsAt (names : List ℕ → Option Entry) (table : ℕ → Option BlockEntry) (path name : List ℕ) (status : FileStatusMsg)
    : Type 0 where
  pub entry : Entry
  pub there : names path ≡ Some entry
  pub named : status.path ≡ name
  pub type : status.file_type ≡ type_of entry
  pub file : TellsFile table entry status

-- nothing stands at the path, and no file above it
abbrev pub IsMissing : (List ℕ → Option Entry) → List ℕ → Type 0
IsMissing names path = (names path ≡ None) × (above_refusal (kinds_in names) path ≡ None)

-- the status of what stands at the path, under the empty name; none where nothing does
abbrev pub TellsStatus : (List ℕ → Option Entry) → (ℕ → Option BlockEntry) → List ℕ → Option FileStatusMsg → Type 0
TellsStatus names table src (Some status) = TellsAt names table src [] status
TellsStatus names table src None = IsMissing names src

-- the names that a page tells
abbrev pub names_in : DirList → List (List ℕ)
names_in page = map (λ status. status.path) page.partial_listing

-- A page of a directory behind a name: the names in it behind that one are those of the page and then a rest. As many entries remain as the
-- rest has names, and a page without entries has no rest. Each entry is the status of what stands there, under its name.
pub record TellsPage (names : List ℕ → Option Entry) (table : ℕ → Option BlockEntry) (dir from : List ℕ) (page : DirList) : Type 0 where
  pub rest : List (List ℕ)
  pub are : AreNamesBehind names (front_of dir) from (names_in page ++ rest)
  pub told : All (λ status. TellsAt names table (front_of dir ++ status.path) status.path status) page.partial_listing
  pub remaining : page.remaining_entries ≡ length rest
  pub some : page.partial_listing ≡ [] → rest ≡ []

-- of a file there is one entry, without a name, and none remains
pub record TellsAlone (names : List ℕ → Option Entry) (table : ℕ → Option BlockEntry) (src : List ℕ) (page : DirList) : Type 0 where
  pub status : FileStatusMsg
  pub one : page.partial_listing ≡ status ∷ []
  pub told : TellsAt names table src [] status
  pub none : page.remaining_entries ≡ 0

-- of a directory a page is told, and a file is listed alone
abbrev pub TellsEntries : (List ℕ → Option Entry) → (ℕ → Option BlockEntry) → List ℕ → List ℕ → Entry → DirList → Type 0
TellsEntries names table src from entries.Dir page = TellsPage names table src from page
TellsEntries names table src from (entries.File file) page = TellsAlone names table src page

-- what stands at the path is listed behind a name; nothing is where nothing stands there
abbrev pub TellsListing : (List ℕ → Option Entry) → (ℕ → Option BlockEntry) → List ℕ → List ℕ → Option DirList → Type 0
TellsListing names table src from (Some page) = (entry : Entry) × (names src ≡ Some entry) × TellsEntries names table src from entry page
TellsListing names table src from None = IsMissing names src
