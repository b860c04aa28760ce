-- What a listing has still to do, and which paths that gives over a state of files.
use Rattle.std.specs.Prelude.{◌≡◌, ℕ, nat_lt, ◌==◌, ◌&&◌, Bool, true, false, List, [], ◌∷◌, ◌++◌, length, map, reverse, Contains, Option, Some, IsSome, IsUtf8, if◌then◌else◌}
use Rattle.std.specs.List.{list_any}
use Rattle.hdfs_cluster.specs.declared.asks.Answer.{Answer}
use Rattle.hdfs_cluster.specs.declared.asks.Ask.{Ask}
use Rattle.hdfs_cluster.specs.declared.errors.HdfsError.{HdfsError}
use Rattle.hdfs_cluster.specs.declared.errors.HdfsError.TheVariants as errors
use Rattle.hdfs_cluster.specs.declared.messages.DirList.{DirList}
use Rattle.hdfs_cluster.specs.declared.messages.FileStatusMsg.{FileStatusMsg}
use Rattle.hdfs_cluster.specs.declared.picture.Entry.{Entry}
use Rattle.hdfs_cluster.specs.declared.picture.Entry.TheVariants as entries
use Rattle.hdfs_cluster.specs.Files.{State}
use Rattle.hdfs_cluster.specs.Names.{AreNamesBehind, front_of}
use Rattle.hdfs_names.specs.Paths.{is_slash}
use Rattle.hdfs_model.specs.declared.commands.PathEntry.{PathEntry}
use Rattle.hdfs_model.specs.Listings.{IsBelow, IsListedEntry, path_in}
use Rattle.hdfs_model.specs.Steps.{entry_at}
use Rattle.hdfs_model.specs.Walks.{walk}
use Rattle.hdfs_listing.specs.declared.walk.Task.{Task}
use Rattle.hdfs_listing.specs.declared.walk.Task.TheVariants as tasks
use Rattle.hdfs_listing.specs.declared.walk.Walk.{Walk}

-- what is still to be done, the next first
abbrev pub todo_of : Walk → List Task
todo_of walk = reverse walk.tasks.items

-- an entry of a directory, as a status tells it
abbrev pub entry_in : List ℕ → FileStatusMsg → PathEntry
entry_in dir status = record { path = path_in dir status.path; isdir = status.file_type == 1 }

-- entries of a directory are to be given, before the rest
abbrev pub gives : List ℕ → List FileStatusMsg → List Task → List Task
gives dir [] rest = rest
gives dir (status ∷ statuses) rest = tasks.Give (entry_in dir status) ∷ gives dir statuses rest

-- another page is to come: entries remain behind this one, which has some
abbrev pub has_more : DirList → Bool
has_more page = nat_lt 0 page.remaining_entries && nat_lt 0 (length page.partial_listing)

-- the name behind which the next page begins: the last one of these, or as before
abbrev pub last_name : List ℕ → List FileStatusMsg → List ℕ
last_name start [] = start
last_name start (status ∷ statuses) = last_name status.path statuses

-- the page behind one is to be asked for before the rest, if it is to come
abbrev pub next_task : List ℕ → DirList → List Task → List Task
next_task dir page rest = if has_more page then tasks.Ask dir (last_name [] page.partial_listing) ∷ rest else rest

-- what a page of a directory leaves to be done before the rest
abbrev pub page_tasks : List ℕ → DirList → List Task → List Task
page_tasks dir page rest = gives dir page.partial_listing (next_task dir page rest)

-- what is to be done once an entry is given: a directory's own are next, where that is wanted
abbrev pub entered : Bool → PathEntry → List Task → List Task
entered recursive entry rest = if recursive && entry.isdir then tasks.Ask entry.path [] ∷ rest else rest

-- the names of entries are UTF-8
abbrev pub AreTexts : List FileStatusMsg → Type 0
AreTexts [] = Unit {0}
AreTexts (status ∷ statuses) = IsUtf8 status.path × AreTexts statuses

-- the name of one of these entries isn't UTF-8, and the error says so by the path that was given
abbrev pub IsNoText : List ℕ → List FileStatusMsg → HdfsError → Type 0
IsNoText given statuses error =
    (error ≡ errors.InvalidPath given) × (status : FileStatusMsg) × Contains statuses status × (IsUtf8 status.path → ⊥)

-- a task is one of what was answered to a listing
abbrev pub MayDo : (Ask → Answer → Type 0) → Bool → List ℕ → Task → Type 0
MayDo may_answer recursive path (tasks.Give entry) =
    IsListedEntry may_answer recursive path entry
    × (recursive ≡ true → entry.isdir ≡ true → IsBelow may_answer recursive path entry.path)
MayDo may_answer recursive path (tasks.Ask dir start) = IsBelow may_answer recursive path dir

-- each of these is
abbrev pub AllMayDo : (Ask → Answer → Type 0) → Bool → List ℕ → List Task → Type 0
AllMayDo may_answer recursive path [] = Unit {0}
AllMayDo may_answer recursive path (task ∷ rest) = MayDo may_answer recursive path task × AllMayDo may_answer recursive path rest

-- what lies below a path, where that is wanted
abbrev pub lower : State → Bool → List ℕ → List (List ℕ)
lower state recursive path = if recursive then walk state.files state.paths path true else []

-- each of these paths, and right behind it what lies below it
abbrev pub each_with : State → Bool → List (List ℕ) → List (List ℕ)
each_with state recursive [] = []
each_with state recursive (path ∷ paths) = path ∷ (lower state recursive path ++ each_with state recursive paths)

-- names in a directory as paths
abbrev pub paths_in : List ℕ → List (List ℕ) → List (List ℕ)
paths_in dir names = map (λ name. front_of dir ++ name) names

-- The paths that the tasks give over a state, of which these names tell: an entry its own and those below it, and a page of a directory those
-- behind a name.
abbrev pub IsDue : (List ℕ → Option Entry) → State → Bool → List Task → List (List ℕ) → Type 0
IsDue names state recursive [] paths = paths ≡ []
IsDue names state recursive (tasks.Give entry ∷ rest) paths =
    (entry ≡ entry_at state entry.path) × IsSome (names entry.path) × (others : List (List ℕ))
    × (paths ≡ entry.path ∷ (lower state recursive entry.path ++ others)) × IsDue names state recursive rest others
IsDue names state recursive (tasks.Ask dir start ∷ rest) paths =
    (names dir ≡ Some entries.Dir) × (list_any is_slash start ≡ false) × IsUtf8 start
    × ((found : List (List ℕ)) → AreNamesBehind names (front_of dir) start found → (others : List (List ℕ))
    × (paths ≡ each_with state recursive (paths_in dir found) ++ others) × IsDue names state recursive rest others)
