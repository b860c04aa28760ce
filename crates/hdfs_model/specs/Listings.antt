-- What a listing asks for, and what was answered to it.
use Rattle.std.specs.Prelude.{◌≡◌, ◌≢◌, ℕ, ◌<◌, Bool, true, false, List, [], ◌∷◌, ◌++◌, length, All, Contains, Some, None, IsUtf8}
use Rattle.hdfs_cluster.specs.declared.asks.Answer.{Answer}
use Rattle.hdfs_cluster.specs.declared.asks.Answer.TheVariants as answers
use Rattle.hdfs_cluster.specs.declared.asks.Ask.{Ask}
use Rattle.hdfs_cluster.specs.declared.asks.Ask.TheVariants as asks
use Rattle.hdfs_cluster.specs.declared.messages.DirList.{DirList}
use Rattle.hdfs_cluster.specs.declared.messages.FileStatusMsg.{FileStatusMsg}
use Rattle.hdfs_cluster.specs.Names.{front_of}
use Rattle.hdfs_cluster.specs.Requests.{Request, AskOf}
use Rattle.hdfs_model.specs.declared.commands.PathEntry.{PathEntry}

-- the path of an entry of a directory: of a file that is listed alone, whose entry has no name, the file's own
abbrev pub path_in : List ℕ → List ℕ → List ℕ
path_in dir [] = dir
path_in dir name = front_of dir ++ name

-- a status stands on a page of a directory that was answered
pub record IsOnPage (may_answer : Ask → Answer → Type 0) (dir : List ℕ) (status : FileStatusMsg) : Type 0 where
  pub start : List ℕ
  pub page : DirList
  pub answered : may_answer (asks.GetListing dir start false) (answers.GetListing (Some page))
  pub there : Contains page.partial_listing status

-- A path may be listed: it is the one that was asked for, or where it is wanted a directory on a page of one of these.
pub data IsBelow (may_answer : Ask → Answer → Type 0) (recursive : Bool) (path : List ℕ) : List ℕ → Type 0 where
  asked : IsBelow may_answer recursive path path
  answered : (dir : List ℕ) (status : FileStatusMsg) → IsBelow may_answer recursive path dir → IsOnPage may_answer dir status → recursive ≡ true
      → status.file_type ≡ 1 → IsBelow may_answer recursive path (path_in dir status.path)

-- leave to list a path, and each directory that is answered below it, from whatever name on, without the datanodes
abbrev pub LetsList : (Request → Type 0) → (Ask → Answer → Type 0) → Bool → List ℕ → Type 0
LetsList allows may_answer recursive path =
    (dir start : List ℕ) → IsBelow may_answer recursive path dir → allows (AskOf (asks.GetListing dir start false))

-- nothing was answered to stand at a path that may be listed
pub record LacksPage (may_answer : Ask → Answer → Type 0) (recursive : Bool) (path : List ℕ) : Type 0 where
  pub dir : List ℕ
  pub start : List ℕ
  pub below : IsBelow may_answer recursive path dir
  pub answered : may_answer (asks.GetListing dir start false) (answers.GetListing None)

-- an entry stands on a page of a path that may be listed
pub record IsListedEntry (may_answer : Ask → Answer → Type 0) (recursive : Bool) (path : List ℕ) (entry : PathEntry) : Type 0 where
  pub dir : List ℕ
  pub status : FileStatusMsg
  pub below : IsBelow may_answer recursive path dir
  pub on_page : IsOnPage may_answer dir status
  pub is : entry.path ≡ path_in dir status.path

-- more entries than these were answered
pub record IsMoreThan (may_answer : Ask → Answer → Type 0) (recursive : Bool) (path : List ℕ) (limit : ℕ) : Type 0 where
  pub entries : List PathEntry
  pub answered : All (IsListedEntry may_answer recursive path) entries
  pub more : limit < length entries
