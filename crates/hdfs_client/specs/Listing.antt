-- Listing of directories.
use Rattle.std.specs.Prelude.{◌≡◌, ◌⊎◌, ℕ, ◌<◌, Bool, true, false, not, ◌&&◌, List, [], ◌∷◌, ◌++◌, length, Some, Ok}
use Rattle.hdfs_cluster.specs.declared.asks.Ask.{Ask}
use Rattle.hdfs_cluster.specs.declared.asks.Ask.TheVariants as asks
use Rattle.hdfs_cluster.specs.declared.asks.Answer.{Answer}
use Rattle.hdfs_cluster.specs.declared.asks.Answer.TheVariants as answers
use Rattle.hdfs_cluster.specs.declared.errors.HdfsError.TheVariants as errors
use Rattle.hdfs_cluster.specs.declared.messages.DirList.{DirList}
use Rattle.hdfs_cluster.specs.declared.messages.FileStatusMsg.{FileStatusMsg}
use Rattle.hdfs_cluster.specs.Requests.{Request, AskOf}
use Rattle.hdfs_names.specs.Mounts.{first_match}
use Rattle.hdfs_names.specs.Paths.{absolute}
use Rattle.hdfs_names.specs.declared.mounts.MountTable.{MountTable}
use Rattle.hdfs_names.specs.declared.mounts.Resolved.{Resolved}
use Rattle.hdfs_listing.specs.Walking.{has_more, last_name}
use Rattle.hdfs_client.specs.Statuses.{IsStatus}
use Rattle.hdfs_client.specs.declared.errors.ClientError.{ClientError}
use Rattle.hdfs_client.specs.declared.errors.ClientError.TheVariants.{Hdfs, TooMany}
use Rattle.hdfs_client.specs.declared.status.FileStatus.{FileStatus}

-- where a path leads by these mounts
abbrev pub leads_by : MountTable → List ℕ → Resolved → Type 0
leads_by mounts path to = first_match mounts.fallback 0 mounts.mounts (absolute mounts.home_dir path) ≡ Some to

-- a page of what stands at a path, behind this name, was answered
pub record IsAnswered (may_answer : Ask → Answer → Type 0) (mounts : MountTable) (path start : List ℕ) (page : DirList) : Type 0 where
  pub to : Resolved
  pub leads : leads_by mounts path to
  pub answered : may_answer (asks.GetListing to.path start false) (answers.GetListing (Some page))

-- this message stands on a page that was answered of what stands at a path
pub record IsOnPage (may_answer : Ask → Answer → Type 0) (mounts : MountTable) (path : List ℕ) (message : FileStatusMsg) : Type 0 where
  pub start : List ℕ
  pub page : DirList
  pub was : IsAnswered may_answer mounts path start page
  pub before : List FileStatusMsg
  pub behind : List FileStatusMsg
  pub is : page.partial_listing ≡ before ++ message ∷ behind

-- each of these does
abbrev pub AreOnPages : (Ask → Answer → Type 0) → MountTable → List ℕ → List FileStatusMsg → Type 0
AreOnPages may_answer mounts path [] = Unit {0}
AreOnPages may_answer mounts path (message ∷ messages) =
    IsOnPage may_answer mounts path message × AreOnPages may_answer mounts path messages

-- the name behind which a page is asked for: none, or that of an entry on an answered page
abbrev pub IsFrom : (Ask → Answer → Type 0) → MountTable → List ℕ → List ℕ → Type 0
IsFrom may_answer mounts path start =
    (start ≡ []) ⊎ ((message : FileStatusMsg) × IsOnPage may_answer mounts path message × (start ≡ message.path))

-- pages of what stands at a path, each answered behind the last name of the one before
abbrev pub Follow : (Ask → Answer → Type 0) → MountTable → List ℕ → List ℕ → List DirList → Type 0
Follow may_answer mounts path start [] = Unit {0}
Follow may_answer mounts path start (page ∷ pages) =
    IsAnswered may_answer mounts path start page × Follow may_answer mounts path (last_name start page.partial_listing) pages

-- these are all pages: behind each another one is to come, but behind the last
abbrev pub are_all : List DirList → Bool
are_all [] = false
are_all (page ∷ []) = not (has_more page)
are_all (page ∷ pages) = has_more page && are_all pages

-- behind each of these pages but the last another one is to come
abbrev pub lead_on : List DirList → Bool
lead_on [] = true
lead_on (page ∷ []) = true
lead_on (page ∷ pages) = has_more page && lead_on pages

-- what stands on pages, in order
abbrev pub messages_of : List DirList → List FileStatusMsg
messages_of [] = []
messages_of (page ∷ pages) = page.partial_listing ++ messages_of pages

-- messages as statuses, each under the path as it was given
abbrev pub AreEntries : List ℕ → List FileStatusMsg → List FileStatus → Type 0
AreEntries path [] [] = Unit {0}
AreEntries path (message ∷ messages) (status ∷ own) = IsStatus path message (Ok status) × AreEntries path messages own
AreEntries path messages own = ⊥

-- what a directory has: all entries of its pages, from the first to one behind which none remains; of a file, itself
pub record HasAll (may_answer : Ask → Answer → Type 0) (mounts : MountTable) (path : List ℕ) (own : List FileStatus) : Type 0 where
  pub pages : List DirList
  pub follow : Follow may_answer mounts path [] pages
  pub all : are_all pages ≡ true
  pub entries : AreEntries path (messages_of pages) own

-- some of what it has: the first entries of its pages, each of which was to come
pub record HasSome (may_answer : Ask → Answer → Type 0) (mounts : MountTable) (path : List ℕ) (own : List FileStatus) : Type 0 where
  pub pages : List DirList
  pub follow : Follow may_answer mounts path [] pages
  pub on : lead_on pages ≡ true
  pub front : List FileStatusMsg
  pub left : List FileStatusMsg
  pub is : messages_of pages ≡ front ++ left
  pub entries : AreEntries path front own

-- What is found from some entries on, in their order: each, and where `recursive` behind a directory what is found from its own.
pub data Finds (Has : List ℕ → List FileStatus → Type 0) (recursive : Bool) : List FileStatus → List FileStatus → Type 0 where
  nothing : Finds Has recursive [] []
  alone : (status : FileStatus) (others found : List FileStatus) → (recursive && status.isdir) ≡ false → Finds Has recursive others found
      → Finds Has recursive (status ∷ others) (status ∷ found)
  with_own : (status : FileStatus) (own inside others found : List FileStatus) → (recursive && status.isdir) ≡ true → Has status.path own
      → Finds Has recursive own inside → Finds Has recursive others found → Finds Has recursive (status ∷ others) (status ∷ (inside ++ found))

-- what is found from the entries of a path on
pub record Lists (Has : List ℕ → List FileStatus → Type 0) (recursive : Bool) (path : List ℕ) (found : List FileStatus) : Type 0 where
  pub own : List FileStatus
  pub has : Has path own
  pub finds : Finds Has recursive own found

-- a path may be listed: it is the one that was asked for, or a directory that was answered below one of these
pub data IsBelow (Has : List ℕ → List FileStatus → Type 0) (recursive : Bool) (path : List ℕ) : List ℕ → Type 0 where
  asked : IsBelow Has recursive path path
  answered : (dir : List ℕ) (before : List FileStatus) (status : FileStatus) (behind : List FileStatus) → IsBelow Has recursive path dir
      → Has dir (before ++ status ∷ behind) → (recursive && status.isdir) ≡ true → IsBelow Has recursive path status.path

-- leave to list what a path is called where it leads, from whatever name on, without the datanodes
abbrev pub LetsListAt : (Request → Type 0) → MountTable → List ℕ → Type 0
LetsListAt allows mounts path = (to : Resolved) (start : List ℕ) → leads_by mounts path to → allows (AskOf (asks.GetListing to.path start false))

-- leave to list a path, and each directory that is answered below it
abbrev pub LetsList : (Request → Type 0) → (Ask → Answer → Type 0) → MountTable → Bool → List ℕ → Type 0
LetsList allows may_answer mounts recursive path =
    (dir : List ℕ) → IsBelow (HasSome may_answer mounts) recursive path dir → LetsListAt allows mounts dir

-- more than these many were answered
abbrev pub IsMoreThan : (Ask → Answer → Type 0) → MountTable → Bool → List ℕ → ℕ → Type 0
IsMoreThan may_answer mounts recursive path limit =
    (found : List FileStatus) × Lists (HasSome may_answer mounts) recursive path found × (limit < length found)

-- one more can't be put to what was found: that would be too many, and this is why; or there is no memory
abbrev pub IsPutFault : ℕ → Type 0 → ClientError → Type 0
IsPutFault limit why error = ((error ≡ TooMany limit) × why) ⊎ (error ≡ Hdfs errors.NoMemory)
