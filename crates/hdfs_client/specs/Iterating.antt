-- Listings whose entries are given one by one.
use Rattle.std.specs.Prelude.{◌≡◌, ◌⊎◌, ℕ, Bool, true, false, not, ◌&&◌, ◌||◌, List, [], ◌∷◌, ◌++◌, map, reverse, Option, Some, None, Result, Ok, Err}
use Rattle.std.specs.List.{list_all}
use Rattle.hdfs_cluster.specs.declared.asks.Ask.{Ask}
use Rattle.hdfs_cluster.specs.declared.asks.Ask.TheVariants as asks
use Rattle.hdfs_cluster.specs.declared.asks.Answer.{Answer}
use Rattle.hdfs_cluster.specs.declared.asks.Answer.TheVariants as answers
use Rattle.hdfs_cluster.specs.declared.asks.AskFault.{AskFault}
use Rattle.hdfs_cluster.specs.declared.errors.HdfsError.{HdfsError}
use Rattle.hdfs_cluster.specs.declared.errors.HdfsError.TheVariants as errors
use Rattle.hdfs_cluster.specs.declared.messages.DirList.{DirList}
use Rattle.hdfs_cluster.specs.declared.messages.FileStatusMsg.{FileStatusMsg}
use Rattle.hdfs_cluster.specs.Requests.{Request}
use Rattle.hdfs_names.specs.declared.mounts.MountTable.{MountTable}
use Rattle.hdfs_client.specs.Calls.{Gives}
use Rattle.hdfs_client.specs.Listing.{AreEntries, AreOnPages, Finds, Follow, HasAll, HasSome, IsBelow, IsFrom, IsMoreThan, LetsList, LetsListAt, are_all, lead_on, messages_of}
use Rattle.hdfs_client.specs.Statuses.{IsStatus}
use Rattle.hdfs_client.specs.declared.client.Client.{Client}
use Rattle.hdfs_client.specs.declared.errors.ClientError.{ClientError}
use Rattle.hdfs_client.specs.declared.errors.ClientError.TheVariants.{Hdfs, TooMany}
use Rattle.hdfs_client.specs.declared.list_iterator.DirListingIterator.{DirListingIterator}
use Rattle.hdfs_client.specs.declared.list_iterator.ListStatusIterator.{ListStatusIterator}
use Rattle.hdfs_client.specs.declared.status.FileStatus.{FileStatus}

-- ---- one directory

-- What is left of a directory: the name behind which its next page begins, the entries that are held, in order, and whether another page is
-- to come.
pub record Left : Type 0 where
  pub path : List ℕ
  pub start : List ℕ
  pub held : List FileStatusMsg
  pub more : Bool

-- what is left of a directory: the entries that are held, and whether another page is to come
abbrev pub left_of : DirListingIterator → Left
left_of dir = record { path = dir.path; start = dir.start; held = reverse dir.left.items; more = dir.more }

-- all is left, and nothing was asked yet
abbrev pub fresh : List ℕ → Left
fresh path = record { path = path; start = []; held = []; more = true }

-- there are none of these
abbrev pub are_none : List FileStatusMsg → Bool
are_none [] = true
are_none (message ∷ held) = false

-- nothing is left
abbrev pub is_over : Left → Bool
is_over dir = not dir.more && are_none dir.held

-- the next entry takes an ask
abbrev pub wants_page : Left → Bool
wants_page dir = dir.more && are_none dir.held

-- these are all pages that are to come
abbrev pub are_rest : Bool → List DirList → Bool
are_rest true pages = are_all pages
are_rest false [] = true
are_rest false (page ∷ pages) = false

-- all that is left: the entries that are held, and those of all pages that are to come
pub record HasRest (may_answer : Ask → Answer → Type 0) (mounts : MountTable) (dir : Left) (own : List FileStatus) : Type 0 where
  pub pages : List DirList
  pub follow : Follow may_answer mounts dir.path dir.start pages
  pub all : are_rest dir.more pages ≡ true
  pub entries : AreEntries dir.path (dir.held ++ messages_of pages) own

-- some of it: the first of these
pub record HasSomeRest (may_answer : Ask → Answer → Type 0) (mounts : MountTable) (dir : Left) (own : List FileStatus) : Type 0 where
  pub pages : List DirList
  pub follow : Follow may_answer mounts dir.path dir.start pages
  pub on : lead_on pages ≡ true
  pub within : dir.more ≡ false → pages ≡ []
  pub front : List FileStatusMsg
  pub left : List FileStatusMsg
  pub is : dir.held ++ messages_of pages ≡ front ++ left
  pub entries : AreEntries dir.path front own

-- ---- what an iterator gives

-- the entry that was given, if one was
abbrev pub given_by : Option (Result FileStatus HdfsError) → List FileStatus
given_by None = []
given_by (Some (Ok status)) = status ∷ []
given_by (Some (Err error)) = []

-- no error was given
abbrev pub is_sound : Option (Result FileStatus HdfsError) → Bool
is_sound None = true
is_sound (Some (Ok status)) = true
is_sound (Some (Err error)) = false

-- what is so of the error, where there is one
abbrev pub IfFails : Option (Result FileStatus HdfsError) → (HdfsError → Type 0) → Type 0
IfFails None Is = Unit {0}
IfFails (Some (Ok status)) Is = Unit {0}
IfFails (Some (Err error)) Is = Is error

-- what was given is the first of what was to come, and what is to come now is the rest of it
abbrev pub GoesOn : (List FileStatus → Type 0) → Option (Result FileStatus HdfsError) → (List FileStatus → Type 0) → Type 0
GoesOn Old result New = (found : List FileStatus) → New found → Old (given_by result ++ found)

-- A turn of a directory's listing: without an error what is given is the first of all that was left; with one too it is the first of what
-- was answered. Where the entries that were held stood on answered pages, those that are held do, and without an error so does the one behind
-- whose name the next page begins. Behind an error, and where nothing is given, nothing is left.
pub record Turns (may_answer : Ask → Answer → Type 0) (mounts : MountTable) (old : Left) (result : Option (Result FileStatus HdfsError))
    (new : Left) : Type 0 where
  pub path : new.path ≡ old.path
  pub all : is_sound result ≡ true → GoesOn (HasRest may_answer mounts old) result (HasRest may_answer mounts new)
  pub some : GoesOn (HasSomeRest may_answer mounts old) result (HasSomeRest may_answer mounts new)
  pub told : AreOnPages may_answer mounts old.path old.held → AreOnPages may_answer mounts old.path new.held
  pub from : is_sound result ≡ true → IsFrom may_answer mounts old.path old.start → IsFrom may_answer mounts old.path new.start
  pub ends : given_by result ≡ [] → is_over new ≡ true

-- ---- why there is an error

-- the first of these entries can't be given: its name is no text, or there is no memory
abbrev pub IsEntryFault : List ℕ → List FileStatusMsg → HdfsError → Type 0
IsEntryFault path held error =
    (message : FileStatusMsg) × (rest : List FileStatusMsg) × (held ≡ message ∷ rest) × IsStatus path message (Err error)

-- what a caller has of an ask for a page
abbrev pub IsPage : List ℕ → Result (Option DirList) HdfsError → Result DirList HdfsError → Type 0
IsPage path (Ok (Some page)) result = result ≡ Ok page
IsPage path (Ok None) result = (result ≡ Err (errors.FileNotFound path)) ⊎ (result ≡ Err errors.NoMemory)
IsPage path (Err error) result = result ≡ Err error

-- the same of an error behind one: nothing is there, the ask failed, or the page's first entry can't be given
abbrev pub IsPageFault : List ℕ → Result (Option DirList) HdfsError → HdfsError → Type 0
IsPageFault path (Ok (Some page)) error = (error ≡ errors.NoMemory) ⊎ IsEntryFault path page.partial_listing error
IsPageFault path (Ok None) error = (error ≡ errors.FileNotFound path) ⊎ (error ≡ errors.NoMemory)
IsPageFault path (Err cause) error = error ≡ cause

-- an ask for the next page of a directory came to this error, and was the last one: it left this client, and the cluster so
pub record IsAskFault {C : Type 0} (serves : C → ℕ → Ask → Result Answer AskFault → C → Type 0) (client' : Client) (new : C) (dir : Left)
    (error : HdfsError) : Type 0 where
  pub client : Client
  pub old : C
  pub gives : Gives serves false (λ at. asks.GetListing at dir.start false) answers.GetListing client dir.path old client' new
      (λ outcome. IsPageFault dir.path outcome error)

-- why a directory was ended: the last ask was one for its next page, which couldn't be had; or the first entry that is held can't be given,
-- or there was no memory
abbrev pub IsDirFault : {C : Type 0} → (C → ℕ → Ask → Result Answer AskFault → C → Type 0) → Client → C → HdfsError → Left → Type 0
IsDirFault serves client' new error dir =
    IsAskFault serves client' new dir error ⊎ (IsEntryFault dir.path dir.held error ⊎ (error ≡ errors.NoMemory))

-- ---- a directory and those in which it lies

-- the directories that were begun, the innermost first
abbrev pub begun_by : ListStatusIterator → List Left
begun_by iterator = left_of iterator.inner ∷ map left_of (reverse iterator.outer.items)

-- what is found from what is left of a directory, and behind it what is found around it
pub record FindsFirst (Rest Around : List FileStatus → Type 0) (Has : List ℕ → List FileStatus → Type 0) (recursive : Bool)
    (found : List FileStatus) : Type 0 where
  pub own : List FileStatus
  pub rest : Rest own
  pub inside : List FileStatus
  pub finds : Finds Has recursive own inside
  pub outside : List FileStatus
  pub around : Around outside
  pub is : found ≡ inside ++ outside

-- what is found from what is left of some directories, one behind another
abbrev pub AreFound : (Left → List FileStatus → Type 0) → (List ℕ → List FileStatus → Type 0) → Bool → List Left → List FileStatus → Type 0
AreFound Rest Has recursive [] found = found ≡ []
AreFound Rest Has recursive (dir ∷ dirs) found = FindsFirst (Rest dir) (AreFound Rest Has recursive dirs) Has recursive found

-- all that is to come
abbrev pub IsToCome : (Ask → Answer → Type 0) → MountTable → Bool → List Left → List FileStatus → Type 0
IsToCome may_answer mounts = AreFound (HasRest may_answer mounts) (HasAll may_answer mounts)

-- the same, if only some of what is left of each directory is looked at, and some of what each other one has
abbrev pub MayCome : (Ask → Answer → Type 0) → MountTable → Bool → List Left → List FileStatus → Type 0
MayCome may_answer mounts = AreFound (HasSomeRest may_answer mounts) (HasSome may_answer mounts)

-- of each of these nothing is left
abbrev pub HaveNone : (Left → List FileStatus → Type 0) → List Left → Type 0
HaveNone Rest [] = Unit {0}
HaveNone Rest (dir ∷ dirs) = Rest dir [] × HaveNone Rest dirs

-- one directory was ended, for a reason; those around it are what they were, and those within had nothing left
pub record IsCut (may_answer : Ask → Answer → Type 0) (mounts : MountTable) (Why : Left → Type 0) (old new : List Left) : Type 0 where
  pub within : List Left
  pub ended : Left
  pub around : List Left
  pub was : old ≡ within ++ ended ∷ around
  pub none : HaveNone (HasRest may_answer mounts) within
  pub end : Left
  pub is : new ≡ end ∷ around
  pub over : is_over end ≡ true
  pub why : Why ended

-- an entry's directory is begun, where what stands in it is to be given too
abbrev pub entered_by : Bool → FileStatus → List Left → List Left
entered_by true status dirs = fresh status.path ∷ dirs
entered_by false status dirs = dirs

-- the same of what was given, if that is an entry
abbrev pub begun_behind : Bool → Option (Result FileStatus HdfsError) → List Left → List Left
begun_behind recursive None dirs = dirs
begun_behind recursive (Some (Ok status)) dirs = entered_by (recursive && status.isdir) status dirs
begun_behind recursive (Some (Err error)) dirs = dirs

-- One of the directories that were begun had a turn, and what was given is the first of what was answered of it. Those around it are what
-- they were, and the entry's own directory is begun, where what stands in it is to be given too.
pub record HasTurn (may_answer : Ask → Answer → Type 0) (mounts : MountTable) (recursive : Bool) (old : List Left)
    (result : Option (Result FileStatus HdfsError)) (new : List Left) : Type 0 where
  pub within : List Left
  pub dir : Left
  pub around : List Left
  pub was : old ≡ within ++ dir ∷ around
  pub dir' : Left
  pub path : dir'.path ≡ dir.path
  pub some : GoesOn (HasSomeRest may_answer mounts dir) result (HasSomeRest may_answer mounts dir')
  pub told : AreOnPages may_answer mounts dir.path dir.held → AreOnPages may_answer mounts dir.path dir'.held
  pub from : is_sound result ≡ true → IsFrom may_answer mounts dir.path dir.start → IsFrom may_answer mounts dir.path dir'.start
  pub is : new ≡ begun_behind recursive result (dir' ∷ around)

-- A turn of a listing: without an error what is given is the first of all that was to come; with one too it is the first of what may come of
-- what was answered. It is one directory's turn. An error ends one directory alone, for a reason; where nothing is given nothing is left, and
-- where nothing was left nothing is given.
pub record Walks (may_answer : Ask → Answer → Type 0) (mounts : MountTable) (Why : HdfsError → Left → Type 0) (recursive : Bool) (old : List Left)
    (result : Option (Result FileStatus HdfsError)) (new : List Left) : Type 0 where
  pub all : is_sound result ≡ true → GoesOn (IsToCome may_answer mounts recursive old) result (IsToCome may_answer mounts recursive new)
  pub some : GoesOn (MayCome may_answer mounts recursive old) result (MayCome may_answer mounts recursive new)
  pub turn : HasTurn may_answer mounts recursive old result new
  pub none : result ≡ None → list_all is_over new ≡ true
  pub over : list_all is_over old ≡ true → result ≡ None
  pub cut : IfFails result (λ error. IsCut may_answer mounts (Why error) old new)

-- the next entry takes no ask: the innermost directory of which anything is left holds one, or nothing is left at all
abbrev pub asks_none : List Left → Bool
asks_none [] = true
asks_none (dir ∷ dirs) = not (are_none dir.held) || (not dir.more && asks_none dirs)

-- leave to list a directory on, and each directory that is answered below it
pub record LetsRest (allows : Request → Type 0) (may_answer : Ask → Answer → Type 0) (mounts : MountTable) (recursive : Bool) (dir : Left) : Type 0 where
  pub on : LetsListAt allows mounts dir.path
  pub below : (before : List FileStatus) (status : FileStatus) (behind : List FileStatus)
      → HasSomeRest may_answer mounts dir (before ++ status ∷ behind) → (recursive && status.isdir) ≡ true
      → LetsList allows may_answer mounts recursive status.path

-- the same of each of these directories
abbrev pub LetsWalk : (Request → Type 0) → (Ask → Answer → Type 0) → MountTable → Bool → List Left → Type 0
LetsWalk allows may_answer mounts recursive [] = Unit {0}
LetsWalk allows may_answer mounts recursive (dir ∷ dirs) =
    LetsRest allows may_answer mounts recursive dir × LetsWalk allows may_answer mounts recursive dirs

-- ---- why a listing fails

-- A directory to which a listing came was ended by this error: the one at this path, or one that was answered below it. The entries that it
-- held stood on answered pages.
pub record IsEndedBelow {C : Type 0} (serves : C → ℕ → Ask → Result Answer AskFault → C → Type 0) (may_answer : Ask → Answer → Type 0)
    (mounts : MountTable) (recursive : Bool) (path : List ℕ) (client' : Client) (new : C) (error : HdfsError) : Type 0 where
  pub dir : Left
  pub below : IsBelow (HasSome may_answer mounts) recursive path dir.path
  pub told : AreOnPages may_answer mounts dir.path dir.held
  pub why : IsDirFault serves client' new error dir

-- more was answered than the limit; or a directory was ended
abbrev pub IsListFault : {C : Type 0} → (C → ℕ → Ask → Result Answer AskFault → C → Type 0) → (Ask → Answer → Type 0) → MountTable → Bool → List ℕ → ℕ
    → Client → C → ClientError → Type 0
IsListFault serves may_answer mounts recursive path limit client' new error =
    ((error ≡ TooMany limit) × IsMoreThan may_answer mounts recursive path limit)
    ⊎ ((cause : HdfsError) × (error ≡ Hdfs cause) × IsEndedBelow serves may_answer mounts recursive path client' new cause)
