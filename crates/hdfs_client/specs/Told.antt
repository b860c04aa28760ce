-- What a listing comes to over a told picture: which entries it gives, and why it fails.
use Rattle.std.specs.Prelude.{◌≡◌, ◌⊎◌, ℕ, Bool, false, List, [], ◌∷◌, Option, Some, Result}
use Rattle.hdfs_cluster.specs.declared.asks.Ask.{Ask}
use Rattle.hdfs_cluster.specs.declared.asks.Ask.TheVariants as asks
use Rattle.hdfs_cluster.specs.declared.asks.Answer.{Answer}
use Rattle.hdfs_cluster.specs.declared.asks.Answer.TheVariants as answers
use Rattle.hdfs_cluster.specs.declared.errors.HdfsError.{HdfsError}
use Rattle.hdfs_cluster.specs.declared.errors.HdfsError.TheVariants as errors
use Rattle.hdfs_cluster.specs.declared.messages.DirList.{DirList}
use Rattle.hdfs_cluster.specs.declared.picture.BlockEntry.{BlockEntry}
use Rattle.hdfs_cluster.specs.declared.picture.Entry.{Entry}
use Rattle.hdfs_cluster.specs.Listing.{IsMissing, TellsListing}
use Rattle.hdfs_cluster.specs.Picture.{Picture, SameButActive}
use Rattle.hdfs_cluster.specs.Shown.{Later, Shown}
use Rattle.hdfs_names.specs.declared.mounts.MountTable.{MountTable}
use Rattle.hdfs_names.specs.declared.mounts.Resolved.{Resolved}
use Rattle.hdfs_namenode.specs.Relaying.{RefusedBy}
use Rattle.hdfs_listing.specs.Listing.{FailsAsk}
use Rattle.hdfs_client.specs.Clients.{mounts_of}
use Rattle.hdfs_client.specs.Iterating.{IfFails, IsEntryFault, Left, Turns}
use Rattle.hdfs_client.specs.Listing.{AreOnPages, HasSome, IsAnswered, IsBelow, IsFrom, IsMoreThan, leads_by}
use Rattle.hdfs_client.specs.Writing.{ReachesWhole}
use Rattle.hdfs_client.specs.declared.client.Client.{Client}
use Rattle.hdfs_client.specs.declared.errors.ClientError.{ClientError}
use Rattle.hdfs_client.specs.declared.errors.ClientError.TheVariants.{Hdfs, TooMany}
use Rattle.hdfs_client.specs.declared.status.FileStatus.{FileStatus}

-- ---- pages of a picture

-- a page as these names and this block table tell it; of an ask for anything else there is none
abbrev pub IsPageOf : (List ℕ → Option Entry) → (ℕ → Option BlockEntry) → Ask → Answer → Type 0
IsPageOf names table (asks.GetListing src from located) (answers.GetListing (Some page)) = TellsListing names table src from (Some page)
IsPageOf names table ask answer = ⊥

-- a page as a picture tells it
abbrev pub IsPageIn : Picture → Ask → Answer → Type 0
IsPageIn p = IsPageOf p.names p.table

-- ---- over a told picture

-- a picture is told still, in which but another namenode may be active
pub record IsStill (p : Picture) (old new : Shown) : Type 0 where
  pub q : Picture
  pub now : new.picture ≡ Some q
  pub same : SameButActive p q
  pub later : Later old new

-- where a picture is told it is told still, and this is so of it
abbrev pub WhereTold : Shown → Shown → (Picture → Type 0) → Type 0
WhereTold old new IsSo = (p : Picture) → old.picture ≡ Some p → IsStill p old new × IsSo p

-- each of these directories leads to a whole service
abbrev pub AreWhole : Client → Shown → List Left → Type 0
AreWhole client shown [] = Unit {0}
AreWhole client shown (dir ∷ dirs) = ReachesWhole client dir.path shown × AreWhole client shown dirs

-- a path leads to a whole service, and so does each directory that is answered below it
abbrev pub IsWholeBelow : (Ask → Answer → Type 0) → Bool → Client → List ℕ → Shown → Type 0
IsWholeBelow may_answer recursive client path shown =
    (dir : List ℕ) → IsBelow (HasSome may_answer (mounts_of client)) recursive path dir → ReachesWhole client dir shown

-- ---- why there is an error

-- why a picture has no page of what is called so where a path leads, behind a name: it is refused, or nothing stands there
abbrev pub HasNoPage : Picture → List ℕ → List ℕ → List ℕ → HdfsError → Type 0
HasNoPage p at start path error =
    RefusedBy p (asks.GetListing at start false) error ⊎ ((error ≡ errors.FileNotFound path) × IsMissing p.names at)

-- the first entry of a directory's next page can't be given
abbrev pub IsNextFault : Picture → MountTable → Left → HdfsError → Type 0
IsNextFault p mounts dir error =
    (page : DirList) × IsAnswered (IsPageIn p) mounts dir.path dir.start page × IsEntryFault dir.path page.partial_listing error

-- Why a directory was ended over a picture: an ask has failed; or there is no page where its path leads; or an entry can't be given, the first
-- that is held or the first of the next page.
abbrev pub IsEndedIn : Picture → MountTable → Shown → Shown → HdfsError → Left → Type 0
IsEndedIn p mounts old new error dir =
    FailsAsk old error new
    ⊎ ((to : Resolved) × leads_by mounts dir.path to × HasNoPage p to.path dir.start dir.path error)
    ⊎ IsEntryFault dir.path dir.held error
    ⊎ IsNextFault p mounts dir error

-- ---- what a listing gives

-- a turn of a directory's listing over a picture
pub record TurnsIn (p : Picture) (mounts : MountTable) (s t : Shown) (old : Left) (result : Option (Result FileStatus HdfsError)) (new : Left)
    : Type 0 where
  pub turns : Turns (IsPageIn p) mounts old result new
  pub fault : IfFails result (λ error. IsEndedIn p mounts s t error old)

-- A directory to which a listing came was ended by this error: the one at this path, or one that the picture tells below it. What it held
-- stands on pages of the picture, and so does the entry behind whose name its next page was to begin.
pub record IsEndedBelowIn (p : Picture) (mounts : MountTable) (recursive : Bool) (path : List ℕ) (s t : Shown) (error : HdfsError)
    : Type 0 where
  pub dir : Left
  pub below : IsBelow (HasSome (IsPageIn p) mounts) recursive path dir.path
  pub told : AreOnPages (IsPageIn p) mounts dir.path dir.held
  pub from : IsFrom (IsPageIn p) mounts dir.path dir.start
  pub why : IsEndedIn p mounts s t error dir

-- why a listing fails over a picture: it tells more than is allowed; or a directory was ended
abbrev pub IsListFaultIn : Picture → MountTable → Bool → List ℕ → ℕ → Shown → Shown → ClientError → Type 0
IsListFaultIn p mounts recursive path limit s t error =
    ((error ≡ TooMany limit) × IsMoreThan (IsPageIn p) mounts recursive path limit)
    ⊎ ((cause : HdfsError) × (error ≡ Hdfs cause) × IsEndedBelowIn p mounts recursive path s t cause)
