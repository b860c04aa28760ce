-- What becomes of a listing: over any cluster, and over a told picture that agrees with a state of files.
use Rattle.std.specs.Prelude.{◌≡◌, ◌⊎◌, ◌<◌, [], ℕ, Bool, false, List, length, map, Option, Some, None, Result, Ok, Err, IsSome, IsUtf8, IfOk, IfErr, Vec}
use Rattle.std.specs.declared.alloc.Global.{Global}
use Rattle.hdfs_cluster.specs.declared.asks.Answer.{Answer}
use Rattle.hdfs_cluster.specs.declared.asks.Answer.TheVariants as answers
use Rattle.hdfs_cluster.specs.declared.asks.Ask.{Ask}
use Rattle.hdfs_cluster.specs.declared.asks.Ask.TheVariants as asks
use Rattle.hdfs_cluster.specs.declared.errors.ArgFault.TheVariants as args
use Rattle.hdfs_cluster.specs.declared.errors.HdfsError.{HdfsError}
use Rattle.hdfs_cluster.specs.declared.errors.HdfsError.TheVariants as errors
use Rattle.hdfs_cluster.specs.declared.messages.DirList.{DirList}
use Rattle.hdfs_cluster.specs.declared.picture.Entry.{Entry}
use Rattle.hdfs_cluster.specs.declared.picture.LastAnswer.TheVariants as last_answers
use Rattle.hdfs_cluster.specs.Failures.{CallsRose}
use Rattle.hdfs_cluster.specs.Files.{IsState, State, kinds_of}
use Rattle.hdfs_cluster.specs.Listing.{IsMissing}
use Rattle.hdfs_cluster.specs.Picture.{Picture, SameButActive}
use Rattle.hdfs_cluster.specs.Refusals.{TooMany, look_refusal}
use Rattle.hdfs_cluster.specs.Shown.{Shown}
use Rattle.hdfs_cluster.specs.Stores.{AgreesAt}
use Rattle.hdfs_model.specs.declared.commands.PathEntry.{PathEntry}
use Rattle.hdfs_model.specs.declared.commands.Reply.TheVariants as replies
use Rattle.hdfs_model.specs.Listings.{IsMoreThan, LacksPage}
use Rattle.hdfs_model.specs.Steps.{Done, Outcome, Refused, entry_at, list_node}
use Rattle.hdfs_namenode.specs.Relaying.{Came, RefusedBy, TellsAsk}
use Rattle.hdfs_listing.specs.Walking.{AreTexts, IsNoText, page_tasks}
use Rattle.hdfs_listing.specs.declared.walk.Task.{Task}

-- the names at which something stands are UTF-8
abbrev pub AreTextNames : (List ℕ → Option Entry) → Type 0
AreTextNames names = (path : List ℕ) → IsSome (names path) → IsUtf8 path

-- a picture that agrees with a state of files
pub record Tells (p : Picture) (state : State) : Type 0 where
  pub texts : AreTextNames p.names
  pub is_state : IsState state
  pub agrees : (r : List ℕ) → AgreesAt p (p.names r) (state.files r)

-- a page of a directory, behind a name, was answered
pub record HasPage (may_answer : Ask → Answer → Type 0) (dir start : List ℕ) (old new : Shown) (page : DirList) : Type 0 where
  pub came : Came old (asks.GetListing dir start false) (Ok (answers.GetListing (Some page))) new
  pub answered : may_answer (asks.GetListing dir start false) (answers.GetListing (Some page))

-- nothing was answered to stand there
pub record HasNone (may_answer : Ask → Answer → Type 0) (dir start : List ℕ) (old new : Shown) : Type 0 where
  pub came : Came old (asks.GetListing dir start false) (Ok (answers.GetListing None)) new
  pub answered : may_answer (asks.GetListing dir start false) (answers.GetListing None)

-- why there is no page: nothing stands there; or the ask has failed; or there was no memory for it
abbrev pub LacksPageFor : (Ask → Answer → Type 0) → List ℕ → List ℕ → List ℕ → Shown → HdfsError → Shown → Type 0
LacksPageFor may_answer given dir start old error new =
    (((error ≡ errors.FileNotFound given) ⊎ (error ≡ errors.NoMemory)) × HasNone may_answer dir start old new)
    ⊎ Came old (asks.GetListing dir start false) (Err error) new

-- a page was put before the rest
pub record IsTurned (may_answer : Ask → Answer → Type 0) (dir start : List ℕ) (rest : List Task) (old new : Shown) (todo : List Task) : Type 0 where
  pub page : DirList
  pub has : HasPage may_answer dir start old new page
  pub tasks : todo ≡ page_tasks dir page rest
  pub texts : AreTexts page.partial_listing

-- why none was: there is none; or one of its names is no text; or there was no memory for it
abbrev pub IsNotTurned : (Ask → Answer → Type 0) → List ℕ → List ℕ → List ℕ → Shown → HdfsError → Shown → Type 0
IsNotTurned may_answer given dir start old error new =
    LacksPageFor may_answer given dir start old error new
    ⊎ ((page : DirList) × HasPage may_answer dir start old new page × ((error ≡ errors.NoMemory) ⊎ IsNoText given page.partial_listing error))

-- What an error says over any cluster: nothing was told to stand at a path that may be listed; a name is no text; more was answered than is
-- allowed; or it is one of an ask.
abbrev pub TellsListing : (Ask → Answer → Type 0) → List ℕ → Bool → List ℕ → ℕ → Shown → HdfsError → Shown → Type 0
TellsListing may_answer given recursive path limit old error new =
    ((error ≡ errors.FileNotFound given) × (new.last ≡ last_answers.Fine) × LacksPage may_answer recursive path)
    ⊎ (error ≡ errors.InvalidPath given)
    ⊎ ((error ≡ errors.InvalidArgument (args.TooMany limit)) × (new.last ≡ last_answers.Fine) × IsMoreThan may_answer recursive path limit)
    ⊎ TellsAsk old new error

-- what of an error is told before any entry is too many
abbrev pub TellsWalk : (Ask → Answer → Type 0) → List ℕ → Bool → List ℕ → Shown → HdfsError → Shown → Type 0
TellsWalk may_answer given recursive path old error new =
    ((error ≡ errors.FileNotFound given) × (new.last ≡ last_answers.Fine) × LacksPage may_answer recursive path)
    ⊎ (error ≡ errors.InvalidPath given)
    ⊎ TellsAsk old new error

-- what a listing of a path comes to over a state
abbrev pub listed : State → List ℕ → Bool → ℕ → Outcome
listed state path recursive limit = list_node state path (look_refusal (kinds_of state.files) path) (state.files path) recursive limit

-- an ask has failed: for want of memory, or since a namenode has
abbrev pub FailsAsk : Shown → HdfsError → Shown → Type 0
FailsAsk old error new = (error ≡ errors.NoMemory) ⊎ (TellsAsk old new error × CallsRose old.counts new)

-- Why it fails over a told picture: an ask has failed, or was refused; or nothing stands there; or there is more than is allowed.
abbrev pub LacksListing : Picture → State → List ℕ → List ℕ → Bool → ℕ → Shown → HdfsError → Shown → Type 0
LacksListing p state given path recursive limit old error new =
    FailsAsk old error new
    ⊎ RefusedBy p (asks.GetListing path [] false) error
    ⊎ ((error ≡ errors.FileNotFound given) × IsMissing p.names path)
    ⊎ ((error ≡ errors.InvalidArgument (args.TooMany limit)) × (listed state path recursive limit ≡ Refused TooMany))

-- A listing over a told picture: the files stay, and its entries are those of the step; or its error has its reason.
pub record Lists (p : Picture) (state : State) (given path : List ℕ) (recursive : Bool) (limit : ℕ) (old new : Shown)
    (result : Result (Vec PathEntry Global) HdfsError) : Type 0 where
  pub q : Picture
  pub now : new.picture ≡ Some q
  pub same : SameButActive p q
  pub ok : IfOk result (λ entries. listed state path recursive limit ≡ Done (replies.Listed entries.items) state)
  pub err : IfErr result (λ error. LacksListing p state given path recursive limit old error new)

-- The entries of these paths were gathered over a told picture, if they are no more than is allowed, and the files stay.
pub record Gathers (p : Picture) (state : State) (paths : List (List ℕ)) (limit : ℕ) (old new : Shown) (result : Result (Vec PathEntry Global) HdfsError)
    : Type 0 where
  pub q : Picture
  pub now : new.picture ≡ Some q
  pub same : SameButActive p q
  pub ok : IfOk result (λ entries. entries.items ≡ map (entry_at state) paths)
  pub err : IfErr result (λ error. FailsAsk old error new
      ⊎ ((error ≡ errors.InvalidArgument (args.TooMany limit)) × (limit < length paths)))
