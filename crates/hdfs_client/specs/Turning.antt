-- A turn of a directory's listing in its parts. No public clause cites this module.
use Rattle.std.specs.Prelude.{◌≡◌, ◌⊎◌, Bool, true, false, List, [], ◌∷◌, Option, Some, None, Result, Ok, Err, ◌++◌, MatchResult}
use Rattle.hdfs_cluster.specs.declared.asks.Ask.{Ask}
use Rattle.hdfs_cluster.specs.declared.asks.Answer.{Answer}
use Rattle.hdfs_cluster.specs.declared.errors.HdfsError.{HdfsError}
use Rattle.hdfs_cluster.specs.declared.errors.HdfsError.TheVariants as errors
use Rattle.hdfs_cluster.specs.declared.messages.DirList.{DirList}
use Rattle.hdfs_cluster.specs.declared.messages.FileStatusMsg.{FileStatusMsg}
use Rattle.hdfs_names.specs.declared.mounts.MountTable.{MountTable}
use Rattle.hdfs_client.specs.Listing.{IsAnswered}
use Rattle.hdfs_listing.specs.Walking.{has_more, last_name}
use Rattle.hdfs_client.specs.Iterating.{HasRest, HaveNone, IfFails, IsEntryFault, Left, Turns, is_over}
use Rattle.hdfs_client.specs.Statuses.{IsStatus}
use Rattle.hdfs_client.specs.declared.status.FileStatus.{FileStatus}

-- these entries are held, and all else is as it was
abbrev pub holding : List FileStatusMsg → Left → Left
holding held dir = record { path = dir.path; start = dir.start; held = held; more = dir.more }

-- nothing is left
abbrev pub ended : Left → Left
ended dir = record { path = dir.path; start = dir.start; held = []; more = false }

-- the entries of this page are held
abbrev pub opened_at : DirList → Left → Left
opened_at page dir =
    record { path = dir.path; start = last_name dir.start page.partial_listing; held = page.partial_listing; more = has_more page }

-- the next page was answered, and its entries are held
pub record IsOpened (may_answer : Ask → Answer → Type 0) (mounts : MountTable) (old new : Left) : Type 0 where
  pub page : DirList
  pub answered : IsAnswered may_answer mounts old.path old.start page
  pub is : new ≡ opened_at page old

-- the same, where a page was wanted; else nothing changes
abbrev pub Opens : (Ask → Answer → Type 0) → MountTable → Bool → Left → Left → Type 0
Opens may_answer mounts true old new = IsOpened may_answer mounts old new
Opens may_answer mounts false old new = new ≡ old

-- what comes of an ask for a page: its entries are held, or there is an error
abbrev pub IsTurned : Left → Result (Option DirList) HdfsError → Result (Unit {0}) HdfsError → Left → Type 0
IsTurned old (Ok (Some page)) result new = MatchResult result (λ _. new ≡ opened_at page old) (λ error. error ≡ errors.NoMemory)
IsTurned old (Ok None) result new = (result ≡ Err (errors.FileNotFound old.path)) ⊎ (result ≡ Err errors.NoMemory)
IsTurned old (Err error) result new = result ≡ Err error

-- the first of the entries that are held is given, or none is, or it can't be and nothing is left
abbrev pub IsGiven : Left → Option (Result FileStatus HdfsError) → Left → Type 0
IsGiven old None new = (old.held ≡ []) × (new ≡ old)
IsGiven old (Some (Ok status)) new =
    (message : FileStatusMsg) × (rest : List FileStatusMsg) × (old.held ≡ message ∷ rest) × IsStatus old.path message (Ok status)
    × (new ≡ holding rest old)
IsGiven old (Some (Err error)) new = IsEntryFault old.path old.held error × (new ≡ ended old)

-- ---- a directory and those in which it lies

-- these directories had nothing left, and behind them are those that stand
pub record IsPassed (may_answer : Ask → Answer → Type 0) (mounts : MountTable) (old new : List Left) : Type 0 where
  pub within : List Left
  pub was : old ≡ within ++ new
  pub none : HaveNone (HasRest may_answer mounts) within

-- the innermost directory that had anything left had a turn; where nothing was given, it is the last one
pub record IsFoundIn (may_answer : Ask → Answer → Type 0) (mounts : MountTable) (Why : HdfsError → Left → Type 0) (old : List Left) (result : Option (Result FileStatus HdfsError))
    (new : List Left) : Type 0 where
  pub dir : Left
  pub around : List Left
  pub passed : IsPassed may_answer mounts old (dir ∷ around)
  pub dir' : Left
  pub is : new ≡ dir' ∷ around
  pub turns : Turns may_answer mounts dir result dir'
  pub last : result ≡ None → around ≡ []
  pub over : is_over dir ≡ true → result ≡ None
  pub fault : IfFails result (λ error. Why error dir)

-- nothing of the innermost directory is left
abbrev pub first_ended : List Left → List Left
first_ended [] = []
first_ended (dir ∷ dirs) = ended dir ∷ dirs
