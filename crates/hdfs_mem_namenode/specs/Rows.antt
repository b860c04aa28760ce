-- What a namenode of a cluster in memory answers to an ask about names, and what that changes.
use Rattle.std.specs.Prelude.{◌≡◌, ◌⊎◌, ℕ, Bool, true, IsUtf8, List, [], Option, Some, None, Result, Ok, Err}
use Rattle.hdfs_cluster.specs.declared.asks.Ask.{Ask}
use Rattle.hdfs_cluster.specs.declared.asks.Ask.TheVariants as asks
use Rattle.hdfs_cluster.specs.declared.asks.Answer.{Answer}
use Rattle.hdfs_cluster.specs.declared.asks.Answer.TheVariants as answers
use Rattle.hdfs_cluster.specs.declared.asks.AskFault.{AskFault}
use Rattle.hdfs_cluster.specs.declared.asks.AskFault.TheVariants as faults
use Rattle.hdfs_cluster.specs.declared.picture.Entry.{Entry}
use Rattle.hdfs_cluster.specs.Deleting.{IsNotEmpty}
use Rattle.hdfs_cluster.specs.Files.{Directory}
use Rattle.hdfs_cluster.specs.Namenode.{StandsForAny, StandsForNoFile, not_empty, bad_argument}
use Rattle.hdfs_cluster.specs.Picture.{kinds_in}
use Rattle.hdfs_cluster.specs.Refusals.{above_refusal, look_refusal, mkdirs_refusal}
use Rattle.hdfs_mem_namenode.specs.Adding.{Space}
use Rattle.hdfs_mem_namenode.specs.Changing.{DeletesOrNot, MakesDirectory, SameSpace}
use Rattle.hdfs_mem_namenode.specs.Counting.{Counts}
use Rattle.hdfs_mem_namenode.specs.Listing.{Lists}
use Rattle.hdfs_mem_namenode.specs.Looking.{Informs, TellsAcl}
use Rattle.hdfs_mem_namenode.specs.Renaming.{IsMoveRefusal, MayMove, moved}
use Rattle.hdfs_mem_namenode.specs.Setting.{ChangesFile, ChangesOrNot, with_permission, with_replication}

-- The path of an ask that sets times, an owner or an access control list. None of these are kept.
abbrev pub still_path : Ask → Option (List ℕ)
still_path (asks.SetTimes src mtime atime) = Some src
still_path (asks.SetOwner src owner group) = Some src
still_path (asks.ModifyAclEntries src entries) = Some src
still_path (asks.RemoveAclEntries src entries) = Some src
still_path (asks.RemoveDefaultAcl src) = Some src
still_path (asks.RemoveAcl src) = Some src
still_path (asks.SetAcl src entries) = Some src
still_path ask = None

-- the answer to it
abbrev pub still_answer : Ask → Answer
still_answer (asks.SetTimes src mtime atime) = answers.SetTimes
still_answer (asks.SetOwner src owner group) = answers.SetOwner
still_answer (asks.ModifyAclEntries src entries) = answers.ModifyAclEntries
still_answer (asks.RemoveAclEntries src entries) = answers.RemoveAclEntries
still_answer (asks.RemoveDefaultAcl src) = answers.RemoveDefaultAcl
still_answer (asks.RemoveAcl src) = answers.RemoveAcl
still_answer ask = answers.SetAcl

-- something stands at the path of such an ask, which is answered, and nothing changes
pub record StandsStill (old : Space) (ask : Ask) (answer : Answer) (new : Space) : Type 0 where
  pub src : List ℕ
  pub asked : still_path ask ≡ Some src
  pub entry : Entry
  pub is : old.names src ≡ Some entry
  pub answered : answer ≡ still_answer ask
  pub same : SameSpace old new

-- What stood at a path and below it is deleted, or not. What datanodes hold stays.
pub record Deletes (old : Space) (src : List ℕ) (recursive deleted : Bool) (new : Space) : Type 0 where
  pub done : DeletesOrNot old.names old.table src recursive new.names new.table deleted
  pub held : (node : List ℕ) (id : ℕ) → new.held node id ≡ old.held node id

-- the blocks stay, and so does what datanodes hold
pub record SameBlocks (old new : Space) : Type 0 where
  pub table : (id : ℕ) → new.table id ≡ old.table id
  pub held : (node : List ℕ) (id : ℕ) → new.held node id ≡ old.held node id

-- A closed file has moved onto a free path in a directory, with its blocks.
pub record Renames (old : Space) (src dst : List ℕ) (new : Space) : Type 0 where
  pub may : MayMove (kinds_in old.names) src dst
  pub named : (q : List ℕ) → new.names q ≡ moved old.names src dst q
  pub blocks : SameBlocks old new

-- the row of an ask about names
abbrev pub NamesRow : Space → Ask → Answer → Space → Type 0
NamesRow old (asks.GetFileInfo src) (answers.GetFileInfo status) new =
    Informs old.names old.table src status × SameSpace old new
NamesRow old (asks.GetListing src from located) (answers.GetListing page) new =
    Lists old.names old.table src from page × SameSpace old new
NamesRow old (asks.GetAclStatus src) (answers.GetAclStatus status) new =
    TellsAcl old.names src status × SameSpace old new
NamesRow old (asks.Mkdirs src masked parents) (answers.Mkdirs true) new =
    (mkdirs_refusal (kinds_in old.names) src parents ≡ None) × MakesDirectory old src new
NamesRow old (asks.Delete src recursive) (answers.Delete deleted) new = Deletes old src recursive deleted new
NamesRow old (asks.Rename src dst overwrite) answers.Rename new = Renames old src dst new
NamesRow old (asks.SetPermission src permission) answers.SetPermission new =
    ChangesFile old.names src (with_permission permission) new.names × SameBlocks old new
NamesRow old (asks.SetReplication src replication) (answers.SetReplication done) new =
    ChangesOrNot old.names src (with_replication replication) done new.names × SameBlocks old new
NamesRow old (asks.GetContentSummary path) (answers.GetContentSummary summary) new =
    Counts old.names old.table path summary × SameSpace old new
NamesRow old ask answer new = StandsStill old ask answer new

-- the exception of this class stands for what refuses it at a path
abbrev pub IsLookRefusal : Space → List ℕ → List ℕ → Type 0
IsLookRefusal old src class = StandsForAny (kinds_in old.names src) (look_refusal (kinds_in old.names) src) class

-- the exception of this class stands for a file above a path
abbrev pub IsAboveRefusal : Space → List ℕ → List ℕ → Type 0
IsAboveRefusal old src class = StandsForAny (kinds_in old.names src) (above_refusal (kinds_in old.names) src) class

-- the exception of this class stands for a refusal of an ask about names
abbrev pub NamesRefusal : Space → Ask → List ℕ → Type 0
NamesRefusal old (asks.GetFileInfo src) class = IsAboveRefusal old src class
NamesRefusal old (asks.GetListing src from located) class =
    IsAboveRefusal old src class ⊎ ((IsUtf8 from → ⊥) × (class ≡ bad_argument))
NamesRefusal old (asks.GetAclStatus src) class = IsLookRefusal old src class
NamesRefusal old (asks.Mkdirs src masked parents) class =
    StandsForAny (Some Directory) (mkdirs_refusal (kinds_in old.names) src parents) class
NamesRefusal old (asks.Delete src recursive) class =
    IsAboveRefusal old src class ⊎ (IsNotEmpty old.names src recursive × (class ≡ not_empty))
NamesRefusal old (asks.Rename src dst overwrite) class = IsMoveRefusal (kinds_in old.names) src dst class
NamesRefusal old (asks.SetPermission src permission) class = StandsForNoFile (kinds_in old.names) src class
NamesRefusal old (asks.SetReplication src replication) class = IsLookRefusal old src class
NamesRefusal old (asks.GetContentSummary path) class = IsLookRefusal old path class
NamesRefusal old ask class = (src : List ℕ) × (still_path ask ≡ Some src) × IsLookRefusal old src class

-- The active namenode answers an ask about names by its row, or with an exception that has no message. For that, and for want of memory,
-- nothing changes.
abbrev pub AnswersNames : Space → Ask → Result Answer AskFault → Space → Type 0
AnswersNames old ask (Ok answer) new = NamesRow old ask answer new
AnswersNames old ask (Err faults.NoMemory) new = SameSpace old new
AnswersNames old ask (Err (faults.Exception class message)) new =
    (message ≡ []) × SameSpace old new × NamesRefusal old ask class
AnswersNames old ask (Err fault) new = ⊥
