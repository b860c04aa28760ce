-- What an ask about names is answered, and that a cluster may answer so: by the row of the ask, where it has one; and all that an answer
-- changes are names and blocks.
use Rattle.std.proofs.Common.{◌≡◌, ◌⊎◌, inl, inr, ⊎_elim, ℕ, Bool, true, false, List, Some, None, Result, Ok, Err, IsErr, refl, subst}
use Rattle.std.proofs.lemmas.Bool.{false≢true}
use Rattle.hdfs_cluster.specs.declared.asks.Ask.{Ask}
use Rattle.hdfs_cluster.specs.declared.asks.Ask.TheVariants as asks
use Rattle.hdfs_cluster.specs.declared.asks.Answer.{Answer}
use Rattle.hdfs_cluster.specs.declared.asks.Answer.TheVariants as answers
use Rattle.hdfs_cluster.specs.declared.asks.AskFault.{AskFault}
use Rattle.hdfs_cluster.specs.declared.asks.AskFault.TheVariants as faults
use Rattle.hdfs_cluster.specs.declared.picture.Entry.{Entry}
use Rattle.hdfs_cluster.specs.Effects.{KeepsBytes}
use Rattle.hdfs_cluster.specs.Files.{Directory}
use Rattle.hdfs_cluster.specs.Namenode.{IsOwnOf, IsRefusal, Row, ServesTold, StandsForAny}
use Rattle.hdfs_cluster.specs.Picture.{Picture, SameButActive, SamePicture, kinds_in}
use Rattle.hdfs_cluster.specs.Refusals.{look_refusal, mkdirs_refusal}
use Rattle.hdfs_mem_namenode.specs.Adding.{Space}
use Rattle.hdfs_mem_namenode.specs.Answering.{AnswersAbout, StandsForRefusal, StandsForWritten, space_in}
use Rattle.hdfs_mem_namenode.specs.Changing.{SameSpace, StandsForKept}
use Rattle.hdfs_mem_namenode.specs.Renaming.{StandsForUnmoved}
use Rattle.hdfs_mem_namenode.specs.Rows.{AnswersNames, NamesRefusal, NamesRow, StandsStill, still_answer, still_path}
use Rattle.hdfs_mem_namenode.proofs.Telling.{tells_listing, tells_status}

pub same_space : (old : Space) → SameSpace old old
same_space old = record { names = λ path. refl; table = λ id. refl; held = λ node id. refl }

module _ (old : Space) (src : List ℕ) where
  -- an ask that sets what isn't kept is answered
  pub still_row : (ask : Ask) → still_path ask ≡ Some src → (entry : Entry) → old.names src ≡ Some entry → NamesRow old ask (still_answer ask) old
  still_row (asks.GetFileInfo path) at entry is = absurd (cc)
  still_row (asks.GetListing path from located) at entry is = absurd (cc)
  still_row (asks.GetAclStatus path) at entry is = absurd (cc)
  still_row (asks.Mkdirs path masked parents) at entry is = absurd (cc)
  still_row (asks.Delete path recursive) at entry is = absurd (cc)
  still_row (asks.Rename path dst overwrite) at entry is = absurd (cc)
  still_row (asks.SetPermission path permission) at entry is = absurd (cc)
  still_row (asks.SetReplication path replication) at entry is = absurd (cc)
  still_row (asks.GetContentSummary path) at entry is = absurd (cc)
  still_row ask at entry is = record { src = src; asked = at; entry = entry; is = is; answered = refl; same = same_space old }

  pub still_refused : (ask : Ask) (class : List ℕ) → still_path ask ≡ Some src → StandsForAny (kinds_in old.names src) (look_refusal (kinds_in old.names) src) class → NamesRefusal old ask class
  still_refused (asks.GetFileInfo path) class at stands = absurd (cc)
  still_refused (asks.GetListing path from located) class at stands = absurd (cc)
  still_refused (asks.GetAclStatus path) class at stands = absurd (cc)
  still_refused (asks.Mkdirs path masked parents) class at stands = absurd (cc)
  still_refused (asks.Delete path recursive) class at stands = absurd (cc)
  still_refused (asks.Rename path dst overwrite) class at stands = absurd (cc)
  still_refused (asks.SetPermission path permission) class at stands = absurd (cc)
  still_refused (asks.SetReplication path replication) class at stands = absurd (cc)
  still_refused (asks.GetContentSummary path) class at stands = absurd (cc)
  still_refused ask class at stands = (src, at, stands)

-- what an ask has a row of is none of those that set what isn't kept
not_still : (old new : Space) (ask : Ask) (answer : Answer) → still_path ask ≡ None → StandsStill old ask answer new → ⊥
not_still old new ask answer none h = absurd (cc (none, h.asked))

-- what refuses a directory, or keeps one
module _ (old new : Space) (same : SameSpace old new) (src : List ℕ) where
  pub err_made : (masked : ℕ) (parents : Bool) (fault : AskFault) → StandsForWritten (Some Directory) (mkdirs_refusal (kinds_in old.names) src parents) fault → AnswersNames old (asks.Mkdirs src masked parents) (Err fault) new
  err_made masked parents faults.NoMemory h = same
  err_made masked parents faults.Broken h = absurd h
  err_made masked parents (faults.BadReply fault) h = absurd h
  err_made masked parents (faults.Exception class message) h = (h.1, same, h.0)
  err_made masked parents (faults.Fatal class message) h = absurd h

  pub err_kept : (recursive : Bool) (fault : AskFault) → StandsForKept old.names src recursive fault → AnswersNames old (asks.Delete src recursive) (Err fault) new
  err_kept recursive faults.NoMemory h = same
  err_kept recursive faults.Broken h = absurd h
  err_kept recursive (faults.BadReply fault) h = absurd h
  err_kept recursive (faults.Exception class message) h = (h.1, same, h.0)
  err_kept recursive (faults.Fatal class message) h = absurd h

-- why no file moves, or why none has its permission set
module _ (old new : Space) (same : SameSpace old new) (src : List ℕ) where
  pub err_moved : (dst : List ℕ) (overwrite : Bool) (fault : AskFault) → StandsForUnmoved (kinds_in old.names) src dst fault → AnswersNames old (asks.Rename src dst overwrite) (Err fault) new
  err_moved dst overwrite faults.NoMemory h = same
  err_moved dst overwrite faults.Broken h = absurd h
  err_moved dst overwrite (faults.BadReply fault) h = absurd h
  err_moved dst overwrite (faults.Exception class message) h = (h.1, same, h.0)
  err_moved dst overwrite (faults.Fatal class message) h = absurd h

  pub err_permission : (permission : ℕ) (fault : AskFault) → StandsForRefusal (kinds_in old.names) src fault → AnswersNames old (asks.SetPermission src permission) (Err fault) new
  err_permission permission faults.NoMemory h = same
  err_permission permission faults.Broken h = absurd h
  err_permission permission (faults.BadReply fault) h = absurd h
  err_permission permission (faults.Exception class message) h = (h.3, same, (h.0, h.1, h.2))
  err_permission permission (faults.Fatal class message) h = absurd h

  pub err_replication : (replication : ℕ) (fault : AskFault) → StandsForWritten (kinds_in old.names src) (look_refusal (kinds_in old.names) src) fault
      → AnswersNames old (asks.SetReplication src replication) (Err fault) new
  err_replication replication faults.NoMemory h = same
  err_replication replication faults.Broken h = absurd h
  err_replication replication (faults.BadReply fault) h = absurd h
  err_replication replication (faults.Exception class message) h = (h.1, same, h.0)
  err_replication replication (faults.Fatal class message) h = absurd h

-- where no answer comes, nothing changed
module _ (p q : Picture) (bytes : KeepsBytes p q) (active : q.active ≡ p.active) where
  same_but : SameSpace (space_in p) (space_in q) → SameButActive p q
  same_but same = record { files = record { names = same.names; table = same.table; held = bytes.held; defaults = bytes.defaults }; reads = bytes.reads; writes = bytes.writes }

  same_picture : SameSpace (space_in p) (space_in q) → SamePicture p q
  same_picture same = record { rest = same_but same; active = active }

  still_err : (ask : Ask) (result : Result Answer AskFault) → IsErr result → AnswersNames (space_in p) ask result (space_in q) → SamePicture p q
  still_err ask (Ok answer) is h = absurd (false≢true is)
  still_err ask (Err faults.NoMemory) is h = same_picture h
  still_err ask (Err faults.Broken) is h = absurd h
  still_err ask (Err (faults.BadReply fault)) is h = absurd h
  still_err ask (Err (faults.Exception class message)) is h = same_picture h.1
  still_err ask (Err (faults.Fatal class message)) is h = absurd h

  -- an answer is by the row of its ask, or it is one of the implementation's own to an ask that has no row
  row_or_own : (ask : Ask) (answer : Answer) → NamesRow (space_in p) ask answer (space_in q) → Row p ask answer q ⊎ IsOwnOf ask p q
  row_or_own (asks.GetFileInfo src) (answers.GetFileInfo status) h = inl (tells_status p.names p.table src status h.0, same_but h.1)
  row_or_own (asks.GetFileInfo src) answer h = absurd (not_still (space_in p) (space_in q) (asks.GetFileInfo src) answer refl h)
  row_or_own (asks.GetListing src from located) (answers.GetListing page) h = inl (tells_listing p.names p.table src from page h.0, same_but h.1)
  row_or_own (asks.GetListing src from located) answer h = absurd (not_still (space_in p) (space_in q) (asks.GetListing src from located) answer refl h)
  row_or_own (asks.Mkdirs src masked parents) (answers.Mkdirs true) h = inl (h.0, record { names = h.1.names; table = h.1.table; bytes = bytes })
  row_or_own (asks.Mkdirs src masked parents) (answers.Mkdirs false) h = absurd (not_still (space_in p) (space_in q) (asks.Mkdirs src masked parents) (answers.Mkdirs false) refl h)
  row_or_own (asks.Mkdirs src masked parents) answer h = absurd (not_still (space_in p) (space_in q) (asks.Mkdirs src masked parents) answer refl h)
  row_or_own (asks.Delete src recursive) (answers.Delete true) h = inl (h.done, bytes)
  row_or_own (asks.Delete src recursive) (answers.Delete false) h =
      inl (h.done.0, same_but (record { names = h.done.1; table = h.done.2; held = h.held }))
  row_or_own (asks.Delete src recursive) answer h = absurd (not_still (space_in p) (space_in q) (asks.Delete src recursive) answer refl h)
  row_or_own (asks.GetBlockLocations src offset length) answer h = absurd (not_still (space_in p) (space_in q) (asks.GetBlockLocations src offset length) answer refl h)
  row_or_own asks.GetServerDefaults answer h = absurd (not_still (space_in p) (space_in q) asks.GetServerDefaults answer refl h)
  row_or_own (asks.Create ask) answer h =
      absurd (not_still (space_in p) (space_in q) (asks.Create ask) answer refl h)
  row_or_own (asks.Append src client flag) answer h = absurd (not_still (space_in p) (space_in q) (asks.Append src client flag) answer refl h)
  row_or_own (asks.AddBlock ask) answer h = absurd (not_still (space_in p) (space_in q) (asks.AddBlock ask) answer refl h)
  row_or_own (asks.AbandonBlock ask) answer h = absurd (not_still (space_in p) (space_in q) (asks.AbandonBlock ask) answer refl h)
  row_or_own (asks.Complete ask) answer h = absurd (not_still (space_in p) (space_in q) (asks.Complete ask) answer refl h)
  row_or_own (asks.UpdateBlockForPipeline block client) answer h = absurd (not_still (space_in p) (space_in q) (asks.UpdateBlockForPipeline block client) answer refl h)
  row_or_own (asks.GetAdditionalDatanode ask) answer h =
      absurd (not_still (space_in p) (space_in q) (asks.GetAdditionalDatanode ask) answer refl h)
  row_or_own (asks.UpdatePipeline ask) answer h = absurd (not_still (space_in p) (space_in q) (asks.UpdatePipeline ask) answer refl h)
  row_or_own (asks.RenewLease client namespaces) answer h = absurd (not_still (space_in p) (space_in q) (asks.RenewLease client namespaces) answer refl h)
  row_or_own asks.Msync answer h = absurd (not_still (space_in p) (space_in q) asks.Msync answer refl h)
  row_or_own asks.GetHaServiceState answer h = absurd (not_still (space_in p) (space_in q) asks.GetHaServiceState answer refl h)
  row_or_own ask answer h = inr (tt, bytes)

  -- and so is an exception
  refusal_or_own : (ask : Ask) (class : List ℕ) → NamesRefusal (space_in p) ask class → IsRefusal p ask class ⊎ IsOwnOf ask p q
  refusal_or_own (asks.GetFileInfo src) class h = inl h
  refusal_or_own (asks.GetListing src from located) class h = inl h
  refusal_or_own (asks.Mkdirs src masked parents) class h = inl h
  refusal_or_own (asks.Delete src recursive) class h = inl h
  refusal_or_own (asks.GetBlockLocations src offset length) class h = (let is = h.1 in absurd (cc))
  refusal_or_own asks.GetServerDefaults class h = (let is = h.1 in absurd (cc))
  refusal_or_own (asks.Create ask) class h = (let is = h.1 in absurd (cc))
  refusal_or_own (asks.Append src client flag) class h = (let is = h.1 in absurd (cc))
  refusal_or_own (asks.AddBlock ask) class h = (let is = h.1 in absurd (cc))
  refusal_or_own (asks.AbandonBlock ask) class h = (let is = h.1 in absurd (cc))
  refusal_or_own (asks.Complete ask) class h = (let is = h.1 in absurd (cc))
  refusal_or_own (asks.UpdateBlockForPipeline block client) class h = (let is = h.1 in absurd (cc))
  refusal_or_own (asks.GetAdditionalDatanode ask) class h = (let is = h.1 in absurd (cc))
  refusal_or_own (asks.UpdatePipeline ask) class h = (let is = h.1 in absurd (cc))
  refusal_or_own (asks.RenewLease client namespaces) class h = (let is = h.1 in absurd (cc))
  refusal_or_own asks.Msync class h = (let is = h.1 in absurd (cc))
  refusal_or_own asks.GetHaServiceState class h = (let is = h.1 in absurd (cc))
  refusal_or_own ask class h = inr (tt, bytes)

module _ (p q : Picture) (i : ℕ) (ask : Ask) (result : Result Answer AskFault) (h : AnswersAbout p i ask result q) where
  pub about_still : IsErr result → SamePicture p q
  about_still is = still_err p q h.bytes h.active ask result is h.row

-- an answer to an ask about names is by its row, or one of the implementation's own
pub about_done : (p q : Picture) (i : ℕ) (ask : Ask) (answer : Answer) → AnswersAbout p i ask (Ok answer) q → Row p ask answer q ⊎ IsOwnOf ask p q
about_done p q i ask answer h = row_or_own p q h.bytes h.active ask answer h.row

pub serves_about : (risen : Type 0) (p q : Picture) (i : ℕ) (ask : Ask) (result : Result Answer AskFault) → AnswersAbout p i ask result q → ServesTold risen p i ask result q
serves_about risen p q i ask (Ok answer) h = inl (inl h.here, inl h.active, about_done p q i ask answer h)
serves_about risen p q i ask (Err faults.NoMemory) h = (h.active, inl (same_but p q h.bytes h.active h.row))
serves_about risen p q i ask (Err (faults.Exception class message)) h =
    ⊎_elim
    (λ refusal. inr (inl (h.here, refusal, same_picture p q h.bytes h.active h.row.1)))
    (λ own. inr (inr (inl (h.here, h.active, own))))
    (refusal_or_own p q h.bytes h.active ask class h.row.2)
serves_about risen p q i ask (Err faults.Broken) h = absurd h.row
serves_about risen p q i ask (Err (faults.BadReply fault)) h = absurd h.row
serves_about risen p q i ask (Err (faults.Fatal class message)) h = absurd h.row

-- none of them says that a file isn't closed
still_closed : (ask : Ask) → answers.Complete false ≡ still_answer ask → ⊥
still_closed (asks.SetTimes src mtime atime) is = cc
still_closed (asks.SetOwner src owner group) is = cc
still_closed (asks.ModifyAclEntries src entries) is = cc
still_closed (asks.RemoveAclEntries src entries) is = cc
still_closed (asks.RemoveDefaultAcl src) is = cc
still_closed (asks.RemoveAcl src) is = cc
still_closed ask is = cc

row_closed : (old new : Space) (ask : Ask) → NamesRow old ask (answers.Complete false) new → ⊥
row_closed old new (asks.GetFileInfo src) h = (let is = h.asked in absurd (cc))
row_closed old new (asks.GetListing src from located) h = (let is = h.asked in absurd (cc))
row_closed old new (asks.GetAclStatus src) h = (let is = h.asked in absurd (cc))
row_closed old new (asks.Mkdirs src masked parents) h = (let is = h.asked in absurd (cc))
row_closed old new (asks.Delete src recursive) h = (let is = h.asked in absurd (cc))
row_closed old new (asks.Rename path dst overwrite) h = (let is = h.asked in absurd (cc))
row_closed old new (asks.SetPermission path permission) h = (let is = h.asked in absurd (cc))
row_closed old new (asks.SetReplication path replication) h = (let is = h.asked in absurd (cc))
row_closed old new (asks.GetContentSummary path) h = (let is = h.asked in absurd (cc))
row_closed old new ask h = still_closed ask h.answered

pub about_not_false : (p q : Picture) (i : ℕ) (ask : Ask) (answer : Answer) → AnswersAbout p i ask (Ok answer) q → answer ≡ answers.Complete false → ⊥
about_not_false p q i ask answer h is = row_closed (space_in p) (space_in q) ask (subst (λ (a : Answer). NamesRow (space_in p) ask a (space_in q)) is h.row)
