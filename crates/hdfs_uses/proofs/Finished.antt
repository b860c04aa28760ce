-- Bytes that a writer takes before its file is closed stand behind those that it carries.
use Rattle.std.proofs.Common.{◌≡◌, ℕ, List, [], ◌++◌, Some, None, Result, Ok, Err, inr, sym, ◌∙◌, ap, subst}
use Rattle.std.specs.Prelude.{IfErr, OnOk}
use Rattle.hdfs_cluster.specs.declared.asks.Answer.{Answer}
use Rattle.hdfs_cluster.specs.declared.asks.Ask.{Ask}
use Rattle.hdfs_cluster.specs.declared.asks.AskFault.{AskFault}
use Rattle.hdfs_cluster.specs.declared.errors.HdfsError.{HdfsError}
use Rattle.hdfs_cluster.specs.Files.{File}
use Rattle.hdfs_cluster.specs.Shown.{Shown}
use Rattle.hdfs_cluster.specs.Sound.{IsFileAt}
use Rattle.hdfs_cluster.specs.Stores.{AgreesAt}
use Rattle.hdfs_file_writer.specs.Tails.{FileCarries}
use Rattle.hdfs_file_writer.specs.Writers as files
use Rattle.hdfs_file_writer.specs.declared.file_writer.FileWriter as inner
use Rattle.hdfs_names.specs.declared.mounts.Resolved.{Resolved}
use Rattle.hdfs_client.specs.Writing.{GoesOn, link_in, link_of, open_of}
use Rattle.hdfs_client.specs.declared.client.Client.{Client}
use Rattle.hdfs_client.specs.declared.writing.FileWriter.{FileWriter}
use Rattle.hdfs_uses.specs.Logs.{AppendsAt, AppendsRecord, CreatesAt, CreatesRecord}
use Rattle.hdfs_uses.specs.Writing.{AppendedAt, BegunAgain, BegunNew, CreatedAt, FailsToFinish, Finishes, HasFile}
use Rattle.hdfs_uses.proofs.Cases.{done_so, err_so}

pub finishes : (old mid new : Shown) (writer writer' : FileWriter) (bytes : List ℕ)
    → GoesOn (λ file file'. files.Wrote old file bytes mid file') writer writer'
    → ((file : inner.FileWriter) → open_of writer' ≡ Some file → files.Closed mid file new) → Finishes old writer bytes new
finishes old mid new writer writer' bytes on closed file is p had told carries =
    let at = on file is in
    let wrote : files.Wrote old file bytes mid at.0 = at.2 in
    let more = wrote.carries p had told carries in
    let carried : FileCarries more.0 (files.path_of at.0) (files.tail_of at.0) (had ++ bytes) =
    subst (λ (path : List ℕ). FileCarries more.0 path (files.tail_of at.0) (had ++ bytes)) (sym wrote.keeps.path) more.2 in
    let done = (closed at.0 at.1).closes more.0 (had ++ bytes) more.1 carried in (
      done.0,
      done.1,
      (
        carried.file.attributes,
        subst (λ (path : List ℕ). AgreesAt done.0 (done.0.names path) (Some (File (record { bytes = had ++ bytes; attributes = carried.file.attributes }))))
            wrote.keeps.path done.3,
      ),
    )

module _ {C : Type 0} (shown : C → Shown) (may_answer : Ask → Answer → Type 0) (serves : C → ℕ → Ask → Result Answer AskFault → C → Type 0) (client client' : Client) (path bytes : List ℕ)
    (old mid : C) (new : Shown) (writer : FileWriter) where
  -- a writer that was just made has no link
  pub appended_idle : AppendedAt shown may_answer serves client path old writer client' mid → link_of writer ≡ None
  appended_idle opened = ap link_in opened.opened ∙ opened.opens.opens.fresh.idle

  pub created_idle : CreatedAt shown may_answer serves client path old writer client' mid → link_of writer ≡ None
  created_idle opened = ap link_in opened.opened ∙ opened.opens.creates.fresh.idle

  -- behind a file's bytes
  pub appends_at : AppendedAt shown may_answer serves client path old writer client' mid → BegunAgain client path (shown old) writer client' (shown mid)
      → Finishes (shown mid) writer bytes new → AppendsAt client path (shown old) bytes new
  appends_at opened begun done to leads p file had told named stored =
      let place : begun.to ≡ to = cc (begun.leads, leads) in
      let place' : opened.to ≡ to = cc (opened.leads, leads) in
      let same : begun.file ≡ opened.file = cc (begun.opened, opened.opened) in
      let at : files.path_of begun.file ≡ to.path = ap files.path_of same ∙ opened.opens.opens.fresh.at ∙ ap (λ (r : Resolved). r.path) place' in
      let began = begun.opens p file had told (subst (λ (r : Resolved). IsFileAt p r.path file) (sym place) named) stored in
      let carries = subst (λ (path : List ℕ). FileCarries began.1 path (files.tail_of begun.file) had) (ap (λ (r : Resolved). r.path) place ∙ sym at) began.5 in
      let ends = done begun.file begun.opened began.1 had began.3 carries in
      (ends.0, ends.1, subst (λ (path : List ℕ). HasFile ends.0 path (had ++ bytes)) at ends.2)

  -- in a new file
  pub creates_at : CreatedAt shown may_answer serves client path old writer client' mid → BegunNew client path (shown old) writer client' (shown mid)
      → Finishes (shown mid) writer bytes new → CreatesAt client path (shown old) bytes new
  creates_at opened begun done to leads p told =
      let place : begun.to ≡ to = cc (begun.leads, leads) in
      let place' : opened.to ≡ to = cc (opened.leads, leads) in
      let same : begun.file ≡ opened.file = cc (begun.opened, opened.opened) in
      let at : files.path_of begun.file ≡ to.path = ap files.path_of same ∙ opened.opens.creates.fresh.at ∙ ap (λ (r : Resolved). r.path) place' in
      let began = begun.opens p told in
      let carries = subst (λ (path : List ℕ). FileCarries began.1 path (files.tail_of begun.file) []) (ap (λ (r : Resolved). r.path) place ∙ sym at) began.5 in
      let ends = done begun.file begun.opened began.1 [] began.3 carries in
      (ends.0, ends.1, subst (λ (path : List ℕ). HasFile ends.0 path bytes) at ends.2)

-- the moment of the last call
pub last_of : (old : Shown) (writer : FileWriter) (bytes : List ℕ) (mid : Shown) (result : Result (Unit {0}) HdfsError)
    → IfErr result (λ error. FailsToFinish old writer bytes error mid) → IfErr result (λ error. (last : Shown) × FailsToFinish old writer bytes error last)
last_of old writer bytes mid (Ok value) had = tt
last_of old writer bytes mid (Err error) had = (mid, had)

module _ {C : Type 0} (shown : C → Shown) (may_answer : Ask → Answer → Type 0) (serves : C → ℕ → Ask → Result Answer AskFault → C → Type 0) (client between client' : Client) (path bytes : List ℕ)
    (old mid new : C) (writer : FileWriter) (result : Result (Unit {0}) HdfsError) (done : OnOk result (Finishes (shown mid) writer bytes (shown new)))
    (failed : IfErr result (λ error. (last : Shown) × FailsToFinish (shown mid) writer bytes error last)) where
  -- a record was appended, or why not
  pub appended_by : AppendedAt shown may_answer serves client path old writer between mid → BegunAgain client path (shown old) writer between (shown mid)
      → AppendsRecord shown may_answer serves client path bytes old result client' new
  appended_by opened begun = record {
    ok = done_so (Finishes (shown mid) writer bytes (shown new)) (AppendsAt client path (shown old) bytes (shown new)) result
        (appends_at shown may_answer serves client between path bytes old mid (shown new) writer opened begun) done;
    err = err_so (λ error. (last : Shown) × FailsToFinish (shown mid) writer bytes error last) _ result
        (λ error why. inr (record { writer = writer; between = between; mid = mid; opened = opened; last = why.0; fails = why.1 })) failed;
  }

  -- the same in a new file
  pub created_by : CreatedAt shown may_answer serves client path old writer between mid → BegunNew client path (shown old) writer between (shown mid)
      → CreatesRecord shown may_answer serves client path bytes old result client' new
  created_by opened begun = record {
    ok = done_so (Finishes (shown mid) writer bytes (shown new)) (CreatesAt client path (shown old) bytes (shown new)) result
        (creates_at shown may_answer serves client between path bytes old mid (shown new) writer opened begun) done;
    err = err_so (λ error. (last : Shown) × FailsToFinish (shown mid) writer bytes error last) _ result
        (λ error why. inr (record { writer = writer; between = between; mid = mid; opened = opened; last = why.0; fails = why.1 })) failed;
  }
