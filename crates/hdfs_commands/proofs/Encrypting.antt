-- An append that is refused since the file is encrypted: it was opened, and may be closed again.
use Rattle.std.proofs.Common.{◌≡◌, ◌≢◌, inl, inr, ⊎_elim, ℕ, true, false, is_some, List, Option, Some, None, Result, Ok, Err, refl, sym, ◌∙◌, ap, subst}
use Rattle.std.proofs.lemmas.Bool.{false≢true}
use Rattle.hdfs_cluster.specs.declared.asks.Answer.TheVariants as answers
use Rattle.hdfs_model.specs.declared.commands.Command.TheVariants as commands
use Rattle.hdfs_cluster.specs.declared.errors.HdfsError.{HdfsError}
use Rattle.hdfs_cluster.specs.declared.messages.Appended.{Appended}
use Rattle.hdfs_cluster.specs.declared.messages.FileStatusMsg.{FileStatusMsg}
use Rattle.hdfs_cluster.specs.declared.messages.ServerDefaults.{ServerDefaults}
use Rattle.hdfs_model.specs.Causes.{Cause, IsEncryptedAt, Tells}
use Rattle.hdfs_model.specs.Owing.{IsNotOwed}
use Rattle.hdfs_cluster.specs.Files.{State}
use Rattle.hdfs_cluster.specs.Picture.{Picture}
use Rattle.hdfs_model.specs.Sessions.{is_before_asking, spared}
use Rattle.hdfs_cluster.specs.Shown.{Later, SameNodes, SameReads, Shown}
use Rattle.hdfs_cluster.specs.Sound.{IsSound}
use Rattle.hdfs_cluster.specs.Stores.{AgreesBut}
use Rattle.hdfs_cluster.proofs.Frames.{later_trans, same_reads_trans}
use Rattle.hdfs_file_writer.specs.OnlyFiles.{OnlyFile}
use Rattle.hdfs_file_writer.specs.Tails.{FileCarries}
use Rattle.hdfs_file_writer.specs.declared.tails.Tail.{Tail}
use Rattle.hdfs_file_writer.specs.Writers as files
use Rattle.hdfs_file_writer.specs.declared.file_writer.FileWriter.{FileWriter}
use Rattle.hdfs_file_writer.proofs.Others.{agrees_others, carries_others}
use Rattle.hdfs_commands.specs.Acting.{IsReady, world_at}
use Rattle.hdfs_commands.specs.Refusing.{IsAnsweredSo}
use Rattle.hdfs_commands.specs.Session.{CarriesFile, CarriesOpen, writer_of}
use Rattle.hdfs_commands.specs.declared.session.Session.{Session}
use Rattle.hdfs_commands.proofs.Acted.{idle_acts, reads_same, spares_but}
use Rattle.hdfs_commands.proofs.Failing.{append_still, others_open}
use Rattle.hdfs_file_reader.proofs.Looking.{looks_from-Leaves, looks_trans}
use Rattle.hdfs_commands.proofs.OneFile.{apart_by_test}
use Rattle.hdfs_namenode.specs.Relaying.{Came}
use Rattle.hdfs_namenode.specs.Clients.{name_of}
use Rattle.hdfs_namenode.specs.Views.{Whole}
use Rattle.hdfs_opening.specs.Opening.{ClosesAgain}
use Rattle.hdfs_opening.proofs.Written.{OwnLink, own_link-seen, own_nothing}
use Rattle.hdfs_cluster.specs.declared.asks.Answer.{Answer}
use Rattle.hdfs_cluster.specs.declared.asks.Ask.{Ask}
use Rattle.hdfs_model.specs.Opening.{tells_encryption}
use Rattle.hdfs_commands.specs.Executing.{Executes}
use Rattle.hdfs_commands.specs.Whole.{KeepsWhole}
use Rattle.hdfs_commands.proofs.Beginning.{AsksFile, append_asks, GoesOn, IsRefusal, fails_executes, reopening}
use Rattle.hdfs_commands.proofs.Starting.{OpensFile, Told, appended_opens, told_at}
use Rattle.hdfs_commands.proofs.WholeBeside.{keeps_failed, stays_elsewhere}
use Rattle.hdfs_commands.proofs.WholeOpening.{stays_files, stays_trans}

-- asks that leave all links, and of a told picture all but a writer's file
pub record OnlyTouches (old : Shown) (writer : FileWriter) (new : Shown) : Type 0 where
  pub later : Later old new
  pub reads : SameReads old new
  pub writes : (link : ℕ) → new.writes link ≡ old.writes link
  pub nodes : SameNodes old new
  pub touches : files.TouchesFile old writer new

-- what a close has done whose writer kept no link
pub only_touches : (old new : Shown) (writer : FileWriter) (result : Result (Unit {0}) HdfsError) → files.link_of writer ≡ None → ClosesAgain old writer result new
    → SameNodes old new → OnlyTouches old writer new
only_touches old new writer result linkless closes nodes = by result closes
  where
    leaving : files.OnlyOwnLink old (files.link_of writer) new None → files.TouchesFile old writer new → OnlyTouches old writer new
    leaving own touches = record {
      later = own.later;
      reads = own.reads;
      writes = own_nothing (subst (λ (link : Option ℕ). OwnLink old link new None) linkless (own_link-seen Whole old new own));
      nodes = nodes;
      touches = touches;
    }

    by : (r : Result (Unit {0}) HdfsError) → ClosesAgain old writer r new → OnlyTouches old writer new
    by (Ok done) c =
        let closed = c.closed in
        leaving closed.own (λ p bytes told carries. (let on = closed.closes p bytes told carries in (on.0, on.1, on.2)))
    by (Err error) c = let fails = c.failed in leaving fails.own fails.touches

-- an append that is refused
module _ {may_answer : Ask → Answer → Type 0} {name : List ℕ} {s m t u : Shown} {session session' : Session} {path : List ℕ} {d : ServerDefaults} (a : AsksFile (commands.Append name) s m session path d)
    {writer : FileWriter} {appended : Appended} {stat : FileStatusMsg} (is : appended.stat ≡ Some stat) (at : files.path_of writer ≡ path) (stands : files.tail_of writer ≡ files.tail_opened appended.block None)
    (came : Came m (reopening a) (Ok (answers.Append appended)) t) (sound : (p : Picture) → t.picture ≡ Some p → IsSound p) (touches : OnlyTouches t writer u) (goes : GoesOn may_answer session session') where
  -- nothing but the file has changed since
  module _ (state : State) (ready : IsReady s session state (commands.Append name)) where
    abbrev h : Told (world_at session s) state s m path d
    h = told_at a state ready

    abbrev o : OpensFile h t (commands.Append name) (files.tail_opened appended.block None) (reopening a) stat
    o = appended_opens h (name_of session.namenode) a.begins.called is came

    behind : (q : Picture) × (u.picture ≡ Some q) × OnlyFile path o.q q
    behind =
        let own = subst (λ (x : Tail). FileCarries o.q path x o.content.bytes) (sym stands) o.begun.own in
        let on = touches.touches o.q o.content.bytes o.now (subst (λ (r : List ℕ). FileCarries o.q r (files.tail_of writer) o.content.bytes) (sym at) own) in
        (on.0, on.1, subst (λ (r : List ℕ). OnlyFile r o.q on.0) at on.2)

    agrees : (error : HdfsError) → is_before_asking error ≡ false → AgreesBut (spared (world_at session s) state (commands.Append name) error) u.picture state.files
    agrees error late =
        spares_but (world_at session s) state (commands.Append name) error path u.picture behind.0 a.begins.called late behind.1
        (λ r free. agrees_others path o.q behind.0 (sound o.q o.now) behind.2 r (state.files r) (apart_by_test path r free) (((append_asks a).over state ready h.now h.told).spares o.q o.may r free))
        (λ why refused r. absurd (let done = o.done in cc (refused, done)))

    carries : CarriesOpen u session' state
    carries = record {
      each = λ x told r other has.
          (let there : writer_of session r ≡ Some other = sym (goes.writers r) ∙ has in
          let apart : r ≢ path = λ same. false≢true (sym a.begins.closed ∙ ap is_some (ap (writer_of session) (sym same) ∙ there)) in
          let same : behind.0 ≡ x = cc (behind.1, told) in
          ⊎_elim (λ failed. inl failed)
          (λ c. inr (subst (λ (y : Picture). CarriesFile y state r other) same (record {
            content = c.content;
            named = c.named;
            carries = carries_others path o.q behind.0 (sound o.q o.now) behind.2 r (files.tail_of other) c.content.bytes apart c.carries;
            replication = c.replication;
            block_size = c.block_size;
          })))
          ((others_open (commands.Append name) (append_still name) s m session a.begins.stands a.quiet t session' goes.writers goes.remembers (reopening a) path (λ at'. a.begins.called) (append_asks a).over state ready h.now h.told o.q o.now o.may).each o.q o.now r other has));
    }

    -- the blocks of the other files stay as they were
    encrypted_whole : (error : HdfsError) → KeepsWhole (commands.Append name) s session u (record session' { failed = true }) (Err error)
    encrypted_whole error =
        keeps_failed (commands.Append name) s u session (record session' { failed = true }) path h.p behind.0 h.was behind.1 a.begins.called
        (λ r apart. stays_trans h.p h.now behind.0 r (stays_files h.p h.now h.same.files r)
        (stays_trans h.now o.q behind.0 r ((append_asks a).spares h.now o.q h.told o.may r apart) (stays_elsewhere o.q behind.0 path r (sound o.q o.now) behind.2 apart)))
        (λ r apart. goes.writers r) error

  -- such an error
  refused_executes : {error : HdfsError} → is_before_asking error ≡ false → Tells (commands.Append name) s u error → IsNotOwed error
      → IsAnsweredSo may_answer (name_of session.namenode) path (commands.Append name) error
      → ((state : State) → IsReady s session state (commands.Append name) → Cause (world_at session s) state (commands.Append name) s u error)
      → Executes may_answer (commands.Append name) s session u (record session' { failed = true }) (Err error)
  refused_executes {error} late tells owed so cause =
      let looks = looks_trans s m t a.quiet.0 (looks_from-Leaves m t came.relays.leaves) in
      fails_executes a.begins goes owed so
      (idle_acts (commands.Append name) (λ sends. sends) s u session session' error a.begins.stands
      (later_trans s t u looks.later touches.later)
      (same_reads_trans s t u (reads_same s t looks) touches.reads)
      (λ link. touches.writes link ∙ looks.links.writes link)
      (λ node. touches.nodes node ∙ looks.nodes node)
      goes.writers goes.remembers tells
      (λ at' byte lost. lost)
      (λ state ready. (cause state ready, agrees state ready error late))
      carries)
      (λ state ready. encrypted_whole state ready error)

  -- it says so, or that there is no memory, and leaves the rest
  pub encrypted_append : {error : HdfsError} → IsRefusal error → is_some stat.encryption ≡ true → may_answer (reopening a) (answers.Append appended)
      → Executes may_answer (commands.Append name) s session u (record session' { failed = true }) (Err error)
  encrypted_append (inl memory) encrypted answered =
      subst (λ (e : HdfsError). Executes may_answer (commands.Append name) s session u (record session' { failed = true }) (Err e)) (sym memory)
      (refused_executes refl (tt, (tt, tt)) tt tt (λ state ready. (tt, tt)))
  encrypted_append (inr unsupported) encrypted answered =
      subst (λ (e : HdfsError). Executes may_answer (commands.Append name) s session u (record session' { failed = true }) (Err e)) (sym unsupported)
      (refused_executes refl (tt, (tt, tt)) tt (appended, answered, ap tells_encryption is ∙ encrypted)
      (λ state ready.
      (let f = o state ready in
      (inr (subst (λ (x : List ℕ). IsEncryptedAt state x) (sym a.begins.called) (f.content, f.filed, sym f.encryption ∙ encrypted)), tt))))
