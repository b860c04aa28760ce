-- A command that opens a file to be written by the session's service: what comes of it, whether the service has opened it or not.
use Rattle.std.proofs.Common.{◌≡◌, inl, inr, ⊎_elim, ℕ, ◌<◌, cond, true, false, List, Option, Some, None, Result, Ok, Err, refl, sym, ◌∙◌, ap, subst}
use Rattle.std.proofs.lemmas.Bool.{false≢true}
use Rattle.std.specs.BTreeMap.{BTreeMap, get_by_text}
use Rattle.std.specs.Prelude.{IfSome, String}
use Rattle.std.specs.Str.{bytes_eq}
use Rattle.std.specs.declared.alloc.Global.{Global}
use Rattle.hdfs_cluster.specs.declared.asks.Answer.{Answer}
use Rattle.hdfs_cluster.specs.declared.asks.Ask.{Ask}
use Rattle.hdfs_cluster.specs.declared.asks.Ask.TheVariants as asking
use Rattle.hdfs_cluster.specs.declared.asks.AskFault.{AskFault}
use Rattle.hdfs_cluster.specs.declared.errors.HdfsError.{HdfsError}
use Rattle.hdfs_cluster.specs.declared.errors.HdfsError.TheVariants as errors
use Rattle.hdfs_cluster.specs.declared.messages.FileStatusMsg.{FileStatusMsg}
use Rattle.hdfs_cluster.specs.declared.messages.ServerDefaults.{ServerDefaults}
use Rattle.hdfs_cluster.specs.Picture.{Picture}
use Rattle.hdfs_cluster.specs.Shown.{Served, Shown}
use Rattle.hdfs_cluster.specs.Sound.{IsSound}
use Rattle.hdfs_file_reader.proofs.Looking.{looks_from-Leaves}
use Rattle.hdfs_file_reader.proofs.Transfers.{OnlyAsks, defaults_told, lacks_by, leaves_by}
use Rattle.hdfs_file_writer.specs.Writers as files
use Rattle.hdfs_file_writer.specs.declared.file_writer.FileWriter.{FileWriter}
use Rattle.hdfs_model.specs.Limits.{are_options}
use Rattle.hdfs_model.specs.Opening.{AnswersDefaults, tells_encryption}
use Rattle.hdfs_model.specs.declared.commands.Command.{Command}
use Rattle.hdfs_model.specs.declared.commands.Command.TheVariants as commands
use Rattle.hdfs_model.specs.declared.commands.Reply.TheVariants as replies
use Rattle.hdfs_model.specs.declared.commands.WriteOptions.{WriteOptions}
use Rattle.hdfs_namenode.specs.Asked.{AskedOnce}
use Rattle.hdfs_namenode.specs.Clients.{KeepsAnswered, defaults_of, name_of, proxy_of, through}
use Rattle.hdfs_namenode.specs.Relaying.{Came}
use Rattle.hdfs_namenode.specs.Views.{Whole}
use Rattle.hdfs_namenode.specs.declared.protocol.NamenodeProtocol.{NamenodeProtocol}
use Rattle.hdfs_namenode.proofs.Observers.{once_leaves}
use Rattle.hdfs_namenode.proofs.Services.{reaches_later}
use Rattle.hdfs_opening.specs.Opening.{CreatesBy, FailsToAppend, FailsToCreate, HasDefaults, HasLimitedDefaults, IsKnown, KeepsService, LacksDefaults, LacksStatus, OpensBy, RefusesCreated, RefusesOpened, refusal}
use Rattle.hdfs_opening.specs.declared.opened_file.ToldFile.{ToldFile}
use Rattle.hdfs_commands.specs.Asking.{AreAnswered}
use Rattle.hdfs_commands.specs.Executing.{Executes}
use Rattle.hdfs_commands.specs.Preparing.{Remembers}
use Rattle.hdfs_commands.specs.Meeting.{KnowsDefaults}
use Rattle.hdfs_commands.specs.Session.{defaults_known, settings_of, terms_of}
use Rattle.hdfs_commands.specs.declared.session.Session.{Session}
use Rattle.hdfs_commands.proofs.Answered.{answered_put, answered_same}
use Rattle.hdfs_commands.proofs.Beginning.{AsksFile, Begins, GoesOn, IsAskOf, IsRefusal, KeepsWriter, append_asks, create_asks, encrypted_create, making, reopening, undefaulted_executes, unkept_executes, unlimited_executes, unstated_append, vain_executes}
use Rattle.hdfs_commands.proofs.Encrypting.{encrypted_append, only_touches}
use Rattle.hdfs_opening.proofs.Coming.{came_once, has_cached, reaches_between, vain_cached}
use Rattle.hdfs_commands.proofs.Prepared.{told_known}
use Rattle.hdfs_commands.proofs.Starting.{appended_executes, created_executes}

-- what an encrypted file is refused with
is_refusal : {T : Type 0} (result : Result T HdfsError) → IsRefusal (refusal result)
is_refusal (Ok done) = inr refl
is_refusal (Err errors.NoMemory) = inl refl
is_refusal (Err error) = inr refl

-- what an answer says is kept of the defaults
keeps_given : (may_answer : Ask → Answer → Type 0) (after : NamenodeProtocol) (known : Option ServerDefaults) → defaults_of after ≡ known
    → IfSome known (AnswersDefaults may_answer) → KeepsAnswered may_answer after
keeps_given may_answer after known is = subst (λ (o : Option ServerDefaults). IfSome o (AnswersDefaults may_answer)) (sym is)

-- defaults that a service knew, or was answered, were answered
pub was_given : (may_answer : Ask → Answer → Type 0) (before : NamenodeProtocol) (d : ServerDefaults) → KeepsAnswered may_answer before → IsKnown may_answer before d
    → AnswersDefaults may_answer d
was_given may_answer before d answered (inl given) = given
was_given may_answer before d answered (inr kept) = subst (λ (o : Option ServerDefaults). IfSome o (AnswersDefaults may_answer)) kept answered

-- a session whose service keeps its name
remembers_by : (session : Session) (after : NamenodeProtocol) (writers : BTreeMap (String Global) FileWriter) → KeepsService session.namenode after
    → ((d : ServerDefaults) → defaults_known session ≡ Some d → defaults_of after ≡ Some d)
    → Remembers session (record session { namenode = after; writers = writers })
remembers_by session after writers keeps known = record { settings = refl; name = keeps.name; service = keeps.service; known = known }

module _ {C : Type 0} {shown : C → Shown} {may_answer : Ask → Answer → Type 0} {serves : C → ℕ → Ask → Result Answer AskFault → C → Type 0}
    (rows : (old new : C) (i : ℕ) (ask : Ask) (result : Result Answer AskFault) → serves old i ask result new → Served (shown old) i ask result (shown new))
    (below : (c : C) (p : Picture) → (shown c).picture ≡ Some p → p.active < (shown c).namenodes)
    (sound : (c : C) (p : Picture) → (shown c).picture ≡ Some p → IsSound p) where
  module _ {command : Command} {session : Session} {path : List ℕ} {old : C} (begins : Begins command (shown old) session path) (answered : AreAnswered may_answer session) where
    -- it knew the defaults, or has asked for them, and keeps them
    module _ {d : ServerDefaults} {between : NamenodeProtocol} {mid : C} (has : HasDefaults may_answer serves session.namenode old d between mid) where
      given : AnswersDefaults may_answer d
      given = was_given may_answer session.namenode d answered.defaults has.answered

      told : (p : Picture) → (shown old).picture ≡ Some p → KnowsDefaults (shown old) (defaults_known session) → d ≡ p.defaults
      told p is knows = defaults_told (has_cached rows below begins.stands.reaches has) p is (told_known (shown old) p (defaults_known session) is knows)

      quiet : OnlyAsks (shown old) (shown mid)
      quiet = leaves_by (has_cached rows below begins.stands.reaches has)

      module _ {after : NamenodeProtocol} (kept : defaults_of after ≡ Some d) (keeps : KeepsService session.namenode after) (writers : BTreeMap (String Global) FileWriter) where
        remembers : Remembers session (record session { namenode = after; writers = writers })
        remembers = remembers_by session after writers keeps (λ k is. kept ∙ ap (λ (x : ServerDefaults). Some x) (has.known k is).0)

        -- so the session goes on that keeps no writer
        goes : ((r : List ℕ) → get_by_text writers r ≡ get_by_text session.writers r) → GoesOn may_answer session (record session { namenode = after; writers = writers })
        goes same = record {
          remembers = remembers;
          writers = same;
          answered = answered_same session (record session { namenode = after; writers = writers }) keeps.name same (keeps_given may_answer after (Some d) kept given) answered;
        }

        -- and the one that does
        keeps_writer : {writer : FileWriter} → ((r : List ℕ) → get_by_text writers r ≡ cond (bytes_eq path r) (Some writer) (get_by_text session.writers r))
            → files.IsAnswered may_answer (name_of session.namenode) writer → KeepsWriter may_answer session (record session { namenode = after; writers = writers }) path writer d
        keeps_writer {writer} put here = record {
          remembers = remembers;
          put = put;
          failed = refl;
          known = kept;
          answered = answered_put session (record session { namenode = after; writers = writers }) path (Some writer) keeps.name put here
              (keeps_given may_answer after (Some d) kept given) answered;
        }

      -- what an ask behind them has come to
      came_of : {ask : Ask} (after : NamenodeProtocol) {new : C} {outcome : Result Answer HdfsError} → AskedOnce serves true ask (through between mid) outcome (through after new)
          → Came (shown mid) ask outcome (shown new)
      came_of {ask} after {new} {outcome} once =
          came_once rows below true ask (through between mid) (through after new) outcome (reaches_between rows below begins.stands.reaches has quiet.0.later) once

    asks : {d : ServerDefaults} {between : NamenodeProtocol} {mid : C} → HasLimitedDefaults may_answer serves session.namenode old d between mid
        → AsksFile command (shown old) (shown mid) session path d
    asks {mid} h = record { begins = begins; quiet = quiet h.has; limited = h.limited; told = told h.has; sound = sound mid }

    -- what it asks behind them
    module _ {d : ServerDefaults} {between : NamenodeProtocol} {mid : C} (h : HasLimitedDefaults may_answer serves session.namenode old d between mid) {after : NamenodeProtocol}
        (kept : defaults_of after ≡ Some d) (keeps : KeepsService session.namenode after) (writers : BTreeMap (String Global) FileWriter)
        (same : (r : List ℕ) → get_by_text writers r ≡ get_by_text session.writers r) {ask : Ask} (is : IsAskOf command (shown old) (shown mid) session path ask) {new : C} where
      -- it failed
      unasked : {error : HdfsError} → AskedOnce serves true ask (through between mid) (Err error) (through after new)
          → Executes may_answer command (shown old) session (shown new) (record session { namenode = after; writers = writers; failed = true }) (Err error)
      unasked once = vain_executes (asks h) is (goes h.has kept keeps writers same) (came_of h.has after once)

      -- it was answered, and the writer isn't kept
      unkept : {answer : Answer} → AskedOnce serves true ask (through between mid) (Ok answer) (through after new)
          → Executes may_answer command (shown old) session (shown new) (record session { namenode = after; writers = writers; failed = true }) (Err errors.NoMemory)
      unkept once = unkept_executes (asks h) is (goes h.has kept keeps writers same) (came_of h.has after once)

    -- there are no defaults
    lacking : {after : NamenodeProtocol} {new : C} {error : HdfsError} → KeepsService session.namenode after → LacksDefaults may_answer serves session.namenode old error after new
        → Executes may_answer command (shown old) session (shown new) (record session { namenode = after; failed = true }) (Err error)
    lacking {after} keeps (inl vain) =
        let cached = vain_cached rows below begins.stands.reaches vain in
        let on : GoesOn may_answer session (record session { namenode = after }) =
        record {
          remembers = remembers_by session after session.writers keeps (λ d is. absurd (let none = vain.unknown in cc (is, none)));
          writers = λ r. refl;
          answered = answered_same session (record session { namenode = after }) keeps.name (λ r. refl) (keeps_given may_answer after None vain.still tt) answered;
        } in
        undefaulted_executes begins (leaves_by cached) on (lacks_by cached)
    lacking {after} {new} keeps (inr bad) =
        subst (λ (e : HdfsError). Executes may_answer command (shown old) session (shown new) (record session { namenode = after; failed = true }) (Err e)) (sym bad.is)
        (unlimited_executes begins (quiet bad.has) (goes bad.has bad.has.kept keeps session.writers (λ r. refl)) bad.unlimited (given bad.has) (told bad.has))

  module _ {name : List ℕ} {options : WriteOptions} {session : Session} {path : List ℕ} {old : C} (begins : Begins (commands.Create name options) (shown old) session path)
      (answered : AreAnswered may_answer session) {after : NamenodeProtocol} (keeps : KeepsService session.namenode after) where
    abbrev pub CreatesNone : C → HdfsError → Type 0
    CreatesNone new error = Executes may_answer (commands.Create name options) (shown old) session (shown new) (record session { namenode = after; failed = true }) (Err error)

    -- the file is encrypted
    refused : {d : ServerDefaults} {between : NamenodeProtocol} {mid : C} (h : HasLimitedDefaults may_answer serves session.namenode old d between mid) → defaults_of after ≡ Some d
        → {new : C} {error : HdfsError} → RefusesCreated may_answer serves path (making (asks begins answered h)) between mid error after new → CreatesNone new error
    refused h kept {new} r =
        encrypted_create (asks begins answered h) (goes begins answered h.has kept keeps session.writers (λ x. refl)) (came_of begins answered h.has r.between r.asked) r.answered r.encrypted
        (looks_from-Leaves (shown r.mid) (shown new) (once_leaves shown serves rows true (asking.Delete path false) (through r.between r.mid) r.outcome (through after new) r.deleted))
        (subst IsRefusal (sym r.is) (is_refusal r.outcome))

    -- no file was created
    pub uncreated : {new : C} {error : HdfsError} → FailsToCreate may_answer serves path options session.namenode old error after new → CreatesNone new error
    uncreated (inl lacks) = lacking begins answered keeps lacks
    uncreated (inr fails) =
        ⊎_elim (unasked begins answered fails.knows fails.kept keeps session.writers (λ r. refl) (create_asks (asks begins answered fails.knows))) (refused fails.knows fails.kept) fails.why

    module _ {writer : FileWriter} {file : ToldFile} {new : C} (c : CreatesBy may_answer serves path options (terms_of (settings_of session)) session.namenode old writer file after new)
        (writers : BTreeMap (String Global) FileWriter) where
      -- a file was created, and its writer isn't kept
      pub created_unkept : ((r : List ℕ) → get_by_text writers r ≡ get_by_text session.writers r)
          → Executes may_answer (commands.Create name options) (shown old) session (shown new) (record session { namenode = after; writers = writers; failed = true }) (Err errors.NoMemory)
      created_unkept same = unkept begins answered c.knows c.kept keeps writers same (create_asks (asks begins answered c.knows)) c.asked

      -- or is
      pub created_kept : are_options options ≡ true → ((r : List ℕ) → get_by_text writers r ≡ cond (bytes_eq path r) (Some writer) (get_by_text session.writers r))
          → files.Stands (shown new) writer → files.IsAnswered may_answer (name_of session.namenode) writer
          → Executes may_answer (commands.Create name options) (shown old) session (shown new) (record session { namenode = after; writers = writers }) (Ok replies.Created)
      created_kept limited put stands here =
          created_executes (asks begins answered c.knows) limited c.fresh (came_of begins answered c.knows.has after c.asked)
          (keeps_writer begins answered c.knows.has c.kept keeps writers put here) stands

  module _ {name : List ℕ} {session : Session} {path : List ℕ} {old : C} (begins : Begins (commands.Append name) (shown old) session path)
      (answered : AreAnswered may_answer session) {after : NamenodeProtocol} (keeps : KeepsService session.namenode after) where
    abbrev pub OpensNone : C → HdfsError → Type 0
    OpensNone new error = Executes may_answer (commands.Append name) (shown old) session (shown new) (record session { namenode = after; failed = true }) (Err error)

    -- nothing is told of the file, or it is encrypted
    module _ {d : ServerDefaults} {between : NamenodeProtocol} {mid : C} (h : HasLimitedDefaults may_answer serves session.namenode old d between mid) (kept : defaults_of after ≡ Some d) {new : C} {error : HdfsError} where
      unstated : LacksStatus may_answer serves (reopening (asks begins answered h)) name between mid error after new → OpensNone new error
      unstated lacks = unstated_append (asks begins answered h) (goes begins answered h.has kept keeps session.writers (λ x. refl))
          (came_of begins answered h.has after lacks.asked) lacks.answered lacks.is

      refused_again : RefusesOpened shown may_answer serves path (reopening (asks begins answered h)) between mid error new → OpensNone new error
      refused_again r = by r.appended.stat refl
        where
          by : (stat : Option FileStatusMsg) → r.appended.stat ≡ stat → OpensNone new error
          by None none = absurd (false≢true (ap tells_encryption (sym none) ∙ r.encrypted))
          by (Some stat) is =
              let came = came_of begins answered h.has r.between r.asked in
              let whole = reaches_later (proxy_of between) (proxy_of r.between) (shown mid) (shown r.mid) r.service came.relays.leaves.later
              (reaches_between rows below begins.stands.reaches h.has (quiet begins answered h.has).0.later) in
              encrypted_append (asks begins answered h) is r.at r.stands came (sound r.mid)
              (only_touches (shown r.mid) (shown new) r.writer r.result r.idle (r.closes Whole whole) r.nodes)
              (goes begins answered h.has kept keeps session.writers (λ x. refl))
              (subst IsRefusal (sym r.is) (is_refusal r.result)) (ap tells_encryption (sym is) ∙ r.encrypted) r.answered

    -- no file was opened
    pub unopened : {new : C} {error : HdfsError} → FailsToAppend shown may_answer serves path name session.namenode old error after new → OpensNone new error
    unopened (inl lacks) = lacking begins answered keeps lacks
    unopened (inr fails) =
        ⊎_elim (unasked begins answered fails.knows fails.kept keeps session.writers (λ r. refl) (append_asks (asks begins answered fails.knows)))
        (⊎_elim (unstated fails.knows fails.kept) (refused_again fails.knows fails.kept)) fails.why

    module _ {writer : FileWriter} {file : ToldFile} {new : C} (o : OpensBy may_answer serves path (terms_of (settings_of session)) session.namenode old writer file after new)
        (writers : BTreeMap (String Global) FileWriter) where
      -- a file was opened, and its writer isn't kept
      pub opened_unkept : ((r : List ℕ) → get_by_text writers r ≡ get_by_text session.writers r)
          → Executes may_answer (commands.Append name) (shown old) session (shown new) (record session { namenode = after; writers = writers; failed = true }) (Err errors.NoMemory)
      opened_unkept same = unkept begins answered o.knows o.kept keeps writers same (append_asks (asks begins answered o.knows)) o.asked

      -- or is
      pub opened_kept : ((r : List ℕ) → get_by_text writers r ≡ cond (bytes_eq path r) (Some writer) (get_by_text session.writers r))
          → files.Stands (shown new) writer → files.IsAnswered may_answer (name_of session.namenode) writer
          → Executes may_answer (commands.Append name) (shown old) session (shown new) (record session { namenode = after; writers = writers }) (Ok replies.Appended)
      opened_kept put stands here =
          appended_executes (asks begins answered o.knows) {appended = record { block = o.block; stat = Some o.status }} {stat = o.status} refl (came_of begins answered o.knows.has after o.asked) o.fresh
          (keeps_writer begins answered o.knows.has o.kept keeps writers put here) stands o.plain
