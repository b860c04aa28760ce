-- A command that opens a file to be written, as a whole: what it stands on, and how it fails.
use Rattle.std.proofs.Common.{◌≡◌, ◌≢◌, ◌⊎◌, inl, inr, ⊎_elim, ℕ, cond, true, false, List, Option, Some, None, unwrap_or, Err, refl, sym, ◌∙◌, ap, subst, Result, Ok}
use Rattle.std.proofs.lemmas.Bool.{false≢true}
use Rattle.std.specs.Str.{bytes_eq}
use Rattle.hdfs_cluster.specs.declared.asks.Answer.{Answer}
use Rattle.hdfs_cluster.specs.declared.asks.Ask.{Ask}
use Rattle.hdfs_cluster.specs.declared.errors.ArgFault.TheVariants as args
use Rattle.hdfs_cluster.specs.declared.errors.HdfsError.{HdfsError}
use Rattle.hdfs_cluster.specs.declared.errors.HdfsError.TheVariants as errors
use Rattle.hdfs_cluster.specs.declared.messages.ServerDefaults.{ServerDefaults}
use Rattle.hdfs_cluster.specs.Files.{State}
use Rattle.hdfs_cluster.specs.Limits.{are_defaults}
use Rattle.hdfs_cluster.specs.Picture.{Picture, SameButActive}
use Rattle.hdfs_cluster.specs.Namenode.{MayBeDone}
use Rattle.hdfs_cluster.specs.Repeating.{Repeats}
use Rattle.hdfs_cluster.specs.Sound.{IsSound}
use Rattle.hdfs_cluster.specs.Shown.{Shown}
use Rattle.hdfs_cluster.proofs.Frames.{never_fall_refl, told_after}
use Rattle.hdfs_file_reader.proofs.Looking.{looks_from-Leaves, looks_trans}
use Rattle.hdfs_file_reader.proofs.Transfers.{OnlyAsks, only_asks_refl}
use Rattle.hdfs_file_writer.specs.declared.file_writer.FileWriter.{FileWriter}
use Rattle.hdfs_model.specs.Causes.{Cause, Tells, UsesDefaults}
use Rattle.hdfs_model.specs.Limits.{are_options}
use Rattle.hdfs_model.specs.Opening.{AnswersDefaults, appending, creating, tells_encryption, create_flag}
use Rattle.hdfs_model.specs.Owing.{IsMisplaced, IsNotOwed}
use Rattle.hdfs_model.specs.Sessions.{defaults_of, spared, is_before_asking}
use Rattle.hdfs_model.specs.Steps.{target_of, is_opened}
use Rattle.hdfs_model.specs.declared.commands.Command.{Command}
use Rattle.hdfs_model.specs.declared.commands.Command.TheVariants as commands
use Rattle.hdfs_model.specs.declared.commands.WriteOptions.{WriteOptions}
use Rattle.hdfs_names.specs.Paths.{is_path}
use Rattle.hdfs_namenode.specs.Clients.{name_of}
use Rattle.hdfs_commands.specs.Acting.{Acts, IsReady, world_at}
use Rattle.hdfs_commands.specs.Asking.{AreAnswered}
use Rattle.hdfs_commands.specs.Executing.{Executes}
use Rattle.hdfs_commands.specs.Meeting.{KnowsDefaults}
use Rattle.hdfs_commands.specs.Preparing.{Remembers}
use Rattle.hdfs_commands.specs.Refusing.{IsAnsweredSo}
use Rattle.hdfs_commands.specs.Session.{Stands, defaults_known, has_failed, opened_of, writer_of}
use Rattle.hdfs_commands.specs.Whole.{KeepsBlocksWhole}
use Rattle.hdfs_commands.specs.declared.session.Session.{Session}
use Rattle.hdfs_commands.proofs.Acted.{failed_acts}
use Rattle.hdfs_commands.proofs.Agreeing.{agrees_but, is_told, agrees_told}
use Rattle.hdfs_commands.proofs.Failing.{IsStill, agrees_still, asked_cause, late_acts, may_be_done, open_still}
use Rattle.hdfs_commands.proofs.Opening.{Over, was_plain, was_reopened, create_over, append_over, made, may_be_made, may_be_reopened}
use Rattle.hdfs_commands.proofs.Owing.{ask_not_owed}
use Rattle.hdfs_commands.proofs.Refused.{asked_so}
use Rattle.hdfs_commands.proofs.Refusing.{rose_cause, ask_tells, ask_not_early}
use Rattle.hdfs_commands.proofs.Sized.{remembers_refl}
use Rattle.hdfs_commands.proofs.WholeBeside.{StaysAt, keeps_failed, stays_elsewhere}
use Rattle.hdfs_commands.proofs.WholeOpening.{stays_files, stays_trans, stays_created}
use Rattle.hdfs_commands.proofs.Begun.{opened_only}
use Rattle.hdfs_cluster.specs.declared.asks.Answer.TheVariants as answers
use Rattle.hdfs_cluster.specs.declared.errors.Feature.TheVariants as features
use Rattle.hdfs_cluster.specs.declared.messages.LocatedBlock.{LocatedBlock}
use Rattle.hdfs_cluster.specs.declared.messages.FileStatusMsg.{FileStatusMsg}
use Rattle.hdfs_cluster.specs.Failures.{CallsRose}
use Rattle.hdfs_file_reader.specs.Looking.{OnlyLooks}
use Rattle.hdfs_file_reader.specs.Transferring.{AskedInVain}
use Rattle.hdfs_namenode.specs.Relaying.{Came}
use Rattle.hdfs_namenode.proofs.Relayed.{relayed_done}
use Rattle.hdfs_cluster.proofs.Repeating.{append_repeats, create_repeats}
use Rattle.hdfs_cluster.specs.Stores.{AgreesAt}

-- the error that refuses an encrypted file, or want of memory for that
abbrev pub IsRefusal : HdfsError → Type 0
IsRefusal error = (error ≡ errors.NoMemory) ⊎ (error ≡ errors.UnsupportedFeature features.Encryption)

-- A command opens a file at a path that the session hasn't open: it sends nothing, and wants the defaults.
pub record Begins (command : Command) (s : Shown) (session : Session) (path : List ℕ) : Type 0 where
  pub still : IsStill command
  pub uses : UsesDefaults command
  pub misplaced : IsMisplaced (opened_of session) (target_of (world_at session s) command) command → opened_of session (target_of (world_at session s) command) ≡ true
  pub called : target_of (world_at session s) command ≡ path
  pub named : is_path path ≡ true
  pub closed : opened_of session path ≡ false
  pub stands : Stands s session
  pub fine : has_failed session ≡ false

-- what it wants is so
pub begins_file : {command : Command} {s : Shown} {session : Session} {path : List ℕ} → IsStill command → UsesDefaults command
    → (IsMisplaced (opened_of session) (target_of (world_at session s) command) command → opened_of session (target_of (world_at session s) command) ≡ true)
    → target_of (world_at session s) command ≡ path → is_path path ≡ true → opened_of session path ≡ false → Stands s session → has_failed session ≡ false → Begins command s session path
begins_file still uses misplaced called named closed stands fine =
    record { still = still; uses = uses; misplaced = misplaced; called = called; named = named; closed = closed; stands = stands; fine = fine }

-- A session goes on with the writers that it had, remembers what it is run with, and keeps what it was answered.
pub record GoesOn (may_answer : Ask → Answer → Type 0) (session session' : Session) : Type 0 where
  pub remembers : Remembers session session'
  pub writers : (r : List ℕ) → writer_of session' r ≡ writer_of session r
  pub answered : AreAnswered may_answer session'

-- It has asked for the defaults, and has them.
pub record AsksFile (command : Command) (s m : Shown) (session : Session) (path : List ℕ) (d : ServerDefaults) : Type 0 where
  pub begins : Begins command s session path
  pub quiet : OnlyAsks s m
  pub limited : are_defaults d ≡ true
  pub told : (p : Picture) → s.picture ≡ Some p → KnowsDefaults s (defaults_known session) → d ≡ p.defaults
  pub sound : (p : Picture) → m.picture ≡ Some p → IsSound p

-- its ask for a new file
abbrev pub making : {name : List ℕ} {options : WriteOptions} {s m : Shown} {session : Session} {path : List ℕ} {d : ServerDefaults}
    → AsksFile (commands.Create name options) s m session path d → Ask
making {options} {session} {path} {d} a =
    creating path (name_of session.namenode) options (unwrap_or options.replication d.replication) (unwrap_or options.block_size d.block_size)

-- its ask for a file that is gone on with
abbrev pub reopening : {name : List ℕ} {s m : Shown} {session : Session} {path : List ℕ} {d : ServerDefaults}
    → AsksFile (commands.Append name) s m session path d → Ask
reopening {session} {path} a = appending path (name_of session.namenode) 4

-- What the command asks for a file: over a told picture it is the command's at its path, and it leaves the other files.
pub record IsAskOf (command : Command) (s m : Shown) (session : Session) (path : List ℕ) (ask : Ask) : Type 0 where
  pub over : (state : State) → IsReady s session state command → (p : Picture) → m.picture ≡ Some p → Over p (world_at session s) state command path ask
  pub spares : (p q : Picture) → m.picture ≡ Some p → MayBeDone ask p q → (r : List ℕ) → r ≢ path → StaysAt p q r
  pub repeats : (p : Picture) → Repeats ask p

-- A session that has opened a file keeps its writer by its path.
pub record KeepsWriter (may_answer : Ask → Answer → Type 0) (session kept : Session) (path : List ℕ) (writer : FileWriter) (d : ServerDefaults) : Type 0 where
  pub remembers : Remembers session kept
  pub put : (r : List ℕ) → writer_of kept r ≡ cond (bytes_eq path r) (Some writer) (writer_of session r)
  pub failed : kept.failed ≡ session.failed
  pub known : defaults_known kept ≡ Some d
  pub answered : AreAnswered may_answer kept

module _ {command : Command} {s : Shown} {session : Session} {path : List ℕ} (begins : Begins command s session path) where
  -- it has failed
  pub fails_executes : {may_answer : Ask → Answer → Type 0} {t : Shown} {session' : Session} {error : HdfsError} → GoesOn may_answer session session'
      → IsNotOwed error → IsAnsweredSo may_answer (name_of session.namenode) path command error
      → Acts command s session t (record session' { failed = true }) (Err error)
      → KeepsBlocksWhole command s session t (record session' { failed = true }) (Err error)
      → Executes may_answer command s session t (record session' { failed = true }) (Err error)
  fails_executes {may_answer} {t} {session'} {error} goes owed so acts whole = record {
    acts = acts;
    whole = whole;
    owed = inr (inr (inr (
      ap is_path begins.called ∙ begins.named,
      λ is. false≢true (sym begins.closed ∙ ap (opened_of session) (sym begins.called) ∙ begins.misplaced is),
      inl owed,
    )));
    refused =
        subst (λ (n : List ℕ). IsAnsweredSo may_answer n (target_of (world_at session s) command) command error) begins.stands.name
        (subst (λ (p : List ℕ). IsAnsweredSo may_answer (name_of session.namenode) p command error) (sym begins.called) so);
    settings = goes.remembers.settings;
    fails = (refl, tt);
    answered = record { files = goes.answered.files; defaults = goes.answered.defaults };
  }

  module _ {may_answer : Ask → Answer → Type 0} {m : Shown} {session' : Session} (quiet : OnlyAsks s m) (goes : GoesOn may_answer session session') where
    -- behind asks for the defaults alone
    prepared_executes : {error : HdfsError} → IsNotOwed error → IsAnsweredSo may_answer (name_of session.namenode) path command error → Tells command s m error
        → ((state : State) → IsReady s session state command → Cause (world_at session s) state command s m error)
        → Executes may_answer command s session m (record session' { failed = true }) (Err error)
    prepared_executes {error} owed so tells cause =
        let still = begins.still in
        fails_executes goes owed so
        (failed_acts command still.sends s m session session' error begins.stands quiet.0 goes.writers goes.remembers tells (still.found s m)
        (λ state ready. (cause state ready, agrees_but (spared (world_at session s) state command error) m.picture state.files (agrees_still command still s m session begins.stands quiet state ready)))
        (open_still command still s m session begins.stands quiet goes.writers))
        (λ state ready.
        (let one = is_told s.picture state.files ready.ready.fits.agrees in
        let two = told_after SameButActive s.picture m.picture one.0 quiet.1 one.1 in
        keeps_failed command s m session (record session' { failed = true }) path one.0 two.0 one.1 two.1 begins.called
        (λ r apart. stays_files one.0 two.0 two.2.files r) (λ r apart. goes.writers r) error))

    -- for want of memory
    pub starved_executes : Executes may_answer command s session m (record session' { failed = true }) (Err errors.NoMemory)
    starved_executes = prepared_executes tt tt (tt, (tt, tt)) (λ state ready. (tt, tt))

    -- since the defaults were asked for in vain
    pub undefaulted_executes : {error : HdfsError} → AskedInVain s error m → Executes may_answer command s session m (record session' { failed = true }) (Err error)
    undefaulted_executes {error} vain =
        prepared_executes (ask_not_owed s m error vain.0) (asked_so may_answer (name_of session.namenode) path command error vain.0.0)
        (ask_tells command s s m error (never_fall_refl s.counts) vain.0)
        (λ state ready.
        (let told = is_told s.picture state.files ready.ready.fits.agrees in
        ⊎_elim (λ memory. subst (Cause (world_at session s) state command s m) (sym memory) (tt, tt))
        (rose_cause (world_at session s) state command s s m error (never_fall_refl s.counts) vain.0) (vain.1 told.0 told.1)))

    -- since these are out of their limits
    pub unlimited_executes : {d : ServerDefaults} → are_defaults d ≡ false → AnswersDefaults may_answer d
        → ((p : Picture) → s.picture ≡ Some p → KnowsDefaults s (defaults_known session) → d ≡ p.defaults)
        → Executes may_answer command s session m (record session' { failed = true }) (Err (errors.InvalidArgument args.Defaults))
    unlimited_executes {d} out given are =
        prepared_executes tt (d, given, out) (begins.uses, (tt, tt))
        (λ state ready.
        (let told = is_told s.picture state.files ready.ready.fits.agrees in
        ((begins.uses, ap (λ (o : Option Picture). are_defaults (defaults_of o)) told.1 ∙ ap are_defaults (sym (are told.0 told.1 ready.carried.defaults)) ∙ out), tt)))

-- a session that has done nothing
pub goes_nowhere : {may_answer : Ask → Answer → Type 0} {session : Session} → AreAnswered may_answer session → GoesOn may_answer session session
goes_nowhere {session} answered = record { remembers = remembers_refl session; writers = λ r. refl; answered = answered }

-- options that are out of their limits
pub options_executes : {may_answer : Ask → Answer → Type 0} {name : List ℕ} {options : WriteOptions} {s : Shown} {session : Session} {path : List ℕ}
    → Begins (commands.Create name options) s session path → AreAnswered may_answer session → are_options options ≡ false
    → Executes may_answer (commands.Create name options) s session s (record session { failed = true }) (Err (errors.InvalidArgument args.Options))
options_executes {s} {session} begins answered out =
    prepared_executes begins (only_asks_refl s) (goes_nowhere answered) tt tt (out, (tt, tt)) (λ state ready. (out, tt))

module _ {command : Command} {s m : Shown} {session : Session} {path : List ℕ} {d : ServerDefaults} (a : AsksFile command s m session path d) where
  -- the files agree still
  pub agrees_at : (state : State) → IsReady s session state command → (p : Picture) → m.picture ≡ Some p → (r : List ℕ) → AgreesAt p (p.names r) (state.files r)
  agrees_at state ready p = agrees_told m.picture p state.files (agrees_still command a.begins.still s m session a.begins.stands a.quiet state ready)

  -- and the path isn't open
  pub unopened : (state : State) → IsReady s session state command → is_opened state path ≡ false
  unopened state ready = ready.ready.opened path ∙ a.begins.closed

module _ {may_answer : Ask → Answer → Type 0} {command : Command} {s m : Shown} {session : Session} {path : List ℕ} {d : ServerDefaults}
    (a : AsksFile command s m session path d) {ask : Ask} (is : IsAskOf command s m session path ask)
    {t : Shown} {session' : Session} (goes : GoesOn may_answer session session') where
  -- behind an ask that may have been done
  late_executes : {error : HdfsError} → is_before_asking error ≡ false → OnlyLooks m t → Tells command s t error → IsNotOwed error
      → IsAnsweredSo may_answer (name_of session.namenode) path command error
      → ((state : State) → IsReady s session state command → (p : Picture) → m.picture ≡ Some p → Cause (world_at session s) state command s t error × ((q : Picture) × (t.picture ≡ Some q) × MayBeDone ask p q))
      → Executes may_answer command s session t (record session' { failed = true }) (Err error)
  late_executes {error} late looks tells owed so cause =
      fails_executes a.begins goes owed so
      (late_acts command a.begins.still s m session a.begins.stands a.quiet t session' goes.writers goes.remembers ask path (λ state. a.begins.called) is.over error late looks tells cause)
      (λ state ready.
      (let one = is_told s.picture state.files ready.ready.fits.agrees in
      let two = told_after SameButActive s.picture m.picture one.0 a.quiet.1 one.1 in
      let now = (cause state ready two.0 two.1).1 in
      keeps_failed command s t session (record session' { failed = true }) path one.0 now.0 one.1 now.1 a.begins.called
      (λ r apart. stays_trans one.0 two.0 now.0 r (stays_files one.0 two.0 two.2.files r) (is.spares two.0 now.0 two.1 now.2 r apart))
      (λ r apart. goes.writers r) error))

  -- what that has come to over a told picture
  came_to : {result : Result Answer HdfsError} → Came m ask result t → (p : Picture) → m.picture ≡ Some p → (q : Picture) × (t.picture ≡ Some q) × MayBeDone ask p q
  came_to {result} came p told =
      let to = came.told p told (is.repeats p) in
      (to.0, to.1, may_be_done ask p to.0 (relayed_done (CallsRose m.counts t) p ask result to.0 came.relays.shaped to.2))

  -- an error of the ask
  pub vain_executes : {error : HdfsError} → Came m ask (Err error) t → Executes may_answer command s session t (record session' { failed = true }) (Err error)
  vain_executes {error} came =
      late_executes (ask_not_early m t error came.relays.tells) (looks_from-Leaves m t came.relays.leaves) (ask_tells command s m t error a.quiet.0.later.counts came.relays.tells)
      (ask_not_owed m t error came.relays.tells) (asked_so may_answer (name_of session.namenode) path command error came.relays.tells.0)
      (λ state ready p told. (
        asked_cause command a.begins.still s m session a.begins.stands a.quiet t session' goes.writers goes.remembers ask path (λ state. a.begins.called) is.over state ready p told error came.relays.tells
            (came.told p told (is.repeats p)).0 (came.told p told (is.repeats p)).2,
        came_to came p told,
      ))

  -- want of memory once the file was opened, so that the session doesn't keep its writer
  pub unkept_executes : {answer : Answer} → Came m ask (Ok answer) t → Executes may_answer command s session t (record session' { failed = true }) (Err errors.NoMemory)
  unkept_executes came = late_executes refl (looks_from-Leaves m t came.relays.leaves) (tt, (tt, tt)) tt tt (λ state ready p told. ((tt, tt), came_to came p told))

module _ {name : List ℕ} {options : WriteOptions} {s m : Shown} {session : Session} {path : List ℕ} {d : ServerDefaults}
    (a : AsksFile (commands.Create name options) s m session path d) where
  -- the ask for a new file
  pub create_asks : IsAskOf (commands.Create name options) s m session path (making a)
  create_asks =
      let client = name_of session.namenode in
      let r = unwrap_or options.replication d.replication in
      let k = unwrap_or options.block_size d.block_size in
      record {
        over = λ state ready p told. create_over path client options r k p (world_at session s) state name (a.sound p told) (agrees_at a state ready p told) a.begins.named (unopened a state ready) a.begins.called;
        spares = λ p q told may other apart. ⊎_elim
            (λ same. stays_files p q same.files other)
            (λ done. stays_created p q path (made path client options r k) done.1 (a.sound p told) other apart)
            (may_be_made path client options r k p q may);
        repeats = λ p. create_repeats path client options.permission (create_flag options) options.create_parent r k p;
      }

  -- the file was answered to be encrypted, which an answer over a told picture never says
  module _ {may_answer : Ask → Answer → Type 0} {t u : Shown} {session' : Session} {status : Option FileStatusMsg} (goes : GoesOn may_answer session session')
      (came : Came m (making a) (Ok (answers.Create status)) t) (answered : may_answer (making a) (answers.Create status)) (encrypted : tells_encryption status ≡ true)
      (looks : OnlyLooks t u) where
    never : {P : Type 0} (p : Picture) → m.picture ≡ Some p → P
    never p told =
        absurd (false≢true (sym (was_plain path (name_of session.namenode) options (unwrap_or options.replication d.replication) (unwrap_or options.block_size d.block_size) p m t status told came)
        ∙ encrypted))

    pub encrypted_create : {error : HdfsError} → IsRefusal error → Executes may_answer (commands.Create name options) s session u (record session' { failed = true }) (Err error)
    encrypted_create (inl memory) =
        subst (λ (e : HdfsError). Executes may_answer (commands.Create name options) s session u (record session' { failed = true }) (Err e)) (sym memory)
        (late_executes a create_asks goes refl (looks_trans m t u (looks_from-Leaves m t came.relays.leaves) looks) (tt, (tt, tt)) tt tt (λ state ready p told. never p told))
    encrypted_create (inr is) =
        subst (λ (e : HdfsError). Executes may_answer (commands.Create name options) s session u (record session' { failed = true }) (Err e)) (sym is)
        (late_executes a create_asks goes refl (looks_trans m t u (looks_from-Leaves m t came.relays.leaves) looks) (tt, (tt, tt)) tt
        (unwrap_or options.replication d.replication, unwrap_or options.block_size d.block_size, status, answered, encrypted) (λ state ready p told. never p told))

module _ {name : List ℕ} {s m : Shown} {session : Session} {path : List ℕ} {d : ServerDefaults}
    (a : AsksFile (commands.Append name) s m session path d) where
  -- the ask for a file that is gone on with
  pub append_asks : IsAskOf (commands.Append name) s m session path (reopening a)
  append_asks =
      let client = name_of session.namenode in
      record {
        over = λ state ready p told. append_over path client 4 p (world_at session s) state name (a.sound p told) (agrees_at a state ready p told) a.begins.named (unopened a state ready) a.begins.called;
        spares = λ p q told may other apart. ⊎_elim
            (λ same. stays_files p q same.files other)
            (λ done. stays_elsewhere p q path other (a.sound p told) (opened_only p q path done.1.file done.1.at done.0.block done.1.opens) apart)
            (may_be_reopened path client 4 p q may);
        repeats = λ p. append_repeats path client 4 p;
      }

  -- no status of the file was answered, of which an answer over a told picture always tells
  pub unstated_append : {may_answer : Ask → Answer → Type 0} {t : Shown} {session' : Session} {block : Option LocatedBlock} {error : HdfsError} → GoesOn may_answer session session'
      → Came m (reopening a) (Ok (answers.Append (record { block = block; stat = None }))) t
      → may_answer (reopening a) (answers.Append (record { block = block; stat = None })) → (error ≡ errors.FileNotFound name) ⊎ (error ≡ errors.NoMemory)
      → Executes may_answer (commands.Append name) s session t (record session' { failed = true }) (Err error)
  unstated_append {may_answer} {t} {session'} {block} goes came answered (inl is) =
      subst (λ (e : HdfsError). Executes may_answer (commands.Append name) s session t (record session' { failed = true }) (Err e)) (sym is)
      (late_executes a append_asks goes refl (looks_from-Leaves m t came.relays.leaves) ((refl, tt), (came.relays.fine, tt)) tt (block, answered)
      (λ state ready p told.
      (let one = (was_reopened path (name_of session.namenode) 4 p m t (record { block = block; stat = None }) told came).2.status.is in absurd (cc one))))
  unstated_append {may_answer} {t} {session'} goes came answered (inr is) =
      subst (λ (e : HdfsError). Executes may_answer (commands.Append name) s session t (record session' { failed = true }) (Err e)) (sym is)
      (unkept_executes a append_asks goes came)
