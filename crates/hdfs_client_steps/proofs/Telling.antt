-- A client tells what stands at a path as a session does.
use Rattle.std.proofs.Common.{◌≡◌, inl, inr, ℕ, ◌<◌, ◌==◌, Bool, true, false, cond, List, [], ◌∷◌, Option, Some, None, Ok, Err, unwrap_or, refl, sym, ◌∙◌, subst, arith}
use Rattle.std.specs.Prelude.{IsUtf8, Result}
use Rattle.std.proofs.lemmas.Str.{IsUtf8-nil}
use Rattle.hdfs_cluster.specs.declared.asks.Answer.{Answer}
use Rattle.hdfs_cluster.specs.declared.asks.Answer.TheVariants as answers
use Rattle.hdfs_cluster.specs.declared.asks.Ask.{Ask}
use Rattle.hdfs_cluster.specs.declared.asks.Ask.TheVariants as asks
use Rattle.hdfs_cluster.specs.declared.asks.AskFault.{AskFault}
use Rattle.hdfs_cluster.specs.declared.errors.HdfsError.{HdfsError}
use Rattle.hdfs_cluster.specs.declared.errors.HdfsError.TheVariants as errors
use Rattle.hdfs_cluster.specs.declared.messages.FileStatusMsg.{FileStatusMsg}
use Rattle.hdfs_cluster.specs.Failures.{CallsRose}
use Rattle.hdfs_cluster.specs.Files.{Content, Missing, State, Writing}
use Rattle.hdfs_cluster.specs.Listing.{TellsStatus}
use Rattle.hdfs_cluster.specs.Namenode.{Row, StandsForAny}
use Rattle.hdfs_cluster.specs.Picture.{Picture, SameButActive, kinds}
use Rattle.hdfs_cluster.specs.Refusals.{Lacks, above_refusal}
use Rattle.hdfs_cluster.specs.Shown.{Served, Shown}
use Rattle.hdfs_cluster.specs.Stores.{Agrees, AgreesAt}
use Rattle.hdfs_cluster.proofs.NamesRepeating.{info_repeats}
use Rattle.hdfs_names.specs.Paths.{is_path}
use Rattle.hdfs_model.specs.declared.commands.Command.{Command}
use Rattle.hdfs_model.specs.declared.commands.Command.TheVariants as commands
use Rattle.hdfs_model.specs.declared.commands.Reply.TheVariants as replies
use Rattle.hdfs_model.specs.Causes.{Cause}
use Rattle.hdfs_model.specs.Headline.{Applied}
use Rattle.hdfs_model.specs.Scenes.{Ready}
use Rattle.hdfs_model.specs.Sessions.{spared}
use Rattle.hdfs_model.specs.Statuses.{info_by}
use Rattle.hdfs_model.specs.Steps.{World, is_opened, target_of}
use Rattle.hdfs_model.proofs.Deleted.{is_false}
use Rattle.hdfs_model.proofs.Told.{below_file_at, informs_at, informs_none_at, missed_at}
use Rattle.hdfs_namenode.specs.Asked.{as_answer}
use Rattle.hdfs_namenode.specs.Relaying.{Came}
use Rattle.hdfs_namenode.proofs.Relayed.{relayed_row}
use Rattle.hdfs_client.specs.Calls.{Gives}
use Rattle.hdfs_client.specs.Clients.{AsksAt}
use Rattle.hdfs_client.specs.Statuses.{IsInfo, status_of}
use Rattle.hdfs_client.specs.declared.client.Client.{Client}
use Rattle.hdfs_client.specs.declared.status.FileStatus.{FileStatus}
use Rattle.hdfs_commands.proofs.Agreeing.{agrees_but, agrees_files}
use Rattle.hdfs_commands.proofs.InfoActs.{info_quiet}
use Rattle.hdfs_commands.proofs.Opening.{Over}
use Rattle.hdfs_commands.proofs.Refusing.{step_there}
use Rattle.hdfs_commands.proofs.Still.{file_stays}
use Rattle.hdfs_client_steps.specs.Steps.{Does, KeepsCarried, SaysSame, TellsAs, holding}
use Rattle.hdfs_client_steps.proofs.Applying.{absolute_path, agrees_of, done_applied, failed_applied, refused_does, same_defaults, still_others, told_of}
use Rattle.hdfs_client_steps.proofs.Knowing.{asked_stays, still_knows}
use Rattle.hdfs_client.proofs.Coming.{came_at}

-- a status and the reply of its message say the same
says_same : (name : List ℕ) (message : FileStatusMsg) → SaysSame (message.file_type == 1) (status_of name message) (info_by message)
says_same name message = by (message.file_type == 1)
  where
    by : (b : Bool) → SaysSame b (status_of name message)
        (cond b (replies.Info true 0 0 0 0) (replies.Info false message.length message.permission (unwrap_or message.block_replication 0) (unwrap_or message.blocksize 0)))
    by true = refl
    by false = (message.permission, refl, refl)

module _ (s t : Shown) (path : List ℕ) (named : is_path path ≡ true) {opened : List ℕ → Bool} (closed : opened path ≡ false)
    (world : World) (state : State) (ready : Ready world (holding opened s) state (commands.Info path ∷ [])) where
  abbrev info : Command
  info = commands.Info path

  abbrev ask : Ask
  ask = asks.GetFileInfo path

  abbrev told : (p : Picture) × (s.picture ≡ Some p)
  told = told_of s world state info ready

  agrees : (r : List ℕ) → AgreesAt told.0 (told.0.names r) (state.files r)
  agrees = agrees_of s world state info ready

  called : target_of world info ≡ path
  called = absolute_path world.home path named

  unopened : is_opened state path ≡ false
  unopened = ready.opened path ∙ closed

  not_written : (content : Content) → state.files path ≡ Some (Writing content) → ⊥
  not_written content writing =
      ready.avoids 0 info (omega arith)
      (content, subst (λ (q : List ℕ). state.files q ≡ Some (Writing content)) (sym called) writing, subst (λ (q : List ℕ). is_opened state q ≡ false) (sym called) unopened)

  info_over : Over told.0 world state info path ask
  info_over = record {
    refused = λ class h.
        (let is : StandsForAny (kinds told.0 path) (above_refusal (kinds told.0) path) class = h in (
          kinds told.0 path,
          is.0,
          step_there world state path named info called
              ∙ informs_none_at told.0 state ready.fits.is_state agrees path world path is.0 unopened (below_file_at told.0 state ready.fits.is_state agrees path is.0 is.1),
          is.2,
        ));
    spares = λ q may r free. agrees_files (Some told.0) (Some q) state.files (info_quiet path told.0 q may).files agrees r;
    unchanged = λ why is q may. agrees_files (Some told.0) (Some q) state.files (info_quiet path told.0 q may).files agrees;
    keeps = λ q may r tail bytes opened c. (let same = info_quiet path told.0 q may in file_stays told.0 q same.files same.writes r tail bytes c);
  }

  -- an error of the ask
  untold_does : (error : HdfsError) → Came s ask (Err error) t → Does world state info path opened s opened t (Err error)
  untold_does error came =
      refused_does world state info s t told.0 told.1 path ask info_over ready.opened (λ q may. (info_quiet path told.0 q may).files.defaults) called
      (λ byte lost. lost) error came (info_repeats path told.0)

  module _ (status : Option FileStatusMsg) (came : Came s ask (Ok (answers.GetFileInfo status)) t) where
    -- what was answered, and that nothing changed
    answered : (q : Picture) × (t.picture ≡ Some q) × TellsStatus told.0.names told.0.table path status × SameButActive told.0 q
    answered =
        let one = came.told told.0 told.1 (info_repeats path told.0) in
        let row : Row told.0 ask (answers.GetFileInfo status) one.0 = relayed_row (CallsRose s.counts t) told.0 ask (answers.GetFileInfo status) one.0 (λ is. absurd (cc is)) (λ is. absurd (cc is)) one.2 in
        (one.0, one.1, row.0, row.1)

    agrees_still : Agrees t.picture state.files
    agrees_still =
        subst (λ (o : Option Picture). Agrees o state.files) (sym answered.1) (agrees_files (Some told.0) (Some answered.0) state.files answered.3.files agrees)

    carried_still : KeepsCarried opened path s t
    carried_still = still_others opened path s t told.0 answered.0 told.1 answered.1 answered.3

    -- an error behind an answer
    mislaid_does : (error : HdfsError) → Cause world state info s t error → Does world state info path opened s opened t (Err error)
    mislaid_does error cause = record {
      applied =
          failed_applied world state info s t came.relays.leaves.later.namenodes (λ byte lost. lost) error
          (cause, agrees_but (spared world state info error) t.picture state.files agrees_still);
      others = carried_still;
      defaults = same_defaults s t told.0 answered.0 told.1 answered.1 answered.3.files.defaults;
    }

  -- nothing stands there
  missed_does : (text : List ℕ) → Came s ask (Ok (answers.GetFileInfo None)) t → Does world state info path opened s opened t (Err (errors.FileNotFound text))
  missed_does text came =
      let why = missed_at told.0 state ready.fits.is_state agrees path (answered None came).2 in
      let is = step_there world state path named info called ∙ informs_none_at told.0 state ready.fits.is_state agrees path world path (Lacks Missing) unopened why in
      mislaid_does None came (errors.FileNotFound text) ((Missing, is), tt)

  module _ (message : FileStatusMsg) (came : Came s ask (Ok (answers.GetFileInfo (Some message))) t) where
    -- what stands there is told
    told_applied : Applied world state info (holding opened s) (holding opened t) (Ok (info_by message))
    told_applied =
        let one = answered (Some message) came in
        done_applied world state info s t (info_by message) state one.0
        (step_there world state path named info called
        ∙ informs_at told.0 state ready.fits.is_state agrees path world path [] message unopened not_written one.2)
        (record { numbers = refl; attributes = tt; plain = record { bytes = λ moves. moves.0; file = λ opens. opens } })
        ready.fits.is_state one.1 (agrees_files (Some told.0) (Some one.0) state.files one.3.files agrees) ready.opened

    tells : Does world state info path opened s opened t (Ok (info_by message))
    tells =
        let one = answered (Some message) came in
        record {
          applied = told_applied;
          others = carried_still (Some message) came;
          defaults = same_defaults s t told.0 one.0 told.1 one.1 one.3.files.defaults;
        }

    -- under the empty name
    is_text : IsUtf8 message.path
    is_text = subst IsUtf8 (sym (answered (Some message) came).2.named) IsUtf8-nil

module _ {C : Type 0} {shown : C → Shown} {serves : C → ℕ → Ask → Result Answer AskFault → C → Type 0}
    (rows : (old new : C) (i : ℕ) (ask : Ask) (result : Result Answer AskFault) → serves old i ask result new → Served (shown old) i ask result (shown new))
    (below : (c : C) (p : Picture) → (shown c).picture ≡ Some p → p.active < (shown c).namenodes)
    (client client' : Client) (src : List ℕ) (old new : C) where
  abbrev At : Result (Option FileStatusMsg) HdfsError → Type 0
  At outcome = AsksAt serves false asks.GetFileInfo client src old (as_answer answers.GetFileInfo outcome) client' new

  abbrev Tells : Result FileStatus HdfsError → Type 0
  Tells result = TellsAs client src (shown old) client' (shown new) result

  -- an error behind an answer
  lost_does : (status : Option FileStatusMsg) → At (Ok status) → (error : HdfsError)
      → ((path : List ℕ) → is_path path ≡ true → (opened : List ℕ → Bool) → opened path ≡ false → (world : World) (state : State)
      → Ready world (holding opened (shown old)) state (commands.Info path ∷ [])
      → Came (shown old) (asks.GetFileInfo path) (Ok (answers.GetFileInfo status)) (shown new)
      → Does world state (commands.Info path) path opened (shown old) opened (shown new) (Err error))
      → Tells (Err error)
  lost_does status at error does = (
    Err error,
    refl,
    λ reaches to leads named opened placed world state ready.
        still_knows (asked_stays at)
        (does to.path named opened (is_false (opened to.path) placed) world state ready (came_at rows below at reaches to leads)),
  )

  lacks_memory : (status : Option FileStatusMsg) → At (Ok status) → Tells (Err errors.NoMemory)
  lacks_memory status at =
      lost_does status at errors.NoMemory
      (λ path named opened closed world state ready came.
      mislaid_does (shown old) (shown new) path named closed world state ready status came errors.NoMemory (tt, tt))

  told_does : (message : FileStatusMsg) → At (Ok (Some message)) → (name : List ℕ) → Tells (Ok (status_of name message))
  told_does message at name = (
    Ok (info_by message),
    (info_by message, refl, says_same name message),
    λ reaches to leads named opened placed world state ready.
        still_knows (asked_stays at)
        (tells (shown old) (shown new) to.path named (is_false (opened to.path) placed) world state ready message (came_at rows below at reaches to leads)),
  )

  -- What `get_file_info` of a client ensures is what the command does, whose reply says what the status does.
  pub info_does : (result : Result FileStatus HdfsError)
      → Gives serves false asks.GetFileInfo answers.GetFileInfo client src old client' new (λ found. IsInfo src found result)
      → TellsAs client src (shown old) client' (shown new) result
  info_does result gives = by gives.outcome gives.asks result gives.has
    where
      by : (outcome : Result (Option FileStatusMsg) HdfsError) → At outcome → (result : Result FileStatus HdfsError) → IsInfo src outcome result → Tells result
      by (Ok (Some message)) at (Ok status) is =
          subst (λ (x : FileStatus). Tells (Ok x)) (sym is.2) (told_does message at is.0)
      by (Ok (Some message)) at (Err error) (inl memory) = subst (λ (e : HdfsError). Tells (Err e)) (sym memory) (lacks_memory (Some message) at)
      by (Ok (Some message)) at (Err error) (inr no_text) =
          lost_does (Some message) at error
          (λ path named opened closed world state ready came.
          absurd (no_text.1 (is_text (shown old) (shown new) path named closed world state ready message came)))
      by (Ok None) at result (inl missing) =
          subst Tells (sym missing)
          (lost_does None at (errors.FileNotFound src)
          (λ path named opened closed world state ready came. missed_does (shown old) (shown new) path named closed world state ready src came))
      by (Ok None) at result (inr memory) = subst Tells (sym memory) (lacks_memory None at)
      by (Err error) at result is =
          subst Tells (sym is) (
            Err error,
            refl,
            λ reaches to leads named opened placed world state ready.
                still_knows (asked_stays at)
                (untold_does (shown old) (shown new) to.path named (is_false (opened to.path) placed) world state ready error
                (came_at rows below at reaches to leads)),
          )
