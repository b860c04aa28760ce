-- What stands at a path is told: a command that asks once, and changes nothing.
use Rattle.std.proofs.Common.{◌≡◌, inl, inr, ℕ, ◌==◌, Bool, true, false, cond, List, [], Option, Some, None, Ok, Err, option_map, unwrap_or, refl, sym, ◌∙◌, subst, arith}
use Rattle.std.specs.Prelude.{Result}
use Rattle.hdfs_cluster.specs.declared.asks.Answer.{Answer}
use Rattle.hdfs_cluster.specs.declared.asks.Answer.TheVariants as answers
use Rattle.hdfs_cluster.specs.declared.asks.Ask.{Ask}
use Rattle.hdfs_cluster.specs.declared.asks.Ask.TheVariants as asks
use Rattle.hdfs_cluster.specs.declared.errors.HdfsError.{HdfsError}
use Rattle.hdfs_cluster.specs.declared.errors.HdfsError.TheVariants as errors
use Rattle.hdfs_cluster.specs.declared.messages.FileStatusMsg.{FileStatusMsg}
use Rattle.hdfs_cluster.specs.Failures.{CallsRose}
use Rattle.hdfs_cluster.specs.Files.{Content, Missing, State, Writing}
use Rattle.hdfs_cluster.specs.Listing.{TellsStatus}
use Rattle.hdfs_cluster.specs.Namenode.{MayBeDone, Row, StandsForAny}
use Rattle.hdfs_cluster.specs.Picture.{Picture, SameButActive, kinds}
use Rattle.hdfs_cluster.specs.Refusals.{Lacks, above_refusal}
use Rattle.hdfs_cluster.specs.Shown.{Shown}
use Rattle.hdfs_cluster.specs.Stores.{AgreesAt}
use Rattle.hdfs_cluster.proofs.NamesRepeating.{info_repeats}
use Rattle.hdfs_model.specs.declared.commands.Command.{Command}
use Rattle.hdfs_model.specs.declared.commands.Command.TheVariants as commands
use Rattle.hdfs_model.specs.declared.commands.Reply.{Reply}
use Rattle.hdfs_model.specs.declared.commands.Reply.TheVariants as replies
use Rattle.hdfs_model.specs.Anywhere.{IsInfo}
use Rattle.hdfs_model.specs.Statuses.{info_by}
use Rattle.hdfs_model.specs.Steps.{is_opened}
use Rattle.hdfs_model.proofs.Told.{below_file_at, informs_at, informs_none_at, missed_at}
use Rattle.hdfs_names.specs.Paths.{absolute, is_path}
use Rattle.hdfs_namenode.specs.Asked.{as_answer}
use Rattle.hdfs_namenode.specs.Relaying.{Came}
use Rattle.hdfs_namenode.proofs.Relayed.{relayed_done, relayed_row}
use Rattle.hdfs_file_reader.proofs.Looking.{looks_from-Leaves}
use Rattle.hdfs_commands.specs.Acting.{Acts, IsReady, world_at}
use Rattle.hdfs_namenode.specs.Clients.{SameClient}
use Rattle.hdfs_namenode.specs.declared.protocol.NamenodeProtocol.{NamenodeProtocol}
use Rattle.hdfs_commands.specs.Asking.{AreAnswered}
use Rattle.hdfs_commands.specs.Executing.{Executes}
use Rattle.hdfs_commands.proofs.Executed.{asked_executes, turned_executes, unturned_executes}
use Rattle.hdfs_commands.specs.Session.{Stands, after, has_failed, opened_of, writer_of}
use Rattle.hdfs_commands.specs.Whole.{KeepsBlocksWhole}
use Rattle.hdfs_commands.specs.declared.session.Session.{Session}
use Rattle.hdfs_commands.proofs.Agreeing.{agrees_files, agrees_told, is_told}
use Rattle.hdfs_commands.proofs.Failing.{IsStill, late_acts, may_be_done}
use Rattle.hdfs_commands.proofs.Opening.{Over}
use Rattle.hdfs_commands.proofs.Refusing.{step_there}
use Rattle.hdfs_commands.proofs.Sized.{remembers_asked}
use Rattle.hdfs_file_reader.proofs.Transfers.{only_asks_refl}
use Rattle.hdfs_commands.proofs.Still.{file_stays}
use Rattle.hdfs_commands.proofs.Turned.{Turns}
use Rattle.hdfs_commands.proofs.WholeOpening.{stays_files}
use Rattle.hdfs_commands.proofs.WholeStarting.{leaving_whole}

-- of a status a reply is told
pub info_reply : (status : FileStatusMsg) → IsInfo (info_by status)
info_reply status = by (status.file_type == 1)
  where
    by : (b : Bool) → IsInfo (cond b (replies.Info true 0 0 0 0) (replies.Info false status.length status.permission (unwrap_or status.block_replication 0) (unwrap_or status.blocksize 0)))
    by true = (refl, refl, refl, refl)
    by false = tt

pub info_still : (name : List ℕ) → IsStill (commands.Info name)
info_still name = record { sends = λ sends. sends; found = λ old new path byte lost. lost }

-- the ask changes nothing, whatever comes of it
pub info_quiet : (path : List ℕ) (p q : Picture) → MayBeDone (asks.GetFileInfo path) p q → SameButActive p q
info_quiet path p q (inl same) = same
info_quiet path p q (inr (inl done)) = by done.0 done.2
  where
    by : (answer : Answer) → Row p (asks.GetFileInfo path) answer q → SameButActive p q
    by (answers.GetFileInfo status) row = row.1
    by answer row = absurd row
info_quiet path p q (inr (inr own)) = absurd own.0

module _ (s t : Shown) (session : Session) (path name : List ℕ) (named : is_path path ≡ true) (called : absolute session.settings.home name ≡ path) (closed : opened_of session path ≡ false) where
  abbrev info : Command
  info = commands.Info name

  abbrev ask : Ask
  ask = asks.GetFileInfo path

  module _ (state : State) (ready : IsReady s session state info) (p : Picture) (told : s.picture ≡ Some p) where
    agrees : (r : List ℕ) → AgreesAt p (p.names r) (state.files r)
    agrees = agrees_told s.picture p state.files ready.ready.fits.agrees told

    unopened : is_opened state path ≡ false
    unopened = ready.ready.opened path ∙ closed

    not_written : (content : Content) → state.files path ≡ Some (Writing content) → ⊥
    not_written content writing =
        ready.ready.avoids 0 info (omega arith)
        (content, subst (λ (q : List ℕ). state.files q ≡ Some (Writing content)) (sym called) writing, subst (λ (q : List ℕ). is_opened state q ≡ false) (sym called) unopened)

    info_over : Over p (world_at session s) state info path ask
    info_over = record {
      refused = λ class h.
          (let is : StandsForAny (kinds p path) (above_refusal (kinds p) path) class = h in (
            kinds p path,
            is.0,
            step_there (world_at session s) state path named info called
                ∙ informs_none_at p state ready.ready.fits.is_state agrees path (world_at session s) name is.0 unopened (below_file_at p state ready.ready.fits.is_state agrees path is.0 is.1),
            is.2,
          ));
      spares = λ q may r free. agrees_files (Some p) (Some q) state.files (info_quiet path p q may).files agrees r;
      unchanged = λ why is q may. agrees_files (Some p) (Some q) state.files (info_quiet path p q may).files agrees;
      keeps = λ q may r tail bytes opened c. (let same = info_quiet path p q may in file_stays p q same.files same.writes r tail bytes c);
    }

    row_of : (status : Option FileStatusMsg) → Came s ask (Ok (answers.GetFileInfo status)) t → (q : Picture) × (t.picture ≡ Some q) × TellsStatus p.names p.table path status × SameButActive p q
    row_of status came =
        let one = came.told p told (info_repeats path p) in
        let row : Row p ask (answers.GetFileInfo status) one.0 = relayed_row (CallsRose s.counts t) p ask (answers.GetFileInfo status) one.0 (λ is. absurd (cc is)) (λ is. absurd (cc is)) one.2 in
        (one.0, one.1, row.0, row.1)

  module _ (namenode : NamenodeProtocol) (stands : Stands s session) (keeps : SameClient session.namenode namenode) (came : Came s ask (Ok (answers.GetFileInfo None)) t) where
    abbrev asked : Session
    asked = record session { namenode = namenode }

    -- nothing stands there
    missed_acts : Acts info s session t (after {T = Reply} asked (Err (errors.FileNotFound name))) (Err (errors.FileNotFound name))
    missed_acts =
        late_acts info (info_still name) s s session stands (only_asks_refl s) t asked (λ r. refl) (remembers_asked session namenode keeps) ask path (λ state. called) info_over
        (errors.FileNotFound name) refl (looks_from-Leaves s t came.relays.leaves) ((refl, tt), (came.relays.fine, tt))
        (λ state ready p told.
        (let one = row_of state ready p told None came in
        let why = missed_at p state ready.ready.fits.is_state (agrees state ready p told) path one.2 in
        let is = step_there (world_at session s) state path named info called
        ∙ informs_none_at p state ready.ready.fits.is_state (agrees state ready p told) path (world_at session s) name (Lacks Missing) (unopened state ready p told) why in
        (((Missing, is), tt), (one.0, one.1, inl one.3))))

    -- and there is no memory to say so
    unsaid_acts : Acts info s session t (after {T = Reply} asked (Err errors.NoMemory)) (Err errors.NoMemory)
    unsaid_acts =
        late_acts info (info_still name) s s session stands (only_asks_refl s) t asked (λ r. refl) (remembers_asked session namenode keeps) ask path (λ state. called) info_over
        errors.NoMemory refl (looks_from-Leaves s t came.relays.leaves) (tt, (tt, tt))
        (λ state ready p told. (let one = row_of state ready p told None came in ((tt, tt), (one.0, one.1, inl one.3))))

  module _ (status : FileStatusMsg) (came : Came s ask (Ok (answers.GetFileInfo (Some status))) t) where
    informs : (state : State) → IsReady s session state info → Turns s t session state info (info_by status)
    informs state ready =
        let was = is_told s.picture state.files ready.ready.fits.agrees in
        let one = row_of state ready was.0 was.1 (Some status) came in
        record {
          next = state;
          p = was.0;
          q = one.0;
          was = was.1;
          now = one.1;
          done =
              step_there (world_at session s) state path named info called
              ∙ informs_at was.0 state ready.ready.fits.is_state (agrees state ready was.0 was.1) path (world_at session s) name [] status (unopened state ready was.0 was.1) (not_written state ready was.0 was.1) one.2;
          limited = record { numbers = refl; attributes = tt; plain = record { bytes = λ moves. moves.0; file = λ opens. opens } };
          is_state = ready.ready.fits.is_state;
          agrees = agrees_files (Some was.0) (Some one.0) state.files one.3.files (agrees state ready was.0 was.1);
          opened = refl;
          named = λ r node opened is. is;
          defaults = one.3.files.defaults;
          keeps = λ r tail bytes opened c. file_stays was.0 one.0 one.3.files one.3.writes r tail bytes c;
        }

-- whatever comes of it, the blocks of files stay
info_whole : (s t : Shown) (session session' : Session) (path name : List ℕ) → ((r : List ℕ) → writer_of session' r ≡ writer_of session r) → (answer : Result (Option FileStatusMsg) HdfsError)
    → Came s (asks.GetFileInfo path) (as_answer answers.GetFileInfo answer) t → (result : Result Reply HdfsError) → KeepsBlocksWhole (commands.Info name) s session t session' result
info_whole s t session session' path name writers answer came result state ready =
    let was = is_told s.picture state.files ready.ready.fits.agrees in
    let to = came.told was.0 was.1 (info_repeats path was.0) in
    let ask = asks.GetFileInfo path in
    let done = may_be_done ask was.0 to.0 (relayed_done (CallsRose s.counts t) was.0 ask (as_answer answers.GetFileInfo answer) to.0 came.relays.shaped to.2) in
    leaving_whole (commands.Info name) s t session session' was.0 to.0 was.1 to.1 (stays_files was.0 to.0 (info_quiet path was.0 to.0 done).files) writers (λ name' options same. cc same) result

module _ {may_answer : Ask → Answer → Type 0} {s t : Shown} {session : Session} {namenode : NamenodeProtocol} {path name : List ℕ} (stands : Stands s session) (fine : has_failed session ≡ false)
    (answered : AreAnswered may_answer session) (keeps : SameClient session.namenode namenode) (named : is_path path ≡ true) (called : absolute session.settings.home name ≡ path) (closed : opened_of session path ≡ false) where
  -- an error of the ask
  pub untold_executes : {error : HdfsError} → Came s (asks.GetFileInfo path) (Err error) t
      → Executes may_answer (commands.Info name) s session t (record session { namenode = namenode; failed = true }) (Err error)
  untold_executes {error} came =
      unturned_executes stands fine answered keeps named called (λ opened. cc (closed, opened)) (λ session' writers. info_whole s t session session' path name writers (Err error) came)
      (info_still name) (asks.GetFileInfo path) (info_over s t session path name named called closed) (info_repeats path) came

  -- what stands there is told
  pub told_executes : (status : Option FileStatusMsg) {reply : Reply} → option_map info_by status ≡ Some reply → Came s (asks.GetFileInfo path) (Ok (answers.GetFileInfo status)) t
      → Executes may_answer (commands.Info name) s session t (record session { namenode = namenode }) (Ok reply)
  told_executes None is came = absurd (cc is)
  told_executes (Some told) {reply} is came =
      let same : info_by told ≡ reply = cc is in
      subst (λ (r : Reply). Executes may_answer (commands.Info name) s session t (record session { namenode = namenode }) (Ok r)) same
      (turned_executes stands fine answered keeps named called (λ opened. cc (closed, opened)) (λ session' writers. info_whole s t session session' path name writers (Ok (Some told)) came)
      (info_by told) (informs s t session path name named called closed told came) (info_reply told) came.relays.leaves)

  -- nothing stands there
  pub missed_executes : (status : Option FileStatusMsg) {text : List ℕ} → option_map info_by status ≡ None → Came s (asks.GetFileInfo path) (Ok (answers.GetFileInfo status)) t
      → may_answer (asks.GetFileInfo path) (answers.GetFileInfo status) → text ≡ name
      → Executes may_answer (commands.Info name) s session t (record session { namenode = namenode; failed = true }) (Err (errors.FileNotFound text))
  missed_executes (Some told) is came said same = absurd (cc is)
  missed_executes None is came said same =
      subst (λ (x : List ℕ). Executes may_answer (commands.Info name) s session t (record session { namenode = namenode; failed = true }) (Err (errors.FileNotFound x))) (sym same)
      (asked_executes stands fine answered keeps named called (λ opened. cc (closed, opened)) (λ session' writers. info_whole s t session session' path name writers (Ok None) came)
      (Err (errors.FileNotFound name))
      (missed_acts s t session path name named called closed namenode stands keeps came) (inl tt, said))

  -- and there is no memory to say so
  pub unsaid_executes : (status : Option FileStatusMsg) → option_map info_by status ≡ None → Came s (asks.GetFileInfo path) (Ok (answers.GetFileInfo status)) t
      → Executes may_answer (commands.Info name) s session t (record session { namenode = namenode; failed = true }) (Err errors.NoMemory)
  unsaid_executes (Some told) is came = absurd (cc is)
  unsaid_executes None is came =
      asked_executes stands fine answered keeps named called (λ opened. cc (closed, opened)) (λ session' writers. info_whole s t session session' path name writers (Ok None) came)
      (Err errors.NoMemory) (unsaid_acts s t session path name named called closed namenode stands keeps came) (inl tt, tt)
