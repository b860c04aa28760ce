-- A listing, as a command of a session: it changes nothing, and is as the step says where the names are told.
use Rattle.std.proofs.Common.{◌≡◌, ◌⊎◌, inl, inr, ⊎_elim, ℕ, ◌≤◌, Bool, true, false, List, [], length, Option, Some, Result, Ok, Err, refl, sym, ◌∙◌, subst}
use Rattle.std.specs.Prelude.{IfErr, IfOk, Vec}
use Rattle.std.specs.declared.alloc.Global.{Global}
use Rattle.std.proofs.lemmas.Str.{IsUtf8-nil}
use Rattle.hdfs_cluster.specs.declared.asks.Answer.{Answer}
use Rattle.hdfs_cluster.specs.declared.asks.Ask.{Ask}
use Rattle.hdfs_cluster.specs.declared.asks.Ask.TheVariants as asks
use Rattle.hdfs_cluster.specs.declared.errors.HdfsError.{HdfsError}
use Rattle.hdfs_cluster.specs.declared.errors.HdfsError.TheVariants as errors
use Rattle.hdfs_cluster.specs.Files.{Missing, State}
use Rattle.hdfs_cluster.specs.Namenode.{IsRefusal, StandsForAny}
use Rattle.hdfs_cluster.specs.Picture.{Picture, kinds}
use Rattle.hdfs_cluster.specs.Refusals.{Lacks, above_refusal}
use Rattle.hdfs_cluster.specs.Repeating.{Leaves}
use Rattle.hdfs_cluster.specs.Shown.{Shown}
use Rattle.hdfs_cluster.specs.Sound.{IsSound}
use Rattle.hdfs_cluster.specs.Stores.{Agrees}
use Rattle.hdfs_cluster.proofs.Frames.{never_fall_refl}
use Rattle.hdfs_model.specs.declared.commands.Command.{Command}
use Rattle.hdfs_model.specs.declared.commands.Command.TheVariants as commands
use Rattle.hdfs_model.specs.declared.commands.PathEntry.{PathEntry}
use Rattle.hdfs_model.specs.declared.commands.Reply.{Reply}
use Rattle.hdfs_model.specs.declared.commands.Reply.TheVariants as replies
use Rattle.hdfs_model.specs.Causes.{Cause, Tells as TellsOf}
use Rattle.hdfs_model.specs.Owing.{IsNotOwed}
use Rattle.hdfs_model.specs.Sessions.{spared}
use Rattle.hdfs_model.specs.Steps.{Done, step, step_at}
use Rattle.hdfs_model.proofs.Told.{below_file_at, lists_none_at, missed_at}
use Rattle.hdfs_names.specs.Paths.{absolute, is_path}
use Rattle.hdfs_file_reader.proofs.Looking.{looks_from-Leaves}
use Rattle.hdfs_listing.specs.Listing.{LacksListing, Lists, Tells, TellsListing, listed}
use Rattle.hdfs_commands.specs.Acting.{Acts, IsReady, world_at}
use Rattle.hdfs_commands.specs.Refusing.{IsAnsweredSo}
use Rattle.hdfs_namenode.specs.Clients.{SameClient, name_of}
use Rattle.hdfs_namenode.specs.declared.protocol.NamenodeProtocol.{NamenodeProtocol}
use Rattle.hdfs_commands.specs.Asking.{AreAnswered}
use Rattle.hdfs_commands.specs.Executing.{Executes}
use Rattle.hdfs_commands.proofs.Executed.{asked_executes, turned_executes}
use Rattle.hdfs_commands.proofs.Sized.{remembers_asked}
use Rattle.hdfs_commands.specs.Session.{CarriesFile, CarriesOpen, Stands, after, has_failed, writer_of}
use Rattle.hdfs_commands.specs.Whole.{KeepsBlocksWhole}
use Rattle.hdfs_commands.specs.declared.session.Session.{Session}
use Rattle.hdfs_commands.proofs.Acted.{failed_acts}
use Rattle.hdfs_commands.proofs.Agreeing.{agrees_but, agrees_files, agrees_told, is_told}
use Rattle.hdfs_commands.proofs.Owing.{ask_not_owed}
use Rattle.hdfs_commands.proofs.Refused.{asked_so}
use Rattle.hdfs_commands.proofs.Refusing.{RefusesAs, ask_tells, exception_cause, rose_cause, step_there}
use Rattle.hdfs_commands.proofs.Still.{carries_stays, file_stays}
use Rattle.hdfs_commands.proofs.Turned.{Turns}
use Rattle.hdfs_commands.proofs.WholeOpening.{stays_files}
use Rattle.hdfs_commands.proofs.WholeStarting.{leaving_whole}

module _ (may_answer : Ask → Answer → Type 0) (s t : Shown) (session : Session) (path name : List ℕ) (recursive : Bool) (limit : ℕ) where
  abbrev list : Command
  list = commands.List name recursive limit

  -- what an error tells over any cluster
  list_tells : (error : HdfsError) → TellsListing may_answer name recursive path limit s error t → TellsOf list s t error
  list_tells error (inl missing) = subst (TellsOf list s t) (sym missing.0) ((refl, tt), (missing.1, tt))
  list_tells error (inr (inl no_text)) = subst (TellsOf list s t) (sym no_text) (refl, (tt, tt))
  list_tells error (inr (inr (inl many))) = subst (TellsOf list s t) (sym many.0) (refl, (many.1, tt))
  list_tells error (inr (inr (inr asked))) = ask_tells list s s t error (never_fall_refl s.counts) asked

  list_owed : (error : HdfsError) → TellsListing may_answer name recursive path limit s error t → IsNotOwed error ⊎ (error ≡ errors.InvalidPath name)
  list_owed error (inl missing) = inl (subst IsNotOwed (sym missing.0) tt)
  list_owed error (inr (inl no_text)) = inr no_text
  list_owed error (inr (inr (inl many))) = inl (subst IsNotOwed (sym many.0) tt)
  list_owed error (inr (inr (inr asked))) = inl (ask_not_owed s t error asked)

  list_refused : (client : List ℕ) (error : HdfsError) → TellsListing may_answer name recursive path limit s error t → IsAnsweredSo may_answer client path list error
  list_refused client error (inl missing) = subst (IsAnsweredSo may_answer client path list) (sym missing.0) missing.2
  list_refused client error (inr (inl no_text)) = subst (IsAnsweredSo may_answer client path list) (sym no_text) tt
  list_refused client error (inr (inr (inl many))) = subst (IsAnsweredSo may_answer client path list) (sym many.0) many.2
  list_refused client error (inr (inr (inr asked))) = asked_so may_answer client path list error asked.0

  module _ (sound : (p : Picture) → s.picture ≡ Some p → IsSound p) (result : Result (Vec PathEntry Global) HdfsError)
      (told : (p : Picture) (state : State) → s.picture ≡ Some p → Tells p state → Lists p state name path recursive limit s t result) where
    -- over a state that the session is ready for
    module _ (state : State) (ready : IsReady s session state list) where
      abbrev was : (p : Picture) × (s.picture ≡ Some p)
      was = is_told s.picture state.files ready.ready.fits.agrees

      tells : Tells was.0 state
      tells = record {
        texts = (sound was.0 was.1).texts;
        is_state = ready.ready.fits.is_state;
        agrees = agrees_told s.picture was.0 state.files ready.ready.fits.agrees was.1;
      }

      lists : Lists was.0 state name path recursive limit s t result
      lists = told was.0 state was.1 tells

    -- the blocks of files stay
    list_whole : (session' : Session) → ((r : List ℕ) → writer_of session' r ≡ writer_of session r) → (reply : Result Reply HdfsError) → KeepsBlocksWhole list s session t session' reply
    list_whole session' writers reply state ready =
        let h = lists state ready in
        leaving_whole list s t session session' (was state ready).0 h.q (was state ready).1 h.now (stays_files (was state ready).0 h.q h.same.files) writers (λ name' options same. cc same) reply

    module _ (named : is_path path ≡ true) (called : absolute session.settings.home name ≡ path) where
      stepped : (state : State) → IsReady s session state list → step (world_at session s) state list ≡ step_at (world_at session s) state path list
      stepped state ready = step_there (world_at session s) state path named list called

      -- why it fails
      cause : (state : State) (ready : IsReady s session state list) (error : HdfsError) → LacksListing (was state ready).0 state name path recursive limit s error t → Cause (world_at session s) state list s t error
      cause state ready error (inl (inl memory)) = subst (Cause (world_at session s) state list s t) (sym memory) (tt, tt)
      cause state ready error (inl (inr rose)) = rose_cause (world_at session s) state list s s t error (never_fall_refl s.counts) rose.0 rose.1
      cause state ready error (inr (inl refused)) =
          subst (Cause (world_at session s) state list s t) (sym refused.3)
          (exception_cause (world_at session s) state list s t refused.0 refused.1 (inl (stands_for refused.0 refused.2)))
        where
          stands_for : (class : List ℕ) → IsRefusal (was state ready).0 (asks.GetListing path [] false) class → RefusesAs (world_at session s) state list class
          stands_for class h = ⊎_elim
              (λ above.
              (let p = (was state ready).0 in
              let is : StandsForAny (kinds p path) (above_refusal (kinds p) path) class = above in (
                kinds p path,
                is.0,
                stepped state ready
                    ∙ lists_none_at p state (tells state ready).is_state (tells state ready).agrees path (world_at session s) name recursive limit is.0 (below_file_at p state (tells state ready).is_state (tells state ready).agrees path is.0 is.1),
                is.2,
              )))
              (λ bad. absurd (bad.0 IsUtf8-nil))
              h
      cause state ready error (inr (inr (inl missing))) =
          subst (Cause (world_at session s) state list s t) (sym missing.0) (
            (
              Missing,
              stepped state ready
                  ∙ lists_none_at (was state ready).0 state (tells state ready).is_state (tells state ready).agrees path (world_at session s) name recursive limit (Lacks Missing)
                  (missed_at (was state ready).0 state (tells state ready).is_state (tells state ready).agrees path missing.1),
            ),
            tt,
          )
      cause state ready error (inr (inr (inr many))) =
          subst (Cause (world_at session s) state list s t) (sym many.0) ((stepped state ready ∙ many.1, refl), tt)

      -- its entries
      lists_done : {entries : Vec PathEntry Global} → result ≡ Ok entries → (state : State) → IsReady s session state list → Turns s t session state list (replies.Listed entries.items)
      lists_done is state ready =
          let h = lists state ready in
          record {
            next = state;
            p = (was state ready).0;
            q = h.q;
            was = (was state ready).1;
            now = h.now;
            done =
                stepped state ready
                ∙ subst (λ (r : Result (Vec PathEntry Global) HdfsError). IfOk r (λ found. listed state path recursive limit ≡ Done (replies.Listed found.items) state)) is h.ok;
            limited = record { numbers = refl; attributes = tt; plain = record { bytes = λ moves. moves.0; file = λ opens. opens } };
            is_state = ready.ready.fits.is_state;
            agrees = agrees_files (Some (was state ready).0) (Some h.q) state.files h.same.files (tells state ready).agrees;
            opened = refl;
            named = λ r node opened there. there;
            defaults = h.same.files.defaults;
            keeps = λ r tail bytes opened c. file_stays (was state ready).0 h.q h.same.files h.same.writes r tail bytes c;
          }

      module _ (namenode : NamenodeProtocol) (stands : Stands s session) (keeps : SameClient session.namenode namenode) (leaves : Leaves s t) where
        open_still : (state : State) → IsReady s session state list → CarriesOpen t (record session { namenode = namenode }) state
        open_still state ready = record {
          each = λ x now r writer is.
              (let h = lists state ready in
              let same : h.q ≡ x = cc (h.now, now) in
              let there = ready.carried.each (was state ready).0 (was state ready).1 r writer is in
              inr (subst (λ (y : Picture). CarriesFile y state r writer) same (carries_stays (was state ready).0 h.q h.same.files h.same.writes state r writer there)));
        }

        -- an error of it
        unlisted_acts : (error : HdfsError) → result ≡ Err error → TellsListing may_answer name recursive path limit s error t
            → Acts list s session t (after {T = Reply} (record session { namenode = namenode }) (Err error)) (Err error)
        unlisted_acts error is tells_it =
            failed_acts list (λ sends. sends) s t session (record session { namenode = namenode }) error stands (looks_from-Leaves s t leaves) (λ r. refl) (remembers_asked session namenode keeps)
            (list_tells error tells_it) (λ at byte lost. lost)
            (λ state ready.
            (let h = lists state ready in (
              cause state ready error (subst (λ (r : Result (Vec PathEntry Global) HdfsError). IfErr r (λ e. LacksListing (was state ready).0 state name path recursive limit s e t)) is h.err),
              agrees_but (spared (world_at session s) state list error) t.picture state.files
                  (subst (λ (o : Option Picture). Agrees o state.files) (sym h.now) (agrees_files (Some (was state ready).0) (Some h.q) state.files h.same.files (tells state ready).agrees)),
            )))
            open_still

module _ {may_answer : Ask → Answer → Type 0} {s t : Shown} {session : Session} {namenode : NamenodeProtocol} {path name : List ℕ} {recursive : Bool} {limit : ℕ} {result : Result (Vec PathEntry Global) HdfsError}
    (stands : Stands s session) (fine : has_failed session ≡ false) (answered : AreAnswered may_answer session) (keeps : SameClient session.namenode namenode) (named : is_path path ≡ true)
    (called : absolute session.settings.home name ≡ path) (leaves : Leaves s t) (sound : (p : Picture) → s.picture ≡ Some p → IsSound p)
    (told : (p : Picture) (state : State) → s.picture ≡ Some p → Tells p state → Lists p state name path recursive limit s t result) where
  -- what comes of its entries
  pub listed_executes : {entries : Vec PathEntry Global} → result ≡ Ok entries → length entries.items ≤ limit
      → Executes may_answer (commands.List name recursive limit) s session t (record session { namenode = namenode }) (Ok (replies.Listed entries.items))
  listed_executes {entries} is few =
      turned_executes stands fine answered keeps named called (λ none. none) (list_whole may_answer s t session path name recursive limit sound result told) (replies.Listed entries.items)
      (lists_done may_answer s t session path name recursive limit sound result told named called is) (entries.items, refl, few) leaves

  -- and of its error
  pub unlisted_executes : {error : HdfsError} → result ≡ Err error → TellsListing may_answer name recursive path limit s error t
      → Executes may_answer (commands.List name recursive limit) s session t (record session { namenode = namenode; failed = true }) (Err error)
  unlisted_executes {error} is tells =
      asked_executes stands fine answered keeps named called (λ none. none) (list_whole may_answer s t session path name recursive limit sound result told) (Err error)
      (unlisted_acts may_answer s t session path name recursive limit sound result told named called namenode stands keeps leaves error is tells)
      (list_owed may_answer s t session path name recursive limit error tells, list_refused may_answer s t session path name recursive limit (name_of session.namenode) error tells)
