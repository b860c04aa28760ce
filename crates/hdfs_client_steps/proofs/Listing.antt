-- A client lists what stands at a path as a session does.
use Rattle.std.proofs.Common.{◌≡◌, ◌⊎◌, inl, inr, ⊎_elim, ℕ, ◌<◌, ◌≤◌, nat_lt, Bool, true, false, cond, List, [], ◌∷◌, length, map, Option, Some, Ok, Err, refl, sym, ◌∙◌, ap, subst, arith}
use Rattle.std.specs.Prelude.{IfOk, IsUtf8, MatchResult, Result, Vec, vec_len}
use Rattle.std.specs.declared.alloc.Global.{Global}
use Rattle.std.proofs.lemmas.Bool.{false≢true}
use Rattle.std.proofs.lemmas.Bool.Decides.{nat_tests}
use Rattle.std.proofs.lemmas.List.{length-map}
use Rattle.std.proofs.lemmas.Str.{IsUtf8-nil}
use Rattle.hdfs_cluster.specs.declared.asks.Answer.{Answer}
use Rattle.hdfs_cluster.specs.declared.asks.Ask.{Ask}
use Rattle.hdfs_cluster.specs.declared.asks.Ask.TheVariants as asks
use Rattle.hdfs_cluster.specs.declared.errors.ArgFault.TheVariants as args
use Rattle.hdfs_cluster.specs.declared.errors.HdfsError.{HdfsError}
use Rattle.hdfs_cluster.specs.declared.errors.HdfsError.TheVariants as errors
use Rattle.hdfs_cluster.specs.declared.messages.FileStatusMsg.{FileStatusMsg}
use Rattle.hdfs_cluster.specs.declared.picture.Entry.{Entry}
use Rattle.hdfs_cluster.specs.declared.picture.Entry.TheVariants as entries
use Rattle.hdfs_cluster.specs.Files.{Missing, State}
use Rattle.hdfs_cluster.specs.Namenode.{IsRefusal, StandsForAny}
use Rattle.hdfs_cluster.specs.Picture.{Picture, kinds}
use Rattle.hdfs_cluster.specs.Refusals.{Lacks, above_refusal}
use Rattle.hdfs_cluster.specs.Shown.{Shown}
use Rattle.hdfs_cluster.specs.Sound.{IsSound}
use Rattle.hdfs_cluster.specs.Stores.{Agrees}
use Rattle.hdfs_cluster.proofs.Frames.{never_fall_refl}
use Rattle.hdfs_names.specs.Paths.{is_path}
use Rattle.hdfs_names.specs.declared.mounts.Resolved.{Resolved}
use Rattle.hdfs_model.specs.declared.commands.Command.{Command}
use Rattle.hdfs_model.specs.declared.commands.Command.TheVariants as commands
use Rattle.hdfs_model.specs.declared.commands.PathEntry.{PathEntry}
use Rattle.hdfs_model.specs.declared.commands.Reply.{Reply}
use Rattle.hdfs_model.specs.declared.commands.Reply.TheVariants as replies
use Rattle.hdfs_model.specs.Causes.{Cause}
use Rattle.hdfs_model.specs.Headline.{Applied}
use Rattle.hdfs_model.specs.Scenes.{Ready}
use Rattle.hdfs_model.specs.Sessions.{spared}
use Rattle.hdfs_model.specs.Steps.{Done, Refused, TooMany, World, entry_at, list_paths, step, step_at}
use Rattle.hdfs_model.proofs.Told.{below_file_at, lists_directory_at, lists_file_at, lists_none_at, missed_at}
use Rattle.hdfs_namenode.specs.Relaying.{RefusedBy}
use Rattle.hdfs_listing.specs.Listing.{FailsAsk, Tells}
use Rattle.hdfs_commands.proofs.Agreeing.{agrees_but, agrees_files}
use Rattle.hdfs_commands.proofs.Refusing.{RefusesAs, exception_cause, rose_cause, step_there}
use Rattle.hdfs_client.specs.Clients.{Stays, leads_to, mounts_of}
use Rattle.hdfs_client.specs.Iterating.{IsEntryFault}
use Rattle.hdfs_client.specs.Listing.{AreOnPages, Finds, HasAll, HasSome, IsAnswered, IsBelow, IsFrom, Lists, alone, answered, asked, leads_by, nothing, with_own}
use Rattle.hdfs_client.specs.Statuses.{IsStatus}
use Rattle.hdfs_client.specs.Told.{HasNoPage, IsEndedBelowIn, IsEndedIn, IsListFaultIn, IsNextFault, IsPageIn, IsStill, IsWholeBelow, WhereTold}
use Rattle.hdfs_client.specs.Writing.{ReachesWhole}
use Rattle.hdfs_client.specs.declared.client.Client.{Client}
use Rattle.hdfs_client.specs.declared.errors.ClientError.{ClientError}
use Rattle.hdfs_client.specs.declared.status.FileStatus.{FileStatus}
use Rattle.hdfs_client_steps.specs.Steps.{Does, KeepsAt, KnowsStill, ListsAs, SaysListed, holding}
use Rattle.hdfs_client_steps.proofs.Applying.{absolute_path, agrees_of, done_applied, failed_applied, same_defaults, still_at, still_others, told_of}
use Rattle.hdfs_client_steps.proofs.Knowing.{still_knows}
use Rattle.hdfs_client_steps.proofs.Pages.{all_said, as_said, first_text, on_page_text, paths_of, same_place, some_said}

-- ---- nothing below what stands at the path is listed

-- what is found is what was had
finds_own : (Has : List ℕ → List FileStatus → Type 0) (own found : List FileStatus) → Finds Has false own found → found ≡ own
finds_own Has _ _ nothing = refl
finds_own Has _ _ (alone status others found plain finds) = ap (λ (l : List FileStatus). status ∷ l) (finds_own Has others found finds)
finds_own Has _ _ (with_own status own inside others found deep has finds more) = absurd (false≢true deep)

-- no other path is
only_itself : (Has : List ℕ → List FileStatus → Type 0) (path dir : List ℕ) → IsBelow Has false path dir → dir ≡ path
only_itself Has path _ asked = refl
only_itself Has path _ (answered dir before status behind below has deep) = absurd (false≢true deep)

-- ---- over a state

within : (limit n : ℕ) → n ≤ limit → nat_lt limit n ≡ false
within limit n less = grind (arith, nat_tests, less)

beyond : (limit n : ℕ) → limit < n → nat_lt limit n ≡ true
beyond limit n more = grind (arith, nat_tests, more)

module _ (client client' : Client) (stays : Stays client client') (src : List ℕ) (limit : ℕ) (s t : Shown) (sound : (p : Picture) → s.picture ≡ Some p → IsSound p)
    (to : Resolved) (leads : leads_to client src ≡ Some to) (named : is_path to.path ≡ true) {opened : List ℕ → Bool} (world : World) (state : State)
    (ready : Ready world (holding opened s) state (commands.List to.path false limit ∷ [])) where
  abbrev list : Command
  list = commands.List to.path false limit

  abbrev pub told : (p : Picture) × (s.picture ≡ Some p)
  told = told_of s world state list ready

  -- the picture agrees with the state
  pub tells : Tells told.0 state
  tells = record { texts = (sound told.0 told.1).texts; is_state = ready.fits.is_state; agrees = agrees_of s world state list ready }

  stepped : step world state list ≡ step_at world state to.path list
  stepped = step_there world state to.path named list (absolute_path world.home to.path named)

  -- what is listed with what stands there
  abbrev paths : Entry → List (List ℕ)
  paths entry = paths_of told.0 state tells (mounts_of client) src to leads entry

  lists : (entry : Entry) → told.0.names to.path ≡ Some entry → step world state list ≡ list_paths state (paths entry) limit
  lists entries.Dir is = stepped ∙ lists_directory_at told.0 state tells.is_state tells.agrees to.path world to.path false limit is
  lists (entries.File file) is = stepped ∙ lists_file_at told.0 state tells.is_state tells.agrees to.path world to.path false limit file is

  lists_few : (entry : Entry) → told.0.names to.path ≡ Some entry → length (paths entry) ≤ limit
      → step world state list ≡ Done (replies.Listed (map (entry_at state) (paths entry))) state
  lists_few entry is few =
      lists entry is
      ∙ ap (λ (b : Bool). cond b (Refused TooMany) (Done (replies.Listed (map (entry_at state) (paths entry))) state)) (within limit (length (paths entry)) few)

  lists_many : (entry : Entry) → told.0.names to.path ≡ Some entry → limit < length (paths entry) → step world state list ≡ Refused TooMany
  lists_many entry is many =
      lists entry is
      ∙ ap (λ (b : Bool). cond b (Refused TooMany) (Done (replies.Listed (map (entry_at state) (paths entry))) state)) (beyond limit (length (paths entry)) many)

  module _ (still : IsStill told.0 s t) where
    agrees_still : Agrees t.picture state.files
    agrees_still =
        subst (λ (o : Option Picture). Agrees o state.files) (sym still.now)
        (agrees_files (Some told.0) (Some still.q) state.files still.same.files tells.agrees)

    -- what was done, by what came of the command
    did : (said : Result Reply HdfsError) → Applied world state list (holding opened s) (holding opened t) said
        → Does world state list to.path opened s opened t said × KeepsAt to.path s t × KnowsStill client s client' t
    did said applied =
        let so = still_knows stays (record {
          applied = applied;
          others = still_others opened to.path s t told.0 still.q told.1 still.now still.same;
          defaults = same_defaults s t told.0 still.q told.1 still.now still.same.files.defaults;
        }) in
        (so.0, still_at to.path s t told.0 still.q told.1 still.now still.same, so.1)

    -- an error that has its cause
    failed : (error : HdfsError) → Cause world state list s t error
        → Does world state list to.path opened s opened t (Err error) × KeepsAt to.path s t × KnowsStill client s client' t
    failed error cause =
        did (Err error)
        (failed_applied world state list s t still.later.namenodes (λ byte lost. lost) error
        (cause, agrees_but (spared world state list error) t.picture state.files agrees_still))

    -- ---- entries

    -- what the command says of a result of the call
    abbrev Says : Result (Vec FileStatus Global) ClientError → Type 0
    Says result = (said : Result Reply HdfsError) × SaysListed src to.path result said
        × Does world state list to.path opened s opened t said × KeepsAt to.path s t × KnowsStill client s client' t

    done : (found : Vec FileStatus Global) → vec_len found ≤ limit → HasAll (IsPageIn told.0) (mounts_of client) src found.items → Says (Ok found)
    done found few has =
        let all = all_said told.0 state tells (mounts_of client) src to leads found.items has in
        let said : List PathEntry = map (entry_at state) (paths all.0) in
        let as_many : length found.items ≡ length said = as_said src to.path found.items said all.2 in
        let size : length said ≡ length (paths all.0) = length-map (paths all.0) (entry_at state) in
        let less : length (paths all.0) ≤ limit = omega (arith, as_many, size, few, found.ok.0) in
        let so =
        did (Ok (replies.Listed said))
        (done_applied world state list s t (replies.Listed said) state still.q (lists_few all.0 all.1 less)
        (record { numbers = refl; attributes = tt; plain = record { bytes = λ moves. moves.0; file = λ opens. opens } })
        ready.fits.is_state still.now (agrees_files (Some told.0) (Some still.q) state.files still.same.files tells.agrees) ready.opened) in
        (Ok (replies.Listed said), (said, refl, all.2), so.0, so.1, so.2)

    -- ---- errors

    -- there is more than is allowed
    too_many : (own : List FileStatus) → HasSome (IsPageIn told.0) (mounts_of client) src own → limit < length own
        → Cause world state list s t (errors.InvalidArgument (args.TooMany limit))
    too_many own has more = ((by (some_said told.0 state tells (mounts_of client) src to leads own has), refl), tt)
      where
        by : (own ≡ []) ⊎ ((entry : Entry) × (told.0.names to.path ≡ Some entry) × (length own ≤ length (paths entry))) → step world state list ≡ Refused TooMany
        by (inl none) =
            let size : length own ≡ 0 = ap (λ (l : List FileStatus). length l) none in
            absurd (omega (arith, more, size))
        by (inr some) =
            let less : length own ≤ length (paths some.0) = some.2 in
            lists_many some.0 some.1 (omega (arith, more, less))

    -- the ask was refused, behind a text
    refused : (start : List ℕ) → IsUtf8 start → (error : HdfsError) → RefusedBy told.0 (asks.GetListing to.path start false) error → Cause world state list s t error
    refused start text error by =
        subst (λ (e : HdfsError). Cause world state list s t e) (sym by.3) (exception_cause world state list s t by.0 by.1 (inl (stands_for by.0 by.2)))
      where
        stands_for : (class : List ℕ) → IsRefusal told.0 (asks.GetListing to.path start false) class → RefusesAs world state list class
        stands_for class h = ⊎_elim
            (λ above.
            (let p = told.0 in
            let is : StandsForAny (kinds p to.path) (above_refusal (kinds p) to.path) class = above in (
              kinds p to.path,
              is.0,
              stepped ∙ lists_none_at p state tells.is_state tells.agrees to.path world to.path false limit is.0
                  (below_file_at p state tells.is_state tells.agrees to.path is.0 is.1),
              is.2,
            )))
            (λ bad. absurd (bad.0 text))
            h

    -- nothing stands there
    no_page : (start : List ℕ) → IsUtf8 start → (error : HdfsError) → HasNoPage told.0 to.path start src error → Cause world state list s t error
    no_page start text error (inl by) = refused start text error by
    no_page start text error (inr missing) =
        subst (λ (e : HdfsError). Cause world state list s t e) (sym missing.0) (
          (
            Missing,
            stepped ∙ lists_none_at told.0 state tells.is_state tells.agrees to.path world to.path false limit (Lacks Missing)
                (missed_at told.0 state tells.is_state tells.agrees to.path missing.1),
          ),
          tt,
        )

    -- an ask has failed
    ask_fails : (error : HdfsError) → FailsAsk s error t → Cause world state list s t error
    ask_fails error (inl memory) = subst (λ (e : HdfsError). Cause world state list s t e) (sym memory) (tt, tt)
    ask_fails error (inr rose) = rose_cause world state list s s t error (never_fall_refl s.counts) rose.0 rose.1

    -- an entry can't be given: its name is text, so there was no memory
    no_entry : (error : HdfsError) (message : FileStatusMsg) → IsUtf8 message.path → IsStatus src message (Err error) → Cause world state list s t error
    no_entry error message text (inl memory) = ask_fails error (inl memory)
    no_entry error message text (inr no_text) = absurd (no_text.1 text)

    from_text : (start : List ℕ) → IsFrom (IsPageIn told.0) (mounts_of client) src start → IsUtf8 start
    from_text start (inl none) = subst IsUtf8 (sym none) IsUtf8-nil
    from_text start (inr on) = subst IsUtf8 (sym on.2) (on_page_text told.0 state tells (mounts_of client) src to leads on.0 on.1)

    -- the listing of the path was ended
    ended : (error : HdfsError) → IsEndedBelowIn told.0 (mounts_of client) false src s t error → Cause world state list s t error
    ended error end = by end.why
      where
        itself : end.dir.path ≡ src
        itself = only_itself (HasSome (IsPageIn told.0) (mounts_of client)) src end.dir.path end.below

        on : AreOnPages (IsPageIn told.0) (mounts_of client) src end.dir.held
        on = subst (λ (x : List ℕ). AreOnPages (IsPageIn told.0) (mounts_of client) x end.dir.held) itself end.told

        text : IsUtf8 end.dir.start
        text = from_text end.dir.start (subst (λ (x : List ℕ). IsFrom (IsPageIn told.0) (mounts_of client) x end.dir.start) itself end.from)

        page : (r : Resolved) → leads_by (mounts_of client) src r → HasNoPage told.0 r.path end.dir.start src error → Cause world state list s t error
        page r there none =
            let same : r ≡ to = same_place _ r to there leads in
            no_page end.dir.start text error (subst (λ (x : Resolved). HasNoPage told.0 x.path end.dir.start src error) same none)

        held : IsEntryFault src end.dir.held error → Cause world state list s t error
        held (message, rest, is, fault) =
            let here = subst (λ (ms : List FileStatusMsg). AreOnPages (IsPageIn told.0) (mounts_of client) src ms) is on in
            no_entry error message (on_page_text told.0 state tells (mounts_of client) src to leads message here.0) fault

        next : IsNextFault told.0 (mounts_of client) end.dir error → Cause world state list s t error
        next fault =
            let was : IsAnswered (IsPageIn told.0) (mounts_of client) src end.dir.start fault.0 =
            subst (λ (x : List ℕ). IsAnswered (IsPageIn told.0) (mounts_of client) x end.dir.start fault.0) itself fault.1 in
            let first : IsEntryFault src fault.0.partial_listing error =
            subst (λ (x : List ℕ). IsEntryFault x fault.0.partial_listing error) itself fault.2 in
            no_entry error first.0 (first_text told.0 state tells (mounts_of client) src to leads end.dir.start fault.0 was first.0 first.1 first.2) first.3

        by : IsEndedIn told.0 (mounts_of client) s t error end.dir → Cause world state list s t error
        by (inl fails) = ask_fails error fails
        by (inr (inl none)) =
            page none.0 (subst (λ (x : List ℕ). leads_by (mounts_of client) x none.0) itself none.1)
            (subst (λ (x : List ℕ). HasNoPage told.0 none.0.path end.dir.start x error) itself none.2)
        by (inr (inr (inl fault))) = held (subst (λ (x : List ℕ). IsEntryFault x end.dir.held error) itself fault)
        by (inr (inr (inr fault))) = next fault

    -- why it fails
    not_done : (error : ClientError) → IsListFaultIn told.0 (mounts_of client) false src limit s t error → Says (Err error)
    not_done error (inl (is, more)) =
        let own : more.1.own ≡ more.0 = sym (finds_own (HasSome (IsPageIn told.0) (mounts_of client)) more.1.own more.0 more.1.finds) in
        let has = subst (λ (l : List FileStatus). HasSome (IsPageIn told.0) (mounts_of client) src l) own more.1.has in
        let so = failed (errors.InvalidArgument (args.TooMany limit)) (too_many more.0 has more.2) in
        subst (λ (e : ClientError). Says (Err e)) (sym is) (Err (errors.InvalidArgument (args.TooMany limit)), refl, so.0, so.1, so.2)
    not_done error (inr (cause, is, end)) =
        let so = failed cause (ended cause end) in subst (λ (e : ClientError). Says (Err e)) (sym is) (Err cause, refl, so.0, so.1, so.2)

    pub says : (result : Result (Vec FileStatus Global) ClientError) → IfOk result (λ found. vec_len found ≤ limit)
        → MatchResult result (λ found. Lists (HasAll (IsPageIn told.0) (mounts_of client)) false src found.items)
        (IsListFaultIn told.0 (mounts_of client) false src limit s t) → Says result
    says (Ok found) few listed =
        let own : listed.own ≡ found.items = sym (finds_own (HasAll (IsPageIn told.0) (mounts_of client)) listed.own found.items listed.finds) in
        done found few (subst (λ (l : List FileStatus). HasAll (IsPageIn told.0) (mounts_of client) src l) own listed.has)
    says (Err error) few fault = not_done error fault

-- ---- the call

-- What `list_status` of a client ensures where nothing below is wanted is what the command does, whose reply says what the statuses do.
pub list_does : (client client' : Client) → Stays client client' → (src : List ℕ) (limit : ℕ) (s t : Shown) (may_answer : Ask → Answer → Type 0)
    → ((p : Picture) → s.picture ≡ Some p → IsSound p) → (result : Result (Vec FileStatus Global) ClientError)
    → IfOk result (λ found. vec_len found ≤ limit)
    → (IsWholeBelow may_answer false client src s → WhereTold s t (λ p. MatchResult result (λ found. Lists (HasAll (IsPageIn p) (mounts_of client)) false src found.items)
    (IsListFaultIn p (mounts_of client) false src limit s t)))
    → ListsAs client src limit s client' t result
list_does client client' stays src limit s t may_answer sound result few over = λ reaches to leads named opened placed world state ready.
    (let p = told_of s world state (commands.List to.path false limit) ready in
    let so = over (whole reaches) p.0 p.1 in
    says client client' stays src limit s t sound to leads named world state ready so.0 result few so.1)
  where
    whole : ReachesWhole client src s → IsWholeBelow may_answer false client src s
    whole reaches = λ dir below.
        subst (λ (x : List ℕ). ReachesWhole client x s) (sym (only_itself (HasSome may_answer (mounts_of client)) src dir below)) reaches
