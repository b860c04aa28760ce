-- A command that opens a file, behind the ask for the cluster's defaults: what these are over a told picture, and what is so of an error and of a
-- reply.
use Rattle.std.proofs.Common.{◌≡◌, ◌≢◌, ◌⊎◌, inl, inr, ℕ, ◌<◌, ◌==◌, Bool, true, false, List, [], ◌∷◌, Option, Some, Ok, Err, sym, ◌∙◌, ap, subst}
use Rattle.std.proofs.lemmas.Bool.{cases_Bool, false≢true}
use Rattle.std.proofs.lemmas.Bool.Decides.{Decides-eqb}
use Rattle.std.specs.Prelude.{◌||◌, IfSome, Result}
use Rattle.std.specs.Str.{bytes_eq}
use Rattle.hdfs_cluster.specs.declared.asks.Answer.{Answer}
use Rattle.hdfs_cluster.specs.declared.asks.Ask.{Ask}
use Rattle.hdfs_cluster.specs.declared.asks.AskFault.{AskFault}
use Rattle.hdfs_cluster.specs.declared.errors.ArgFault.TheVariants as args
use Rattle.hdfs_cluster.specs.declared.errors.HdfsError.{HdfsError}
use Rattle.hdfs_cluster.specs.declared.errors.HdfsError.TheVariants as errors
use Rattle.hdfs_cluster.specs.declared.messages.ServerDefaults.{ServerDefaults}
use Rattle.hdfs_cluster.specs.Failures.{CallsRose}
use Rattle.hdfs_cluster.specs.Files.{Content, State}
use Rattle.hdfs_cluster.specs.Limits.{are_defaults}
use Rattle.hdfs_cluster.specs.Namenode.{MayBeDone}
use Rattle.hdfs_cluster.specs.Picture.{Picture, SameButActive}
use Rattle.hdfs_cluster.specs.Repeating.{Repeats}
use Rattle.hdfs_cluster.specs.Shown.{Later, Served, Shown}
use Rattle.hdfs_cluster.specs.Stores.{Agrees, AgreesAt}
use Rattle.hdfs_cluster.proofs.Frames.{later_refl, never_fall_refl, same_picture_refl, told_after}
use Rattle.hdfs_names.specs.Paths.{is_path}
use Rattle.hdfs_names.specs.declared.mounts.Resolved.{Resolved}
use Rattle.hdfs_names.specs.declared.replacement.ReplaceDatanodeOnFailure.{ReplaceDatanodeOnFailure}
use Rattle.hdfs_rebuild.specs.declared.block_plan.RebuildSettings.{RebuildSettings}
use Rattle.hdfs_model.specs.declared.commands.Command.{Command}
use Rattle.hdfs_model.specs.declared.commands.Reply.{Reply}
use Rattle.hdfs_model.specs.Causes.{Cause, UsesDefaults}
use Rattle.hdfs_model.specs.Owing.{IsMisplaced}
use Rattle.hdfs_model.specs.Scenes.{Ready}
use Rattle.hdfs_model.specs.Sessions.{IsLimited, SameOpened, defaults_of, is_before_asking, spared}
use Rattle.hdfs_model.specs.Steps.{Done, World, is_opened, step, target_of, with_writing}
use Rattle.hdfs_namenode.specs.Asked.{ReachesAll}
use Rattle.hdfs_namenode.specs.Clients.{defaults_of as kept_by, proxy_of}
use Rattle.hdfs_namenode.specs.Relaying.{Came, RelaysTold, TellsAsk}
use Rattle.hdfs_namenode.specs.declared.protocol.NamenodeProtocol.{NamenodeProtocol}
use Rattle.hdfs_namenode.proofs.Relayed.{relayed_done}
use Rattle.hdfs_file_reader.proofs.Transfers.{OnlyAsks, defaults_told, lacks_by, leaves_by}
use Rattle.hdfs_file_writer.specs.Tails.{FileCarries}
use Rattle.hdfs_file_writer.specs.declared.tails.Tail.{Tail}
use Rattle.hdfs_file_writer.specs.Writers as files
use Rattle.hdfs_file_writer.specs.declared.file_writer.FileWriter as inner
use Rattle.hdfs_file_writer.specs.declared.sizes.WriteSizes.{WriteSizes}
use Rattle.hdfs_client.specs.Clients.{SameBut, leads_to, mounts_of, replacement_of, service_at}
use Rattle.hdfs_opening.specs.Opening.{AsksInVain, HasBadDefaults, HasDefaults, IsFresh, LacksDefaults}
use Rattle.hdfs_file_writer.specs.Sizing.{sizes_by}
use Rattle.hdfs_client.specs.Writing.{OpensNone, ReachesWhole, open_of, rebuilding_of}
use Rattle.hdfs_client.specs.declared.client.Client.{Client}
use Rattle.hdfs_client.specs.declared.writing.FileWriter.{FileWriter}
use Rattle.hdfs_opening.proofs.Coming.{has_cached, vain_cached}
use Rattle.hdfs_commands.specs.Meeting.{KnowsDefaults}
use Rattle.hdfs_commands.specs.Session.{CarriesFile}
use Rattle.hdfs_commands.proofs.Acted.{or_flip, spares_but}
use Rattle.hdfs_commands.proofs.Agreeing.{agrees_but, agrees_files, agrees_told}
use Rattle.hdfs_commands.proofs.Begun.{Begun}
use Rattle.hdfs_commands.proofs.Failing.{IsStill, may_be_done}
use Rattle.hdfs_commands.proofs.Opening.{Over}
use Rattle.hdfs_commands.proofs.Refusing.{ask_not_early, exception_cause, rose_cause}
use Rattle.hdfs_commands.proofs.Still.{file_stays}
use Rattle.hdfs_commands.proofs.WithWriting.{writing_there}
use Rattle.hdfs_client_steps.specs.OpenFiles.{HoldsNext, opened_with}
use Rattle.hdfs_client_steps.specs.Steps.{Does, KeepsCarried, KeepsParts, Knows, WhereReadyAt, holding}
use Rattle.hdfs_client_steps.proofs.Applying.{done_applied, failed_applied, same_defaults}

-- ---- the defaults

-- What is shown behind asks that change nothing: of a told picture all stays but which namenode is active, and no count falls.
pub record Behind (s : Shown) (p : Picture) (m : Shown) : Type 0 where
  pub picture : Picture
  pub told : m.picture ≡ Some picture
  pub same : SameButActive p picture
  pub later : Later s m

-- nothing was asked
pub behind_none : (s : Shown) (p : Picture) → s.picture ≡ Some p → Behind s p s
behind_none s p was = record { picture = p; told = was; same = (same_picture_refl p).rest; later = later_refl s }

-- the same behind an ask for the defaults, or none where they were known
behind_by : (s m : Shown) (p : Picture) → s.picture ≡ Some p → OnlyAsks s m → Behind s p m
behind_by s m p was left =
    let to = told_after SameButActive s.picture m.picture p left.1 was in
    record { picture = to.0; told = to.1; same = to.2; later = left.0.later }

module _ {C : Type 0} {shown : C → Shown} {serves : C → ℕ → Ask → Result Answer AskFault → C → Type 0}
    (rows : (old new : C) (i : ℕ) (ask : Ask) (result : Result Answer AskFault) → serves old i ask result new → Served (shown old) i ask result (shown new))
    (below : (c : C) (p : Picture) → (shown c).picture ≡ Some p → p.active < (shown c).namenodes)
    {before between : NamenodeProtocol} {old mid : C} (reaches : ReachesAll (proxy_of before) (shown old)) where
  -- a service that has the defaults has asked for nothing else
  pub behind_defaults : {d : ServerDefaults} {may_answer : Ask → Answer → Type 0} → HasDefaults may_answer serves before old d between mid → (p : Picture) → (shown old).picture ≡ Some p
      → Behind (shown old) p (shown mid)
  behind_defaults has p was = behind_by (shown old) (shown mid) p was (leaves_by (has_cached rows below reaches has))

  -- they are the picture's, where it knew no others
  pub defaults_are : {d : ServerDefaults} {may_answer : Ask → Answer → Type 0} → HasDefaults may_answer serves before old d between mid → KnowsDefaults (shown old) (kept_by before) → (p : Picture)
      → (shown old).picture ≡ Some p → d ≡ p.defaults
  defaults_are has knows p was =
      defaults_told (has_cached rows below reaches has) p was
      (subst (λ (o : Option Picture). IfSome (kept_by before) (λ (x : ServerDefaults). x ≡ defaults_of o)) was knows)

-- ---- what calls do that have opened nothing, and one that has opened a file

-- what is carried from one picture to another is carried from what shows the one to what shows the other
pub carried_by : (opened : List ℕ → Bool) (path : List ℕ) (s t : Shown) (p q : Picture) → s.picture ≡ Some p → t.picture ≡ Some q
    → ((other : List ℕ) → opened other ≡ true → other ≢ path → (tail : Tail) (bytes : List ℕ) → FileCarries p other tail bytes
    → FileCarries q other tail bytes)
    → KeepsCarried opened path s t
carried_by opened path s t p q was now each p' q' was' now' other is apart tail bytes carries =
    let one : p' ≡ p = cc (was, was') in
    let two : q ≡ q' = cc (now, now') in
    subst (λ (x : Picture). FileCarries x other tail bytes) two
    (each other is apart tail bytes (subst (λ (x : Picture). FileCarries x other tail bytes) one carries))

-- A file was opened at a path of a program that hadn't it open, with these defaults of the cluster: what the call did, and that the writer
-- carries what the next state has there.
pub record OpensFile (world : World) (state : State) (command : Command) (path : List ℕ) (opened : List ℕ → Bool) (s t : Shown) (reply : Reply)
    (defaults : ServerDefaults) (writer : inner.FileWriter) : Type 0 where
  pub does : Does world state command path opened s (opened_with path opened) t (Ok reply)
  pub carries : (next : State) → step world state command ≡ Done reply next → (q : Picture) → t.picture ≡ Some q → CarriesFile q next path writer
  pub told : defaults ≡ defaults_of t.picture

module _ (world : World) (state : State) (command : Command) (still : IsStill command) (path : List ℕ) (called : target_of world command ≡ path)
    {opened : List ℕ → Bool} (s : Shown) (ready : Ready world (holding opened s) state (command ∷ [])) (m : Shown) (p : Picture)
    (was : s.picture ≡ Some p) (behind : Behind s p m) where
  -- the files agree still behind the ask for the defaults
  pub agrees_behind : (r : List ℕ) → AgreesAt behind.picture (behind.picture.names r) (state.files r)
  agrees_behind =
      agrees_files (Some p) (Some behind.picture) state.files behind.same.files (agrees_told s.picture p state.files ready.fits.agrees was)

  -- and what is carried is carried still
  kept : (other : List ℕ) (tail : Tail) (bytes : List ℕ) → FileCarries p other tail bytes → FileCarries behind.picture other tail bytes
  kept other tail bytes carries = file_stays p behind.picture behind.same.files behind.same.writes other tail bytes carries

  -- an error behind that ask alone
  pub early_does : (error : HdfsError) → Cause world state command s m error → Does world state command path opened s opened m (Err error)
  early_does error cause = record {
    applied = failed_applied world state command s m behind.later.namenodes (still.found s m (target_of world command)) error (
      cause,
      agrees_but (spared world state command error) m.picture state.files
          (subst (λ (o : Option Picture). Agrees o state.files) (sym behind.told) agrees_behind),
    );
    others = carried_by opened path s m p behind.picture was behind.told (λ other is apart tail bytes carries. kept other tail bytes carries);
    defaults = same_defaults s m p behind.picture was behind.told behind.same.files.defaults;
  }

  module _ (ask : Ask) (over : Over behind.picture world state command path ask)
      (same : (q : Picture) → MayBeDone ask behind.picture q → q.defaults ≡ behind.picture.defaults) (t : Shown) where
    -- an error behind an ask that may have been done
    pub late_does : Later m t → (error : HdfsError) → is_before_asking error ≡ false → Cause world state command s t error → (q : Picture)
        → t.picture ≡ Some q → MayBeDone ask behind.picture q → Does world state command path opened s opened t (Err error)
    late_does later error late cause q now may = record {
      applied = failed_applied world state command s t (later.namenodes ∙ behind.later.namenodes) (still.found s t (target_of world command)) error (
        cause,
        spares_but world state command error path t.picture q called late now (over.spares q may) (λ why is. over.unchanged why is q may),
      );
      others = carried_by opened path s t p q was now
          (λ other is apart tail bytes carries. over.keeps q may other tail bytes (ready.opened other ∙ is) (kept other tail bytes carries));
      defaults = same_defaults s t p q was now (same q may ∙ behind.same.files.defaults);
    }

    asked_cause : (error : HdfsError) → TellsAsk m t error → (q : Picture) → RelaysTold (CallsRose m.counts t) behind.picture ask (Err error) q
        → Cause world state command s t error
    asked_cause error tells q (inl memory) = subst (Cause world state command s t) (sym memory.0) (tt, tt)
    asked_cause error tells q (inr (inl refused)) =
        let by = refused.0 in
        subst (Cause world state command s t) (sym by.3) (exception_cause world state command s t by.0 by.1 (inl (over.refused by.0 by.2)))
    asked_cause error tells q (inr (inr rose)) = rose_cause world state command s m t error behind.later.counts tells rose.0

    -- an error of the ask
    pub refused_behind : (error : HdfsError) → Came m ask (Err error) t → Repeats ask behind.picture
        → Does world state command path opened s opened t (Err error)
    refused_behind error came repeats =
        let to = came.told behind.picture behind.told repeats in
        late_does came.relays.leaves.later error (ask_not_early m t error came.relays.tells) (asked_cause error came.relays.tells to.0 to.2) to.0 to.1
        (may_be_done ask behind.picture to.0 (relayed_done (CallsRose m.counts t) behind.picture ask (Err error) to.0 tt to.2))

  same_opened : (content : Content) → SameOpened (opened_with path opened) (with_writing state path content)
  same_opened content r =
      ap (λ (b : Bool). b || is_opened state r) (or_flip path r) ∙ ap (λ (b : Bool). bytes_eq path r || b) (ready.opened r)

  -- a file was opened
  pub begins_file : (t : Shown) (q : Picture) → t.picture ≡ Some q → (reply : Reply) (content : Content) (writer : inner.FileWriter)
      → Begun behind.picture q state path content (files.tail_of writer) → step world state command ≡ Done reply (with_writing state path content)
      → IsLimited world state command → (files.sizes_of writer).replication ≡ content.attributes.replication
      → (files.sizes_of writer).block_size ≡ content.attributes.block_size → (defaults : ServerDefaults) → defaults ≡ p.defaults
      → OpensFile world state command path opened s t reply defaults writer
  begins_file t q now reply content writer begun done limited replication block_size defaults are =
      let still_so : q.defaults ≡ p.defaults = begun.defaults ∙ behind.same.files.defaults in
      record {
        does = record {
          applied = done_applied world state command s t reply (with_writing state path content) q done limited begun.is_state now begun.agrees
              (same_opened content);
          others = carried_by opened path s t p q was now
              (λ other is apart tail bytes carries. begun.others other tail bytes apart (kept other tail bytes carries));
          defaults = ap defaults_of now ∙ still_so ∙ sym (ap defaults_of was);
        };
        carries = λ next is x told.
            let same : with_writing state path content ≡ next = cc (done, is) in
            let one : q ≡ x = cc (now, told) in
            subst (λ (y : Picture). CarriesFile y next path writer) one
            (subst (λ (a : State). CarriesFile q a path writer) same (record {
              content = content;
              named = writing_there state path content;
              carries = begun.own;
              replication = replication;
              block_size = block_size;
            }));
        told = are ∙ sym still_so ∙ sym (ap defaults_of now);
      }

-- ---- no defaults

-- a service that has kept these defaults knows the cluster's, where those are what they were
pub knows_kept : (s t : Shown) (after : NamenodeProtocol) {p : Picture} {d : ServerDefaults} → kept_by after ≡ Some d → d ≡ p.defaults → s.picture ≡ Some p
    → defaults_of t.picture ≡ defaults_of s.picture → KnowsDefaults t (kept_by after)
knows_kept s t after has are was same =
    subst (λ (o : Option ServerDefaults). IfSome o (λ x. x ≡ defaults_of t.picture)) (sym has) (are ∙ sym (ap defaults_of was) ∙ sym same)

-- an error of a service that has no defaults
module _ {C : Type 0} {shown : C → Shown} {serves : C → ℕ → Ask → Result Answer AskFault → C → Type 0}
    (rows : (old new : C) (i : ℕ) (ask : Ask) (result : Result Answer AskFault) → serves old i ask result new → Served (shown old) i ask result (shown new))
    (below : (c : C) (p : Picture) → (shown c).picture ≡ Some p → p.active < (shown c).namenodes)
    {before after : NamenodeProtocol} {old new : C} (reaches : ReachesAll (proxy_of before) (shown old))
    (world : World) (state : State) (command : Command) (still : IsStill command) (path : List ℕ) (called : target_of world command ≡ path)
    {opened : List ℕ → Bool} (ready : Ready world (holding opened (shown old)) state (command ∷ [])) (p : Picture) (was : (shown old).picture ≡ Some p) where
  vain_does : (error : HdfsError) → AsksInVain serves before old error after new
      → Does world state command path opened (shown old) opened (shown new) (Err error)
  vain_does error vain =
      let cached = vain_cached rows below reaches vain in
      let told = lacks_by cached in
      early_does world state command still path called (shown old) ready (shown new) p was (behind_by (shown old) (shown new) p was (leaves_by cached)) error
      (by told.0 (told.1 p was))
    where
      by : TellsAsk (shown old) (shown new) error → (error ≡ errors.NoMemory) ⊎ CallsRose (shown old).counts (shown new)
          → Cause world state command (shown old) (shown new) error
      by tells (inl memory) = subst (Cause world state command (shown old) (shown new)) (sym memory) (tt, tt)
      by tells (inr rose) = rose_cause world state command (shown old) (shown old) (shown new) error (never_fall_refl (shown old).counts) tells rose

  bad_does : {may_answer : Ask → Answer → Type 0} → UsesDefaults command → world.defaults ≡ defaults_of (shown old).picture → KnowsDefaults (shown old) (kept_by before) → (error : HdfsError)
      → HasBadDefaults may_answer serves before old error after new → Does world state command path opened (shown old) opened (shown new) (Err error)
  bad_does uses of_world knows error bad =
      let are : world.defaults ≡ bad.defaults =
      of_world ∙ ap defaults_of was ∙ sym (defaults_are rows below reaches bad.has knows p was) in
      subst (λ (e : HdfsError). Does world state command path opened (shown old) opened (shown new) (Err e)) (sym bad.is)
      (early_does world state command still path called (shown old) ready (shown new) p was (behind_defaults rows below reaches bad.has p was)
      (errors.InvalidArgument args.Defaults) ((uses, ap are_defaults are ∙ bad.unlimited), tt))

  -- what it knows of them is the cluster's, where it was before
  pub lacks_knows : {may_answer : Ask → Answer → Type 0} → KnowsDefaults (shown old) (kept_by before) → (error : HdfsError) → LacksDefaults may_answer serves before old error after new
      → defaults_of (shown new).picture ≡ defaults_of (shown old).picture → KnowsDefaults (shown new) (kept_by after)
  lacks_knows knows error (inl vain) same = subst (λ (o : Option ServerDefaults). IfSome o (λ x. x ≡ defaults_of (shown new).picture)) (sym vain.still) tt
  lacks_knows knows error (inr bad) same = knows_kept (shown old) (shown new) after bad.has.kept (defaults_are rows below reaches bad.has knows p was) was same

  -- it asked for them in vain, or they are out of their limits
  pub lacks_does : {may_answer : Ask → Answer → Type 0} → UsesDefaults command → world.defaults ≡ defaults_of (shown old).picture → KnowsDefaults (shown old) (kept_by before)
      → (error : HdfsError) → LacksDefaults may_answer serves before old error after new → Does world state command path opened (shown old) opened (shown new) (Err error)
  lacks_does uses of_world knows error (inl vain) = vain_does error vain
  lacks_does uses of_world knows error (inr bad) = bad_does uses of_world knows error bad

-- ---- of a client

abbrev with_replacement : ReplaceDatanodeOnFailure → RebuildSettings
with_replacement replace = record { replace = replace; rebuild_limit = 8; window = 100 }

-- What is so at the path where a client's path leads, if it reaches a whole service, is so where a program is ready there.
pub where_ready : (client : Client) (src : List ℕ) (command : List ℕ → Command) (old : Shown)
    (IsSo : (List ℕ → Bool) → List ℕ → World → State → Type 0) (at : Resolved) → leads_to client src ≡ Some at
    → (ReachesWhole client src old → is_path at.path ≡ true → (opened : List ℕ → Bool) → (IsMisplaced opened at.path (command at.path) → ⊥)
    → (world : World) (state : State) → Ready world (holding opened old) state (command at.path ∷ []) → IsSo opened at.path world state)
    → WhereReadyAt client src command old IsSo
where_ready client src command old IsSo at leads_at so reaches to leads =
    let same : at ≡ to = cc (leads_at, leads) in
    subst (λ (r : Resolved). is_path r.path ≡ true → (opened : List ℕ → Bool) → (IsMisplaced opened r.path (command r.path) → ⊥) → (world : World)
    (state : State) → Ready world (holding opened old) state (command r.path ∷ []) → IsSo opened r.path world state) same (so reaches)

-- A client keeps its mounts and its policy where one service of it changes,
pub parts_but : {k : ℕ} {client client' : Client} → SameBut k client client' → KeepsParts client client'
parts_but others = (others.mounts, others.replacement)

-- and where it has opened nothing.
pub parts_none : {C : Type 0} (Fails : HdfsError → List ℕ → NamenodeProtocol → NamenodeProtocol → Type 0) {client client' : Client} {src : List ℕ} {old new : C}
    {error : HdfsError} → OpensNone Fails client src old error client' new → KeepsParts client client'
parts_none Fails (inl memory) = (ap mounts_of memory.1, ap replacement_of memory.1)
parts_none Fails (inr fails) = parts_but fails.others

-- A client whose services knew no other defaults than the cluster's, which are what they were, knows no others behind a call of one of them that
-- knows none.
pub knows_behind : (client client' : Client) (old new : Shown) (k : ℕ) (after : NamenodeProtocol) → SameBut k client client' → service_at client' k ≡ Some after
    → KnowsDefaults new (kept_by after) → defaults_of new.picture ≡ defaults_of old.picture → Knows client old → Knows client' new
knows_behind client client' old new k after others is here same knows j namenode there = by (cases_Bool (j == k))
  where
    by : ((j == k) ≡ true) ⊎ ((j == k) ≡ false) → KnowsDefaults new (kept_by namenode)
    by (inl equal) =
        let place : j ≡ k = (Decides-eqb j k).0 equal in
        let one : after ≡ namenode = cc (is, place, there) in
        subst (λ (n : NamenodeProtocol). KnowsDefaults new (kept_by n)) one here
    by (inr apart) =
        let other : j ≢ k = λ equal. false≢true (sym apart ∙ (Decides-eqb j k).1 equal) in
        subst (λ (d : ServerDefaults). IfSome (kept_by namenode) (λ x. x ≡ d)) (sym same) (knows j namenode (sym (others.others j other) ∙ there))

module _ {world : World} {state : State} {command : Command} {path : List ℕ} {opened : List ℕ → Bool} {s t : Shown} {reply : Reply} {d : ServerDefaults}
    {file : inner.FileWriter} (opens : OpensFile world state command path opened s t reply d file) {client client' : Client} {k : ℕ}
    (others : SameBut k client client') where
  -- a client whose service has opened a file knows no other defaults than the cluster's
  pub knows_opened : {after : NamenodeProtocol} → service_at client' k ≡ Some after → kept_by after ≡ Some d → Knows client s → Knows client' t
  knows_opened {after} is kept knows =
      knows_behind client client' s t k after others is
      (subst (λ (o : Option ServerDefaults). IfSome o (λ x. x ≡ defaults_of t.picture)) (sym kept) opens.told) opens.does.defaults knows

  -- and the writer of that holds it
  pub holds_opened : {writer : FileWriter} {id : Option ℕ} {replication block_size : ℕ} {tail : Tail} → open_of writer ≡ Some file
      → IsFresh path id (sizes_by (rebuilding_of client) 3 d replication block_size) tail file → HoldsNext world state command reply client' t path writer
  holds_opened {writer} is fresh next steps = record {
    file = file;
    is_open = is;
    at = fresh.at;
    fine = fresh.fine;
    rebuilding = ap (λ (x : WriteSizes). x.rebuilding) fresh.with ∙ ap with_replacement (sym others.replacement);
    setups = ap (λ (x : WriteSizes). x.setup_limit) fresh.with;
    encrypted = ap (λ (x : WriteSizes). x.encrypted) fresh.with ∙ ap (λ (x : ServerDefaults). x.encrypt_data_transfer) opens.told;
    carries = λ q told. opens.carries next steps q told;
  }
