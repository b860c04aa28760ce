-- A client creates a file as a session does.
use Rattle.std.proofs.Common.{◌≡◌, ⊎_elim, ◌⊎◌, inl, inr, ℕ, ◌<◌, Bool, true, false, List, [], ◌∷◌, Option, Some, None, unwrap_or, Ok, Err, refl, sym, ◌∙◌, ap, subst}
use Rattle.std.proofs.lemmas.Bool.{false_from_ne_true, false≢true}
use Rattle.std.specs.Prelude.{IfErr, IfOk, Result}
use Rattle.hdfs_cluster.specs.declared.asks.Answer.{Answer}
use Rattle.hdfs_cluster.specs.declared.asks.Answer.TheVariants as answers
use Rattle.hdfs_cluster.specs.declared.asks.Ask.{Ask}
use Rattle.hdfs_cluster.specs.declared.asks.AskFault.{AskFault}
use Rattle.hdfs_cluster.specs.declared.attributes.Attributes.{Attributes}
use Rattle.hdfs_cluster.specs.declared.errors.ArgFault.TheVariants as args
use Rattle.hdfs_cluster.specs.declared.errors.HdfsError.{HdfsError}
use Rattle.hdfs_cluster.specs.declared.errors.HdfsError.TheVariants as errors
use Rattle.hdfs_cluster.specs.declared.messages.FileStatusMsg.{FileStatusMsg}
use Rattle.hdfs_cluster.specs.declared.messages.ServerDefaults.{ServerDefaults}
use Rattle.hdfs_cluster.specs.Files.{Kind, State, kinds_of}
use Rattle.hdfs_cluster.specs.Limits.{are_defaults}
use Rattle.hdfs_cluster.specs.Picture.{Picture}
use Rattle.hdfs_cluster.specs.Refusals.{create_refusal}
use Rattle.hdfs_cluster.specs.Shown.{Served, Shown}
use Rattle.hdfs_cluster.specs.Sound.{IsSound}
use Rattle.hdfs_cluster.specs.Stores.{AgreesAt}
use Rattle.hdfs_cluster.proofs.Repeating.{create_repeats}
use Rattle.hdfs_names.specs.Paths.{is_path}
use Rattle.hdfs_model.specs.declared.commands.Command.{Command}
use Rattle.hdfs_model.specs.declared.commands.Command.TheVariants as commands
use Rattle.hdfs_model.specs.declared.commands.Reply.TheVariants as replies
use Rattle.hdfs_model.specs.declared.commands.WriteOptions.{WriteOptions}
use Rattle.hdfs_model.specs.Limits.{are_options}
use Rattle.hdfs_model.specs.Opening.{create_flag, creating}
use Rattle.hdfs_model.specs.Scenes.{Ready}
use Rattle.hdfs_model.specs.Sessions.{defaults_of}
use Rattle.hdfs_model.specs.Steps.{World, create_file, created, is_opened, target_of}
use Rattle.hdfs_model.proofs.Both.{and_true}
use Rattle.hdfs_namenode.specs.Asked.{AskedOnce, ReachesAll}
use Rattle.hdfs_namenode.specs.Clients.{defaults_of as kept_by, name_of, proxy_of, through}
use Rattle.hdfs_namenode.specs.Relaying.{Came}
use Rattle.hdfs_namenode.specs.declared.protocol.NamenodeProtocol.{NamenodeProtocol}
use Rattle.hdfs_file_writer.specs.declared.tails.Tail.TheVariants.{Bare}
use Rattle.hdfs_file_writer.specs.Writers.{sizes_of, tail_of}
use Rattle.hdfs_file_writer.specs.declared.file_writer.FileWriter as inner
use Rattle.hdfs_file_writer.specs.declared.sizes.WriteSizes.{WriteSizes}
use Rattle.hdfs_opening.specs.Opening.{HasDefaults, RefusesCreated}
use Rattle.hdfs_opening.specs.Opening as opening
use Rattle.hdfs_opening.specs.declared.opened_file.ToldFile.{ToldFile}
use Rattle.hdfs_opening.specs.declared.opened_file.WriteTerms.{WriteTerms}
use Rattle.hdfs_client.specs.Opening.{CreatesBy, FailsToCreate, LacksLease}
use Rattle.hdfs_client.specs.Writing.{OpensAt, OpensNone, rebuilding_of}
use Rattle.hdfs_client.specs.declared.client.Client.{Client}
use Rattle.hdfs_client.specs.declared.writing.FileWriter.{FileWriter}
use Rattle.hdfs_opening.proofs.Coming.{came_once, reaches_between}
use Rattle.hdfs_commands.specs.Meeting.{KnowsDefaults}
use Rattle.hdfs_commands.proofs.Begun.{Begun, create_begun}
use Rattle.hdfs_commands.proofs.Failing.{create_still}
use Rattle.hdfs_commands.proofs.Opening.{Over, create_over, made, may_be_made, was_made, was_plain}
use Rattle.hdfs_commands.proofs.Refusing.{create_step, kinds_same}
use Rattle.hdfs_commands.proofs.WithWriting.{clear_to_create}
use Rattle.hdfs_cluster.specs.Namenode.{MayBeDone}
use Rattle.hdfs_client.specs.Clients.{mounts_of, replacement_of}
use Rattle.hdfs_client_steps.specs.OpenFiles.{OpensAs}
use Rattle.hdfs_client_steps.specs.Steps.{Does, KeepsParts, Knows, holding}
use Rattle.hdfs_client_steps.proofs.Applying.{absolute_path, told_of}
use Rattle.hdfs_client_steps.proofs.Opened.{Behind, OpensFile, agrees_behind, begins_file, behind_defaults, behind_none, defaults_are, early_does, holds_opened, knows_behind, knows_kept, knows_opened, lacks_does, lacks_knows, late_does, parts_but, parts_none, refused_behind, where_ready}

module _ (options : WriteOptions) where
  abbrev create : List ℕ → Command
  create at = commands.Create at options

  -- a path stands for itself
  called : (path : List ℕ) → is_path path ≡ true → (world : World) → target_of world (create path) ≡ path
  called path named world = absolute_path world.home path named

  module _ (path : List ℕ) (named : is_path path ≡ true) {opened : List ℕ → Bool} (closed : opened path ≡ false) (world : World) (state : State) where
    module _ (s : Shown) (ready : Ready world (holding opened s) state (create path ∷ [])) where
      abbrev told : (p : Picture) × (s.picture ≡ Some p)
      told = told_of s world state (create path) ready

      -- options that are out of their limits
      options_does : are_options options ≡ false
          → Does world state (create path) path opened s opened s (Err (errors.InvalidArgument args.Options))
      options_does out =
          early_does world state (create path) (create_still path options) path (called path named world) s ready s told.0 told.1 (behind_none s told.0 told.1)
          (errors.InvalidArgument args.Options) (out, tt)

      -- want of memory for finding where the path leads
      memory_does : Does world state (create path) path opened s opened s (Err errors.NoMemory)
      memory_does =
          early_does world state (create path) (create_still path options) path (called path named world) s ready s told.0 told.1 (behind_none s told.0 told.1)
          errors.NoMemory (tt, tt)

      -- behind the ask for the defaults
      module _ (m : Shown) (behind : Behind s told.0 m) (sound : IsSound behind.picture) (client : List ℕ) (d : ServerDefaults) (are : d ≡ told.0.defaults) where
        abbrev replication : ℕ
        replication = unwrap_or options.replication d.replication

        abbrev block_size : ℕ
        block_size = unwrap_or options.block_size d.block_size

        abbrev ask : Ask
        ask = creating path client options replication block_size

        agrees : (r : List ℕ) → AgreesAt behind.picture (behind.picture.names r) (state.files r)
        agrees = agrees_behind world state (create path) (create_still path options) path (called path named world) s ready m told.0 told.1 behind

        unopened : is_opened state path ≡ false
        unopened = ready.opened path ∙ closed

        -- such an ask leaves the cluster's defaults
        same : (q : Picture) → MayBeDone ask behind.picture q → q.defaults ≡ behind.picture.defaults
        same q may = ⊎_elim (λ still. still.files.defaults) (λ made. made.1.changes.bytes.defaults)
            (may_be_made path client options replication block_size behind.picture q may)

        over : Over behind.picture world state (create path) path ask
        over = create_over path client options replication block_size behind.picture world state path sound agrees named unopened (called path named world)

        -- an error of the ask for the file
        uncreated_does : (t : Shown) (error : HdfsError) → Came m ask (Err error) t
            → Does world state (create path) path opened s opened t (Err error)
        uncreated_does t error came =
            refused_behind world state (create path) (create_still path options) path (called path named world) s ready m told.0 told.1 behind ask over same t error came
            (create_repeats path client options.permission (create_flag options) options.create_parent replication block_size behind.picture)

        module _ (t : Shown) (status : Option FileStatusMsg) (came : Came m ask (Ok (answers.Create status)) t) where
          -- want of memory for the lease of a file that was created
          leaseless_does : Does world state (create path) path opened s opened t (Err errors.NoMemory)
          leaseless_does =
              let one = was_made path client options replication block_size behind.picture m t status behind.told came in
              late_does world state (create path) (create_still path options) path (called path named world) s ready m told.0 told.1 behind ask over same t
              came.relays.leaves.later errors.NoMemory refl (tt, tt) one.0 one.1 one.3

          abbrev attributes_by : ServerDefaults → Attributes
          attributes_by x = record {
            permission = options.permission;
            replication = unwrap_or options.replication x.replication;
            block_size = unwrap_or options.block_size x.block_size;
            encrypted = false;
          }

          -- the file was created
          begun_does : are_options options ≡ true → are_defaults d ≡ true → d ≡ world.defaults → (writer : inner.FileWriter) → tail_of writer ≡ Bare
              → (sizes_of writer).replication ≡ replication → (sizes_of writer).block_size ≡ block_size
              → OpensFile world state (create path) path opened s t replies.Created d writer
          begun_does limited known of_world writer tail is_replication is_size =
              let one = was_made path client options replication block_size behind.picture m t status behind.told came in
              let none : create_refusal (kinds_of state.files) path options.overwrite options.create_parent ≡ None =
              ap (λ (k : List ℕ → Option Kind). create_refusal k path options.overwrite options.create_parent)
              (sym (kinds_same behind.picture state.files agrees)) ∙ one.2.0 in
              let begun = create_begun behind.picture one.0 sound state agrees path (made path client options replication block_size) (created world options)
              (ap attributes_by of_world) one.2.1 ready.fits.is_state named
              (clear_to_create (kinds_of state.files) path options.overwrite options.create_parent none) refl in
              begins_file world state (create path) (create_still path options) path (called path named world) s ready m told.0 told.1 behind t one.0 one.1
              replies.Created (created world options) writer (subst (Begun behind.picture one.0 state path (created world options)) (sym tail) begun)
              (create_step world state path named unopened path options (called path named world) ∙ ap (create_file state path (created world options)) none)
              (record {
                numbers = and_true (are_options options) (are_defaults world.defaults) limited (ap are_defaults (sym of_world) ∙ known);
                attributes = tt;
                plain = record { bytes = λ moves. moves.0; file = λ opens. opens };
              })
              (is_replication ∙ ap (λ (x : ServerDefaults). unwrap_or options.replication x.replication) of_world)
              (is_size ∙ ap (λ (x : ServerDefaults). unwrap_or options.block_size x.block_size) of_world) d are

  module _ {C : Type 0} {shown : C → Shown} {serves : C → ℕ → Ask → Result Answer AskFault → C → Type 0}
      (rows : (old new : C) (i : ℕ) (ask : Ask) (result : Result Answer AskFault) → serves old i ask result new → Served (shown old) i ask result (shown new))
      (below : (c : C) (p : Picture) → (shown c).picture ≡ Some p → p.active < (shown c).namenodes)
      (sound : (c : C) (p : Picture) → (shown c).picture ≡ Some p → IsSound p) where
    -- by a service
    module _ (path : List ℕ) (named : is_path path ≡ true) {opened : List ℕ → Bool} (closed : opened path ≡ false) (world : World) (state : State) (old : C)
        (ready : Ready world (holding opened (shown old)) state (create path ∷ [])) where
      abbrev was : (p : Picture) × ((shown old).picture ≡ Some p)
      was = told_of (shown old) world state (create path) ready

      module _ {before : NamenodeProtocol} (reaches : ReachesAll (proxy_of before) (shown old)) (knows : KnowsDefaults (shown old) (kept_by before))
          (of_world : world.defaults ≡ defaults_of (shown old).picture) where
        -- behind the ask for the defaults
        module _ {may_answer : Ask → Answer → Type 0} {d : ServerDefaults} {between : NamenodeProtocol} {mid : C}
            (has : HasDefaults may_answer serves before old d between mid) where
          abbrev behind : Behind (shown old) was.0 (shown mid)
          behind = behind_defaults rows below reaches has was.0 was.1

          are : d ≡ was.0.defaults
          are = defaults_are rows below reaches has knows was.0 was.1

          abbrev asked : Ask
          asked = creating path (name_of before) options (unwrap_or options.replication d.replication) (unwrap_or options.block_size d.block_size)

          came_of : (namenode : NamenodeProtocol) {c : C} {outcome : Result Answer HdfsError}
              → AskedOnce serves true asked (through between mid) outcome (through namenode c) → Came (shown mid) asked outcome (shown c)
          came_of namenode {c} {outcome} once =
              came_once rows below true asked (through between mid) (through namenode c) outcome (reaches_between rows below reaches has behind.later) once

          why_none : {after : NamenodeProtocol} {new : C} (error : HdfsError) → AskedOnce serves true asked (through between mid) (Err error) (through after new)
              ⊎ RefusesCreated may_answer serves path asked between mid error after new
              → Does world state (create path) path opened (shown old) opened (shown new) (Err error)
          why_none {after} {new} error (inl once) =
              uncreated_does path named closed world state (shown old) ready (shown mid) behind (sound mid behind.picture behind.told) (name_of before) d are
              (shown new) error (came_of after once)
          why_none error (inr refuses) =
              absurd (false≢true (sym (was_plain path (name_of before) options (unwrap_or options.replication d.replication)
              (unwrap_or options.block_size d.block_size) behind.picture (shown mid) (shown refuses.mid) refuses.status behind.told
              (came_of refuses.between refuses.asked))
              ∙ refuses.encrypted))

        -- What a service does that creates a file is what the command does, and its writer has the file.
        pub creates_by : {may_answer : Ask → Answer → Type 0} → are_options options ≡ true → {terms : WriteTerms} {writer : inner.FileWriter} {told : ToldFile}
            {after : NamenodeProtocol} {new : C} (c : opening.CreatesBy may_answer serves path options terms before old writer told after new)
            → OpensFile world state (create path) path opened (shown old) (shown new) replies.Created c.defaults writer
        creates_by limited {terms} {writer} {told} {after} {new} c =
            let has = c.knows.has in
            begun_does path named closed world state (shown old) ready (shown c.mid) (behind has) (sound c.mid (behind has).picture (behind has).told)
            (name_of before) c.defaults (are has) (shown new) c.status (came_of has after c.asked) limited c.knows.limited
            (are has ∙ sym (of_world ∙ ap defaults_of was.1)) writer c.fresh.stands
            (ap (λ (x : WriteSizes). x.replication) c.fresh.with) (ap (λ (x : WriteSizes). x.block_size) c.fresh.with)

        -- a file was created, and no lease of it could be taken
        leaseless_none : {after : NamenodeProtocol} {new : C} {may_answer : Ask → Answer → Type 0} (error : HdfsError)
            → LacksLease (λ terms writer told namenode. opening.CreatesBy may_answer serves path options terms before old writer told namenode new) error after
            → Does world state (create path) path opened (shown old) opened (shown new) (Err error)
        leaseless_none {after} {new} error lacks =
            let c = lacks.opens in
            let has = c.knows.has in
            subst (λ (e : HdfsError). Does world state (create path) path opened (shown old) opened (shown new) (Err e)) (sym lacks.is)
            (leaseless_does path named closed world state (shown old) ready (shown c.mid) (behind has) (sound c.mid (behind has).picture (behind has).told)
            (name_of before) c.defaults (are has) (shown new) c.status (came_of has lacks.opened c.asked))

        -- And so is what one does that creates none.
        pub creates_none : {after : NamenodeProtocol} {new : C} {may_answer : Ask → Answer → Type 0} (error : HdfsError)
            → FailsToCreate may_answer serves path options before old error after new
            → Does world state (create path) path opened (shown old) opened (shown new) (Err error)
        creates_none error (inl (inl lacks)) =
            lacks_does rows below reaches world state (create path) (create_still path options) path (called path named world) ready was.0 was.1 tt
            of_world knows error lacks
        creates_none error (inl (inr fails)) = why_none fails.knows.has error fails.why
        creates_none error (inr lacks) = leaseless_none error lacks

        -- what such a one knows of the defaults is the cluster's
        pub creates_knows : {after : NamenodeProtocol} {new : C} {may_answer : Ask → Answer → Type 0} (error : HdfsError)
            → FailsToCreate may_answer serves path options before old error after new
            → defaults_of (shown new).picture ≡ defaults_of (shown old).picture → KnowsDefaults (shown new) (kept_by after)
        creates_knows error (inl (inl lacks)) =
            lacks_knows rows below reaches world state (create path) (create_still path options) path (called path named world) ready was.0 was.1 knows
            error lacks
        creates_knows {after} {new} error (inl (inr fails)) =
            knows_kept (shown old) (shown new) after fails.kept (are fails.knows.has) was.1
        creates_knows {after} {new} error (inr lacks) =
            knows_kept (shown old) (shown new) after (lacks.alone.defaults ∙ lacks.opens.kept) (are lacks.opens.knows.has) was.1

    -- by a client
    module _ (client client' : Client) (src : List ℕ) (old new : C) where
      abbrev Creates : Result FileWriter HdfsError → Type 0
      Creates result = OpensAs client src create replies.Created (shown old) client' (shown new) result

      created_does : (may_answer : Ask → Answer → Type 0) → are_options options ≡ true → (writer : FileWriter)
          → OpensAt (λ at before file lease after. CreatesBy may_answer serves at options (rebuilding_of client) before old file lease after new) client src writer client'
          → Creates (Ok writer)
      created_does may_answer limited writer o knows = where_ready client src create (shown old) _ o.to o.leads (λ reaches named opened placed world state ready of.
          (let opens = creates_by o.to.path named (false_from_ne_true (opened o.to.path) placed) world state old ready
          (reaches o.to o.before o.leads o.was) (knows o.to.service o.before o.was) of.defaults limited o.opens.creates in
          (opens.does, knows_opened opens o.others o.is (o.opens.holds.alone.defaults ∙ o.opens.creates.kept) knows, holds_opened opens o.others o.opened o.opens.creates.fresh)))

      uncreated : (may_answer : Ask → Answer → Type 0) (error : HdfsError)
          → OpensNone (λ e at before after. FailsToCreate may_answer serves at options before old e after new) client src old error client' new → Creates (Err error)
      uncreated may_answer error (inl memory) knows = λ reaches to leads named opened placed world state ready of. (
        subst (λ (c : C). Does world state (create to.path) to.path opened (shown old) opened (shown c) (Err error)) (sym memory.2)
            (subst (λ (e : HdfsError). Does world state (create to.path) to.path opened (shown old) opened (shown old) (Err e)) (sym memory.0)
            (memory_does to.path named (false_from_ne_true (opened to.path) placed) world state (shown old) ready)),
        subst (λ (c : C). Knows client' (shown c)) (sym memory.2) (subst (λ (c : Client). Knows c (shown old)) (sym memory.1) knows),
        tt,
      )
      uncreated may_answer error (inr f) knows = where_ready client src create (shown old) _ f.to f.leads (λ reaches named opened placed world state ready of.
          (let closed = false_from_ne_true (opened f.to.path) placed in
          let whole = reaches f.to f.before f.leads f.was in
          let does = creates_none f.to.path named closed world state old ready whole (knows f.to.service f.before f.was) of.defaults error f.fails in (
            does,
            knows_behind client client' (shown old) (shown new) f.to.service f.after f.others f.is
                (creates_knows f.to.path named closed world state old ready whole (knows f.to.service f.before f.was) of.defaults error f.fails does.defaults)
                does.defaults knows,
            tt,
          )))

      refused_create : are_options options ≡ false → client' ≡ client → new ≡ old → Creates (Err (errors.InvalidArgument args.Options))
      refused_create out itself same knows = λ reaches to leads named opened placed world state ready of. (
        subst (λ (c : C). Does world state (create to.path) to.path opened (shown old) opened (shown c) (Err (errors.InvalidArgument args.Options)))
            (sym same) (options_does to.path named (false_from_ne_true (opened to.path) placed) world state (shown old) ready out),
        subst (λ (c : C). Knows client' (shown c)) (sym same) (subst (λ (c : Client). Knows c (shown old)) (sym itself) knows),
        tt,
      )

      -- What `create` of a client ensures is what the command does. Over any cluster.
      pub create_does : (may_answer : Ask → Answer → Type 0) (result : Result FileWriter HdfsError)
          → (are_options options ≡ false → (result ≡ Err (errors.InvalidArgument args.Options)) × (client' ≡ client) × (new ≡ old))
          → IfOk result (λ writer. OpensAt (λ at before file lease after.
          CreatesBy may_answer serves at options (rebuilding_of client) before old file lease after new) client src writer client')
          → (are_options options ≡ true → IfErr result (λ error.
          OpensNone (λ e at before after. FailsToCreate may_answer serves at options before old e after new) client src old error client' new))
          → Creates result
      create_does may_answer result refused ok err = by (are_options options) refl result refused ok err
        where
          by : (b : Bool) → are_options options ≡ b → (r : Result FileWriter HdfsError)
              → (are_options options ≡ false → (r ≡ Err (errors.InvalidArgument args.Options)) × (client' ≡ client) × (new ≡ old))
              → IfOk r (λ writer. OpensAt (λ at before file lease after.
              CreatesBy may_answer serves at options (rebuilding_of client) before old file lease after new) client src writer client')
              → (are_options options ≡ true → IfErr r (λ error.
              OpensNone (λ e at before after. FailsToCreate may_answer serves at options before old e after new) client src old error client' new))
              → Creates r
          by true limited (Ok writer) none opens fails = created_does may_answer limited writer opens
          by true limited (Err error) none opens fails = uncreated may_answer error (fails limited)
          by false out r none opens fails =
              let bad = none out in
              subst Creates (sym bad.0) (refused_create out bad.1 bad.2)

      -- And its mounts and its policy stay.
      pub create_parts : (may_answer : Ask → Answer → Type 0) (result : Result FileWriter HdfsError)
          → (are_options options ≡ false → (result ≡ Err (errors.InvalidArgument args.Options)) × (client' ≡ client) × (new ≡ old))
          → IfOk result (λ writer. OpensAt (λ at before file lease after.
          CreatesBy may_answer serves at options (rebuilding_of client) before old file lease after new) client src writer client')
          → (are_options options ≡ true → IfErr result (λ error.
          OpensNone (λ e at before after. FailsToCreate may_answer serves at options before old e after new) client src old error client' new))
          → KeepsParts client client'
      create_parts may_answer (Ok writer) refused opens fails = parts_but opens.others
      create_parts may_answer (Err error) refused opens fails = by (are_options options) refl
        where
          by : (b : Bool) → are_options options ≡ b → KeepsParts client client'
          by true limited = parts_none (λ e at before after. FailsToCreate may_answer serves at options before old e after new) (fails limited)
          by false out = let bad = refused out in (ap mounts_of bad.1, ap replacement_of bad.1)
